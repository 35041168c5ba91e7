-- What stands behind a path's last name settles nothing: paths of the same names are the same. Assumes nothing.
use Rattle.std.proofs.Common.{◌≡◌, ℕ, ◌+◌, ◌<◌, ◌≤◌, Bool, true, eqb, ◌==◌, eq-eqb, List, [], ◌∷◌, length, get_or, drop, Decides, sym, refl, ap, ◌∙◌, subst, arith, length-drop, take-append-drop}
use mathlib.Core.Bool.{Bool-set}
use mathlib.Core.HLevel.{is_prop→PathP}
use native.Mathlib.Bridge.{le_prop}
use native.Mathlib.Nat.{ℕ_set}
use Rattle.std.proofs.lemmas.List.{drop_more, length-take-le}
use Rattle.std.proofs.lemmas.Bool.{and_parts, and_from, eqb-true, false≢true}
use Rattle.std.specs.Cmp.Lexicographic.{pointwise}
use Rattle.std.specs.Ordering.{on}
use Rattle.ids.specs.Names.{limit, default_name, blank}
use Rattle.ids.specs.Paths.{names_of}
use Rattle.ids.specs.declared.numbers.NameId.{NameId}
use Rattle.ids.specs.declared.path_struct.Path.{Path}

-- what follows a blank is blank
pub blank_rest : (ns : List NameId) (i : ℕ) → i < length ns → blank (drop i ns) ≡ true → blank (drop (i + 1) ns) ≡ true
blank_rest ns i within all =
    let cut = drop_more ns i default_name within in
    (and_parts (eqb (get_or ns i default_name).0 0) _ (rw cut at all)).1

blank_same : (ms ns : List NameId) → length ms ≡ length ns → blank ms ≡ true → blank ns ≡ true → ms ≡ ns
blank_same [] [] long m n = refl
blank_same [] (y ∷ ns) long m n = absurd (omega arith)
blank_same (x ∷ ms) [] long m n = absurd (omega arith)
blank_same (x ∷ ms) (y ∷ ns) long m n =
    let mx = and_parts (eqb x.0 0) (blank ms) m in
    let ny = and_parts (eqb y.0 0) (blank ns) n in
    let heads : x.0 ≡ y.0 = omega (arith, eqb-true x.0 0 mx.0, eqb-true y.0 0 ny.0) in
    let head : x ≡ y = ap (λ k. record { 0 = k }) heads in
    let rest = blank_same ms ns (omega arith) mx.1 ny.1 in
    cc

pub length_names : (p : Path) → length (names_of p) ≡ p.len
length_names p = length-take-le p.len p.names (omega (arith, p.wide, p.few))

module _ (p q : Path) (same : names_of p ≡ names_of q) where
  same_len : p.len ≡ q.len
  same_len = sym (length_names p) ∙ ap length same ∙ length_names q

  names_alike : p.names ≡ q.names
  names_alike =
      let long : length (drop p.len p.names) ≡ length (drop q.len q.names) = simp length-drop (omega (arith, p.wide, q.wide, same_len)) in
      let rest = blank_same (drop p.len p.names) (drop q.len q.names) long p.padded q.padded in
      let a = take-append-drop p.len p.names in
      let b = take-append-drop q.len q.names in
      cc (same)

  -- paths of the same names are the same
  pub same_path : p ≡ q
  same_path = λ i. record {
    names = names_alike i;
    len = same_len i;
    wide = is_prop→PathP (λ j. length (names_alike j) ≡ limit) (λ j. ℕ_set (length (names_alike j)) limit) p.wide q.wide i;
    some = is_prop→PathP (λ j. 1 ≤ same_len j) (λ j. le_prop {n = 1} {m = same_len j}) p.some q.some i;
    few = is_prop→PathP (λ j. same_len j ≤ limit) (λ j. le_prop {n = same_len j} {m = limit}) p.few q.few i;
    padded = is_prop→PathP (λ j. blank (drop (same_len j) (names_alike j)) ≡ true) (λ j. Bool-set (blank (drop (same_len j) (names_alike j))) true) p.padded q.padded i;
  }

-- what `==` on slices of names says

name_same : (x y : NameId) → (x.0 == y.0) ≡ true → x ≡ y
name_same x y h = ap (λ k. record { 0 = k }) (eqb-true x.0 y.0 h)

each_is : (ms ns : List NameId) → pointwise (on (λ (n : NameId). n.0) ◌==◌) ms ns ≡ true → ms ≡ ns
each_is [] [] h = refl
each_is [] (y ∷ ns) h = absurd (false≢true h)
each_is (x ∷ ms) [] h = absurd (false≢true h)
each_is (x ∷ ms) (y ∷ ns) h =
    let parts = and_parts (x.0 == y.0) (pointwise (on (λ (n : NameId). n.0) ◌==◌) ms ns) h in
    λ i. name_same x y parts.0 i ∷ each_is ms ns parts.1 i

each_itself : (ms : List NameId) → pointwise (on (λ (n : NameId). n.0) ◌==◌) ms ms ≡ true
each_itself [] = refl
each_itself (x ∷ ms) = and_from (x.0 == x.0) _ (eq-eqb x.0 x.0 refl) (each_itself ms)

pub names_decide : (ms ns : List NameId) → Decides (pointwise (on (λ (n : NameId). n.0) ◌==◌) ms ns) (ms ≡ ns)
names_decide ms ns = (each_is ms ns, λ s. subst (λ l. pointwise (on (λ (n : NameId). n.0) ◌==◌) ms l ≡ true) s (each_itself ms))

pub paths_decide : (p q : Path) (r : Bool) → Decides r (names_of p ≡ names_of q) → Decides r (p ≡ q)
paths_decide p q r d = (λ t. same_path p q (d.0 t), λ e. d.1 (ap names_of e))
