-- What stands in the lists of which the rules are made. Assumes nothing.
use Rattle.std.proofs.Common.{◌≡◌, ℕ, zero, suc, Bool, true, false, cond, ◌⊎◌, List, [], ◌∷◌, ◌++◌, is_some, Some, None, Option, sym, refl, ap, subst, inl, inr}
use Rattle.std.proofs.lemmas.Bool.{true≢false, false≢true}
use Rattle.std.specs.List.{slice_get, flat_map}
use Rattle.ids.specs.declared.numbers.SymbolId.{SymbolId}
use Rattle.rules.specs.Facts.{ask, Outcome, reached}
use Rattle.rules.specs.Lists.{when, given, asks}
use Rattle.rules.specs.Members.{In, first, later}
use Rattle.rules.specs.Rules.{Among}
use Rattle.rules.specs.Symbols.{both, includes}
use Rattle.rules.specs.declared.facts.Namespace.{Namespace}
use Rattle.rules.specs.declared.facts.Namespace.TheVariants.{Value, «Type»}

pub in_left : {X : Type 0} {x : X} {xs : List X} (ys : List X) → In x xs → In x (xs ++ ys)
in_left ys (first e) = first e
in_left ys (later h) = later (in_left ys h)

pub in_right : {X : Type 0} {x : X} (xs : List X) {ys : List X} → In x ys → In x (xs ++ ys)
in_right [] h = h
in_right (y ∷ xs) h = later (in_right xs h)

pub in_either : {X : Type 0} {x : X} (xs : List X) {ys : List X} → In x (xs ++ ys) → In x xs ⊎ In x ys
in_either [] h = inr h
in_either (y ∷ xs) (first e) = inl (first e)
in_either (y ∷ xs) (later h) = elim (in_either xs h) [ inl a ↦ inl (later a) | inr b ↦ inr b ]

in_none : {X : Type 0} {x : X} → In x [] → ⊥
in_none h = elim h [ ]

-- the list of one
pub in_one : {X : Type 0} {x y : X} → In x (y ∷ []) → x ≡ y
in_one (first e) = e
in_one (later h) = absurd (in_none h)

pub to_each : {X Y : Type 0} {y : Y} (f : X → List Y) (xs : List X) (x : X) → Among xs x → In y (f x) → In y (flat_map f xs)
to_each f [] x at h = absurd (true≢false (ap is_some (sym at.1)))
to_each {X = X} {y = y} f (z ∷ xs) x at h = by_place at.0 at.1 (λ rest. to_each f xs x rest h)
  where
    by_place : (i : ℕ) → slice_get (z ∷ xs) i ≡ Some x → (Among xs x → In y (flat_map f xs)) → In y (f z ++ flat_map f xs)
    by_place zero e rest = let same : x ≡ z = cc in in_left (flat_map f xs) (subst (λ u. In y (f u)) same h)
    by_place (suc i) e rest = in_right (f z) (rest (i, e))

pub from_each : {X Y : Type 0} {y : Y} (f : X → List Y) (xs : List X) → In y (flat_map f xs) → (x : X) × Among xs x × In y (f x)
from_each f [] h = absurd (in_none h)
from_each {X = X} {y = y} f (z ∷ xs) h = by_case (in_either (f z) h) (from_each f xs)
  where
    by_case : In y (f z) ⊎ In y (flat_map f xs) → (In y (flat_map f xs) → (x : X) × Among xs x × In y (f x)) → (x : X) × Among (z ∷ xs) x × In y (f x)
    by_case (inl here) rest = (z, (zero, refl), here)
    by_case (inr behind) rest = let r = rest behind in (r.0, (suc r.1.0, r.1.1), r.2)

pub to_when : {X : Type 0} {x : X} (b : Bool) (xs : List X) → b ≡ true → In x xs → In x (when b xs)
to_when true xs t h = h
to_when false xs t h = absurd (false≢true t)

pub from_when : {X : Type 0} {x : X} (b : Bool) (xs : List X) → In x (when b xs) → (b ≡ true) × In x xs
from_when true xs h = (refl, h)
from_when false xs h = absurd (in_none h)

pub to_given : {X Y : Type 0} {y : Y} (f : X → List Y) (o : Option X) (x : X) → o ≡ Some x → In y (f x) → In y (given f o)
to_given {y = y} f o x is h = subst (λ u. In y (given f u)) (sym is) h

pub from_given : {X Y : Type 0} {y : Y} (f : X → List Y) (o : Option X) → In y (given f o) → (x : X) × (o ≡ Some x) × In y (f x)
from_given f None h = absurd (in_none h)
from_given f (Some x) h = (x, refl, h)

-- either branch of a test
pub to_then : {X : Type 0} {x : X} (b : Bool) (xs ys : List X) → b ≡ true → In x xs → In x (cond b xs ys)
to_then true xs ys t h = h
to_then false xs ys t h = absurd (false≢true t)

pub to_else : {X : Type 0} {x : X} (b : Bool) (xs ys : List X) → b ≡ false → In x ys → In x (cond b xs ys)
to_else true xs ys t h = absurd (true≢false t)
to_else false xs ys t h = h

pub from_cond : {X : Type 0} {x : X} (b : Bool) (xs ys : List X) → In x (cond b xs ys) → ((b ≡ true) × In x xs) ⊎ ((b ≡ false) × In x ys)
from_cond true xs ys h = inl (refl, h)
from_cond false xs ys h = inr (refl, h)

-- a symbol that is asked in namespaces

pub to_asks : (s r : SymbolId) (ns : Bool × Bool) (n : Namespace) → includes ns n ≡ true → In (reached (ask s r n)) (asks s r ns)
to_asks s r ns Value t = in_left (when ns.1 (reached (ask s r «Type») ∷ [])) (to_when ns.0 (reached (ask s r Value) ∷ []) t (first refl))
to_asks s r ns «Type» t = in_right (when ns.0 (reached (ask s r Value) ∷ [])) (to_when ns.1 (reached (ask s r «Type») ∷ []) t (first refl))

pub to_both : (s r : SymbolId) (n : Namespace) → In (reached (ask s r n)) (asks s r both)
to_both s r Value = first refl
to_both s r «Type» = later (first refl)

pub from_asks : (s r : SymbolId) (ns : Bool × Bool) (o : Outcome) → In o (asks s r ns) → (n : Namespace) × (includes ns n ≡ true) × (o ≡ reached (ask s r n))
from_asks s r ns o h = by_case (in_either (when ns.0 (reached (ask s r Value) ∷ [])) h)
  where
    by_case : In o (when ns.0 (reached (ask s r Value) ∷ [])) ⊎ In o (when ns.1 (reached (ask s r «Type») ∷ [])) → (n : Namespace) × (includes ns n ≡ true) × (o ≡ reached (ask s r n))
    by_case (inl v) = let w = from_when ns.0 (reached (ask s r Value) ∷ []) v in (Value, w.0, in_one w.1)
    by_case (inr v) = let w = from_when ns.1 (reached (ask s r «Type») ∷ []) v in («Type», w.0, in_one w.1)
