-- Lemmas on names that get numbers in a table that grows.
use Rattle.std.proofs.Common.{◌≡◌, ℕ, ◌+◌, ◌<◌, ◌≤◌, List, [], ◌∷◌, ◌++◌, map, length, get_or, take, Ok, Err, Result, sym, refl, ap, ◌∙◌, subst, arith, Bor}
use Rattle.std.specs.List.{ContainsAt as Has, AllByRecursion}
use Rattle.std.specs.Result.{MatchResult, IsErrAnd}
use Rattle.std.proofs.ByRecursion.{All-push, All-weaker, has_get_or}
use Rattle.std.proofs.lemmas.List.{append_assoc, length-append, length-map, get_or_append_left, get_or-map, map_push, map_more}
use Rattle.ids.specs.declared.numbers.NameId.{NameId}
use Rattle.ids.specs.declared.paths.PathError.{PathError}
use Rattle.ids.specs.declared.paths.PathError.TheVariants.{Empty, TooLong}
use Rattle.ids.specs.declared.path_struct.Path.{Path}
use Rattle.ids.specs.Paths.{Makes}
use Rattle.words.specs.declared.spelling.PathFault.{PathFault}
use Rattle.words.specs.declared.spelling.PathFault.TheVariants.{EmptyName, TooManyNames, TooManyDistinctNames, NoMemory}
use Rattle.words.specs.Paths.{Unnumbered, Unspelled, PathRead}
use Rattle.words.specs.Interned.{Numbered}
use Rattle.words.specs.Texts.{Text, text_at}
use Rattle.words.specs.Spelled.{dot, Pieces, texts_of, Known, Extends, Numbers, Spells}

pub extends_on : (ts us vs : List Text) → Extends ts us → Extends us vs → Extends ts vs
extends_on ts us vs (more, e) (yet, f) = (more ++ yet, f ∙ ap (λ xs. xs ++ yet) e ∙ append_assoc ts more yet)

-- a name keeps its text
pub text_kept : (ts us : List Text) (n : ℕ) → Extends ts us → n < length ts → text_at us n ≡ text_at ts n
text_kept ts us n (more, e) h = ap (λ xs. text_at xs n) e ∙ get_or_append_left ts more [] n h

pub longer : (ts us : List Text) → Extends ts us → length ts ≤ length us
longer ts us (more, e) = omega (arith, ap length e, length-append ts more)

pub known_kept : (ts us : List Text) (ns : List NameId) → Extends ts us → Known ts ns → Known us ns
known_kept ts us ns ext = All-weaker _ _ (λ n h. omega (arith, longer ts us ext)) ns

pub texts_kept : (ts us : List Text) (ns : List NameId) → Extends ts us → Known ts ns → texts_of us ns ≡ texts_of ts ns
texts_kept ts us [] ext known = refl
texts_kept ts us (n ∷ ns) ext (here, rest) = let head = text_kept ts us n.0 ext here in let tail = texts_kept ts us ns ext rest in cc

pub numbered_kept : (ts us : List Text) (t : Text) (n : ℕ) → Extends ts us → Numbered ts t n → Numbered us t n
numbered_kept ts us t n ext h = record { within = omega (arith, h.within, longer ts us ext); same = text_kept ts us n ext h.within ∙ h.same }

-- a word that spells some names goes on to
pub spells_kept : (ts us : List Text) (w : Text) (ns : List NameId) → Extends ts us → Spells ts w ns → Spells us w ns
spells_kept ts us w ns ext h =
    let same = texts_kept ts us ns ext h.known in
    record {
      known = known_kept ts us ns ext h.known;
      pieces = rw same h.pieces;
      solid = rw same h.solid;
    }

-- one more name
pub numbers_more : (before ps after next : List Text) (ns : List NameId) (t : Text) (n : NameId) → Numbers before ps after ns → (0 < length t) × Numbered next t n.0 × Extends after next → Numbers before (ps ++ t ∷ []) next (ns ++ n ∷ [])
numbers_more before ps after next ns t n old (some, new, ext) =
    record {
      same =
          map_push (λ (m : NameId). text_at next m.0) ns n
          ∙ ap (λ xs. xs ++ (text_at next n.0 ∷ [])) (texts_kept after next ns ext old.known ∙ old.same)
          ∙ ap (λ x. ps ++ (x ∷ [])) new.same;
      known = All-push _ ns n (known_kept after next ns ext old.known) new.within;
      solid = All-push _ ps t old.solid some;
      grown = extends_on before after next old.grown ext;
    }

-- a turn of the loop over the pieces
pub numbers_turn : (before after next : List Text) (ps : List (Bor Text)) (i : ℕ) (d : Bor Text) (ns ms : List NameId) (n : NameId) → i < length ps → Numbers before (map (λ x. x.now) (take i ps)) after ns → (0 < length (get_or ps i d).now) × Numbered next (get_or ps i d).now n.0 × Extends after next → ms ≡ ns ++ n ∷ [] → Numbers before (map (λ x. x.now) (take (i + 1) ps)) next ms
numbers_turn before after next ps i d ns ms n h old new e =
    let more = numbers_more before _ after next ns (get_or ps i d).now n old new in
    let named = subst (λ (xs : List NameId). Numbers before (map (λ x. x.now) (take i ps) ++ (get_or ps i d).now ∷ []) next xs) (sym e) more in
    subst (λ (xs : List Text). Numbers before xs next ms) (sym (map_more (λ (x : Bor Text). x.now) ps i d h)) named

pub has_piece : (ps : List (Bor Text)) (i : ℕ) (d : Bor Text) → i < length ps → Has (map (λ x. x.now) ps) (get_or ps i d).now
has_piece ps i d h = subst (Has (map (λ x. x.now) ps)) (get_or-map (λ (x : Bor Text). x.now) ps i d [] h) (has_get_or (map (λ (x : Bor Text). x.now) ps) i [] (omega (arith, length-map ps (λ (x : Bor Text). x.now))))

-- a path of no names, or of too many, is made of no pieces, or of as many
pub too_many : (before ps after : List Text) (w : Text) (ns : List NameId) (n : ℕ) (e : PathError) → Pieces dot w ps → Numbers before ps after ns → Makes ns (Err e) → n ≡ length ns → Unspelled w (TooManyNames n)
too_many before ps after w ns n Empty cut old h len = absurd (omega (arith, h, cut.some, length-map ns (λ (m : NameId). text_at after m.0), ap length old.same))
too_many before ps after w ns n TooLong cut old h len = (ps, cut, omega (arith, length-map ns (λ (m : NameId). text_at after m.0), ap length old.same), omega arith)

-- pieces that are all names spell a path
pub spells : (before ps after : List Text) (w : Text) (ns : List NameId) → Pieces dot w ps → Numbers before ps after ns → Spells after w ns
spells before ps after w ns cut old =
    record {
      known = old.known;
      pieces = subst (Pieces dot w) (sym old.same) cut;
      solid = subst (AllByRecursion (λ t. 0 < length t)) (sym old.same) old.solid;
    }

-- the path that some names make, or why they make none; R says what the closure gives of the error
pub path_made : (before ps after : List Text) (w : Text) (ns : List NameId) (r : Result Path PathError) (s : Result Path PathFault) (R : PathError → PathFault → Type 0) → ((e : PathError) (f : PathFault) → R e f → f ≡ TooManyNames (length ns)) → Pieces dot w ps → Numbers before ps after ns → Makes ns r → MatchResult r (λ p. s ≡ Ok p) (λ e. IsErrAnd s (R e)) → PathRead before w after s
path_made before ps after w ns (Ok p) s R gives cut old made same = rw same (subst (λ (ms : List NameId). Spells after w ms) (sym made) (spells before ps after w ns cut old), old.grown)
path_made before ps after w ns (Err e) (Ok p) R gives cut old made same = absurd same
path_made before ps after w ns (Err e) (Err f) R gives cut old made same = rw (gives e f same) (too_many before ps after w ns (length ns) e cut old made refl)

-- pieces that are not all names spell none
pub unspelled : (ps : List Text) (w : Text) (u : PathFault) → Pieces dot w ps → Unnumbered ps u → Unspelled w u
unspelled ps w EmptyName cut h = (ps, cut, h)
unspelled ps w (TooManyNames n) cut h = absurd h
unspelled ps w TooManyDistinctNames cut h = tt
unspelled ps w NoMemory cut h = tt
