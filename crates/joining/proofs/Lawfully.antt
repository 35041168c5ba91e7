-- The laws of joining, for every record and request. Assumes nothing.
use Rattle.std.proofs.Common.{◌≡◌, true, not, ◌&&◌, ◌||◌, List, [], ◌∷◌, None, sym, refl, ◌∙◌, arith}
use Rattle.std.proofs.lemmas.Bool.{false≢true, cond_both, not_from_false}
use Rattle.ids.specs.declared.numbers.NameId.{NameId}
use Rattle.ids.specs.declared.path_struct.Path.{Path}
use Rattle.ids.specs.Paths.{names_of, default_path}
use Rattle.joining.specs.Covering.{of_default}
use Rattle.joining.specs.Joining.{Record, star, full, kept, some_covers, some_of_default, default_names, joined, handed, joined_paths}
use Rattle.joining.specs.Laws.{covers_record, covers_request, covers_handed, meets_default, New, Lawful, is_star, CoversBoth}
use Rattle.joining.specs.declared.requests.Request.{Request}
use Rattle.joining.specs.declared.requests.Request.TheVariants.{Path as Ask, Star, Full}
use Rattle.joining.proofs.Covered.{covers_self, path_begins, default_covers, some_chain, some_default, some_above_default, with_path, fresh, fresh_uncovered, fresh_not_default}

coverage : (b : Record) (r : Request) (q : List NameId) → covers_record (joined b r) q ≡ (covers_record b q || (covers_request r q || (meets_default b r && of_default q)))
coverage full r q = refl
coverage star (Ask p) q = grind (arith, path_begins p q)
coverage star Star q = grind arith
coverage star Full q = grind arith
coverage (kept ps) (Ask p) q = grind (arith, with_path p ps q, some_chain ps (names_of p) q)
coverage (kept ps) Star q = grind (arith, some_default ps q)
coverage (kept ps) Full q = grind arith

nothing_lost : (b : Record) (r : Request) (q : List NameId) → covers_record (joined b r) q ≡ (covers_record b q || covers_handed (handed b r) q)
nothing_lost full r q = refl
nothing_lost star (Ask p) q = grind (arith, default_covers q)
nothing_lost star Star q = grind arith
nothing_lost star Full q = grind (arith, default_covers q)
nothing_lost (kept ps) (Ask p) q = grind (arith, with_path p ps q)
nothing_lost (kept ps) Star q = grind (arith, some_default ps q, some_above_default ps q)
nothing_lost (kept ps) Full q = grind arith

nothing_twice : (b : Record) (r : Request) → ((q : List NameId) → covers_request r q ≡ true → covers_record b q ≡ true) → (handed b r ≡ None) × (joined b r ≡ b)
nothing_twice full r h = (refl, refl)
nothing_twice star (Ask p) h =
    let covered = h (names_of p) (covers_self (names_of p)) in
    (grind (arith, covered), grind (arith, covered))
nothing_twice star Star h = (refl, refl)
nothing_twice star Full h = absurd (false≢true (h default_names refl))
nothing_twice (kept ps) (Ask p) h =
    let covered = h (names_of p) (covers_self (names_of p)) in
    (grind (arith, covered), grind (arith, covered))
nothing_twice (kept ps) Star h = absurd (grind (arith, h (names_of (fresh ps)), fresh_uncovered ps, fresh_not_default ps))
nothing_twice (kept ps) Full h = absurd (false≢true (sym (fresh_uncovered ps) ∙ h (names_of (fresh ps)) refl))

something_new : (b : Record) (r : Request) → New b (handed b r)
something_new full r = tt
something_new star (Ask p) = cond_both (of_default (names_of p)) _ _ (New star) (λ e. (default_path, refl, refl)) (λ e. tt)
something_new star Star = tt
something_new star Full = (default_path, refl, refl)
something_new (kept ps) (Ask p) = cond_both (some_covers ps (names_of p)) _ _ (New (kept ps)) (λ e. tt) (λ e. (p, covers_self (names_of p), e))
something_new (kept ps) Star = cond_both (some_of_default ps && not (some_covers ps default_names)) _ _ (New (kept ps)) (λ e. (fresh ps, refl, fresh_uncovered ps)) (λ e. (fresh ps, not_from_false (of_default (names_of (fresh ps))) (fresh_not_default ps), fresh_uncovered ps))
something_new (kept ps) Full = (fresh ps, refl, fresh_uncovered ps)

once : (b : Record) (r : Request) → (handed (joined b r) r ≡ None) × (joined (joined b r) r ≡ joined b r)
once b r = nothing_twice (joined b r) r (λ q h. grind (arith, coverage b r q))

pub lawful : (b : Record) (r : Request) → Lawful b r
lawful b r = record {
  coverage = coverage b r;
  nothing_lost = nothing_lost b r;
  nothing_twice = nothing_twice b r;
  something_new = something_new b r;
  once = once b r;
}

-- a record joined to another

-- kept paths joined one after another
paths_coverage : (a : Record) (ps : List Path) (q : List NameId) → covers_record (joined_paths a ps) q ≡ (covers_record a q || (some_covers ps q || ((is_star a && some_of_default ps) && of_default q)))
paths_coverage star [] q = grind arith
paths_coverage full [] q = refl
paths_coverage (kept ks) [] q = grind arith
paths_coverage full (p ∷ ps) q = paths_coverage full ps q
paths_coverage (kept ks) (p ∷ ps) q = grind (arith, coverage (kept ks) (Ask p) q, paths_coverage (joined (kept ks) (Ask p)) ps q)
paths_coverage star (p ∷ ps) q = grind (arith, coverage star (Ask p) q, paths_coverage (joined star (Ask p)) ps q, path_begins p q)

pub covers_both : (a b : Record) → CoversBoth a b
covers_both star star q = coverage star Star q
covers_both full star q = refl
covers_both (kept ps) star q = grind (arith, coverage (kept ps) Star q)
covers_both star full q = coverage star Full q
covers_both full full q = refl
covers_both (kept ps) full q = coverage (kept ps) Full q
covers_both star (kept ps) q = grind (arith, paths_coverage star ps q)
covers_both full (kept ps) q = paths_coverage full ps q
covers_both (kept ks) (kept ps) q = grind (arith, paths_coverage (kept ks) ps q)
