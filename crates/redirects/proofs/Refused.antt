-- The tests of redirects say the same as the rules. Assumes nothing.
use Rattle.std.proofs.Common.{◌≡◌, ℕ, ◌≤◌, Bool, true, false, cond, ltb, leb, List, [], ◌∷◌, length, Some, None, Decides, Option, refl, ap, ◌∙◌, arith}
use Rattle.std.proofs.lemmas.Bool.{lt-ltb}
use Rattle.std.proofs.lemmas.Bool.Decides.{Decides-ltb, Decides-and, not_from_Decides}
use Rattle.std.specs.List.{AllByRecursion, list_all}
use Rattle.host.proofs.Decided.{decides_leb, decides_all, decides_distinct}
use Rattle.host.specs.Rules.{Distinct}
use Rattle.host.specs.Tests.{distinct}
use Rattle.redirects.specs.Following.{usable}
use Rattle.redirects.specs.Refusals.{redirect_limit, Inside, starts, Fit, Says, inside, refusal}
use Rattle.redirects.specs.declared.redirect.Redirect.{Redirect}
use Rattle.redirects.specs.declared.refusals.Refusal.{Refusal}
use Rattle.redirects.specs.declared.refusals.Refusal.TheVariants.{PastTheLast, TwoStartAlike, TooMany}

-- the refusal that comes out is the right one

abbrev Right : ℕ → List Redirect → Option Refusal → Type 0
Right n rs None = Fit n rs
Right n rs (Some e) = Says n rs e

module _ (n : ℕ) (rs : List Redirect) where
  decides_inside : Decides (list_all (inside n) rs) (AllByRecursion (Inside n) rs)
  decides_inside = decides_all (inside n) (Inside n) (λ r. Decides-and (ltb r.from.0 n) (ltb r.to.0 n) (Decides-ltb r.from.0 n) (Decides-ltb r.to.0 n)) rs

  by_tests : (a b f : Bool) → Decides a (AllByRecursion (Inside n) rs) → Decides b (Distinct (starts rs)) → Decides f (length rs ≤ redirect_limit) → Right n rs (cond a (cond b (cond f None (Some TooMany)) (Some TwoStartAlike)) (Some PastTheLast))
  by_tests true true true in_all apart few = record { inside = in_all.0 refl; apart = apart.0 refl; few = few.0 refl }
  by_tests true true false in_all apart few = let many = not_from_Decides false few refl in (in_all.0 refl, (apart.0 refl, omega (arith, many)))
  by_tests true false f in_all apart few = (in_all.0 refl, not_from_Decides false apart refl)
  by_tests false b f in_all apart few = not_from_Decides false in_all refl

  right : Right n rs (refusal n rs)
  right = by_tests (list_all (inside n) rs) (distinct (starts rs)) (leb (length rs) redirect_limit) decides_inside (decides_distinct (starts rs)) (decides_leb (length rs) redirect_limit)

  pub fits : refusal n rs ≡ None → Fit n rs
  fits e = rw e at right

  pub says : (e : Refusal) → refusal n rs ≡ Some e → Says n rs e
  says r e = rw e at right

-- of redirects that fit, none is passed over
pub all_usable : (n : ℕ) (rs : List Redirect) → AllByRecursion (Inside n) rs → usable n rs ≡ rs
all_usable n [] h = refl
all_usable n (r ∷ rs) h = ap (λ b. cond b (r ∷ usable n rs) (usable n rs)) (lt-ltb r.to.0 n h.0.1) ∙ ap (λ l. r ∷ l) (all_usable n rs h.1)
