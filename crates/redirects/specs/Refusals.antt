-- Which redirects a layer may have, and why others are refused. Assumes nothing.
use Rattle.std.specs.Prelude.{◌≡◌, ℕ, ◌<◌, ◌≤◌, Bool, cond, ◌&&◌, List, map, length, Some, None, Option, nat_le, nat_lt}
use Rattle.std.specs.List.{AllByRecursion, list_all}
use Rattle.host.specs.Rules.{Distinct}
use Rattle.host.specs.Tests.{distinct}
use Rattle.redirects.specs.declared.redirect.Redirect.{Redirect}
use Rattle.redirects.specs.declared.refusals.Refusal.{Refusal}
use Rattle.redirects.specs.declared.refusals.Refusal.TheVariants.{PastTheLast, TwoStartAlike, TooMany}

-- the most redirects of a layer
abbrev pub redirect_limit : ℕ
redirect_limit = 256

-- 1 for redirects that do not fit the modules or one another, 9 for too many
abbrev pub number : Refusal → ℕ
number PastTheLast = 1
number TwoStartAlike = 1
number TooMany = 9

-- a redirect starts and ends at one of so many modules
abbrev pub Inside : ℕ → Redirect → Type 0
Inside modules r = (r.from.0 < modules) × (r.to.0 < modules)

-- the numbers of the modules at which redirects start
abbrev pub starts : List Redirect → List ℕ
starts rs = map (λ r. r.from.0) rs

-- the redirects that a layer over so many modules may have
pub record Fit (modules : ℕ) (rs : List Redirect) : Type 0 where
  pub inside : AllByRecursion (Inside modules) rs
  pub apart : Distinct (starts rs)
  pub few : length rs ≤ redirect_limit

-- what a refusal says of the redirects
abbrev pub Says : ℕ → List Redirect → Refusal → Type 0
Says modules rs PastTheLast = AllByRecursion (Inside modules) rs → ⊥
Says modules rs TwoStartAlike = AllByRecursion (Inside modules) rs × (Distinct (starts rs) → ⊥)
Says modules rs TooMany = AllByRecursion (Inside modules) rs × (Distinct (starts rs) × (redirect_limit < length rs))

-- for any redirects, that they fit or one of the refusals is right, and not two of these
pub record OneAlone (modules : ℕ) (rs : List Redirect) : Type 0 where
  pub not_both : Fit modules rs → (e : Refusal) → Says modules rs e → ⊥
  pub same : (a b : Refusal) → Says modules rs a → Says modules rs b → a ≡ b

-- the same as tests that compute

abbrev pub inside : ℕ → Redirect → Bool
inside modules r = nat_lt r.from.0 modules && nat_lt r.to.0 modules

-- the refusal that redirects meet, if any
abbrev pub refusal : ℕ → List Redirect → Option Refusal
refusal modules rs = cond (list_all (inside modules) rs) (cond (distinct (starts rs)) (cond (nat_le (length rs) redirect_limit) None (Some TooMany)) (Some TwoStartAlike)) (Some PastTheLast)

-- the number that redirects are refused with, if they are: 1 is looked at before 9
abbrev pub refused_with : ℕ → List Redirect → Option ℕ
refused_with modules rs = cond (list_all (inside modules) rs && distinct (starts rs)) (cond (nat_le (length rs) redirect_limit) None (Some 9)) (Some 1)
