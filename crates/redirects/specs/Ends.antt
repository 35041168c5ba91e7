-- What the end of a way is, by the redirects that lead to it. Assumes nothing.
use Rattle.std.specs.Prelude.{◌≡◌, ℕ, ◌<◌, ◌≤◌, List, [], ◌∷◌, ◌++◌, length, ◌≢◌}
use Rattle.std.specs.List.{HoldsAt, AllByRecursion}
use Rattle.ids.specs.declared.numbers.ModuleId.{ModuleId}
use Rattle.redirects.specs.Following.{seen_limit}
use Rattle.redirects.specs.declared.redirect.Redirect.{Redirect}

-- a redirect goes from one module to another
abbrev pub Goes : List Redirect → ModuleId → ModuleId → Type 0
Goes rs a b = (k : ℕ) × (k < length rs) × HoldsAt (λ r. (r.from.0 ≡ a.0) × (r.to ≡ b)) rs k

-- no redirect starts at a module
abbrev pub NoneStarts : List Redirect → ModuleId → Type 0
NoneStarts rs m = AllByRecursion (λ r. r.from.0 ≢ m.0) rs

abbrev pub Seen : ModuleId → List ModuleId → Type 0
Seen m seen = (k : ℕ) × (k < length seen) × HoldsAt (λ s. s.0 ≡ m.0) seen k

-- a way from `start`: the modules seen, and the last of them. Each step is a redirect to a module not seen before
pub data Way (rs : List Redirect) (start : ModuleId) : List ModuleId → ModuleId → Type 0 where
  stay : Way rs start (start ∷ []) start
  go : {seen : List ModuleId} {m to : ModuleId} → Way rs start seen m → Goes rs m to → (Seen to seen → ⊥) → Way rs start (seen ++ to ∷ []) to

-- the three reasons for a way to end: no redirect starts there, one leads to a module seen before, ten modules are seen
pub data Stops (rs : List Redirect) (seen : List ModuleId) (m : ModuleId) : Type 0 where
  none_starts : NoneStarts rs m → Stops rs seen m
  comes_back : (to : ModuleId) → Goes rs m to → Seen to seen → Stops rs seen m
  ten_seen : length seen ≡ seen_limit → Stops rs seen m

-- from `start` the way ends at `end`: it is reached by at most nine steps, stops for one of the three reasons, and is the
-- start where no redirect starts there
pub record Ends (rs : List Redirect) (start end : ModuleId) : Type 0 where
  pub seen : List ModuleId
  pub way : Way rs start seen end
  pub few : length seen ≤ seen_limit
  pub why : Stops rs seen end
  pub unmoved : NoneStarts rs start → end ≡ start
