-- Where redirects lead. Assumes nothing.
use Rattle.std.specs.Prelude.{ℕ, zero, suc, ◌-◌, Bool, false, cond, ◌||◌, List, [], ◌∷◌, ◌++◌, Some, None, filter, Option, ◌==◌, nat_lt}
use Rattle.ids.specs.declared.numbers.ModuleId.{ModuleId}
use Rattle.redirects.specs.declared.redirect.Redirect.{Redirect}

-- the most modules that are seen on one way, the start among them
abbrev pub seen_limit : ℕ
seen_limit = 10

-- a redirect that stays among so many modules
abbrev pub stays : ℕ → Redirect → Bool
stays modules r = nat_lt r.to.0 modules

-- the redirects that stay among so many modules
abbrev pub usable : ℕ → List Redirect → List Redirect
usable modules rs = filter (stays modules) rs

-- where the first redirect from m goes, if one starts there
abbrev pub next : List Redirect → ModuleId → Option ModuleId
next [] m = None
next (r ∷ rs) m = cond (r.from.0 == m.0) (Some r.to) (next rs m)

-- whether m is among the modules seen
abbrev pub seen_before : ModuleId → List ModuleId → Bool
seen_before m [] = false
seen_before m (s ∷ seen) = s.0 == m.0 || seen_before m seen

-- where the way ends that has come to m and seen these modules, m the last of them, with so many more that it may see
abbrev pub walk : List Redirect → ℕ → List ModuleId → ModuleId → ModuleId
walk rs zero seen m = m
walk rs (suc more) seen m = elim (next rs m) [
  | None ↦ m
  | Some to ↦ cond (seen_before to seen) m (walk rs more (seen ++ to ∷ []) to)
]

-- where m is sent in the end
unfoldable pub followed : List Redirect → ModuleId → ModuleId
followed rs m = walk rs (seen_limit - 1) (m ∷ []) m
