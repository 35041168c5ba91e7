-- Two short ways. Assumes nothing.
use Rattle.std.specs.Prelude.{◌≡◌, ℕ, List, [], ◌∷◌}
use Rattle.ids.specs.declared.numbers.ModuleId.{ModuleId}
use Rattle.redirects.specs.Following.{followed}
use Rattle.redirects.specs.declared.redirect.Redirect.{Redirect}

abbrev module_number : ℕ → ModuleId
module_number n = record { 0 = n }

abbrev pub redirect : ℕ → ℕ → Redirect
redirect a b = record { from = module_number a; to = module_number b }

-- 0 to 1 and back
abbrev pub ring : List Redirect
ring = redirect 0 1 ∷ redirect 1 0 ∷ []

-- 0 to 1, 1 to 2, and so on to 10
abbrev pub chain : List Redirect
chain = redirect 0 1 ∷ redirect 1 2 ∷ redirect 2 3 ∷ redirect 3 4 ∷ redirect 4 5 ∷ redirect 5 6 ∷ redirect 6 7 ∷ redirect 7 8 ∷ redirect 8 9 ∷ redirect 9 10 ∷ []

pub record Examples : Type 0 where
  -- the ring is left where it would close
  pub ring_ends : followed ring (module_number 0) ≡ module_number 1
  -- of eleven modules in a row the tenth is the end
  pub chain_ends : followed chain (module_number 0) ≡ module_number 9
  -- a redirect to itself does nothing
  pub itself : followed (redirect 0 0 ∷ []) (module_number 0) ≡ module_number 0
