-- The steps of a standing module. Assumes nothing.
use Rattle.std.proofs.Common.{◌≡◌, ℕ, zero, suc, ◌⊎◌, Some, None, refl, ap, ◌∙◌, inl, inr, arith}
use Rattle.ids.specs.declared.numbers.ModuleId.{ModuleId}
use Rattle.host.specs.Lookups.{module_at}
use Rattle.host.specs.Program.{Program}
use Rattle.resolution.specs.Targets.{types_of, onward, entered, standing}

pub standing_none : (p : Program) (m : ModuleId) → standing p zero m ≡ m
unfolding standing
standing_none p m = refl

pub standing_more : (p : Program) (k : ℕ) (m : ModuleId) → standing p (suc k) m ≡ onward (standing p k) m (entered p (types_of (module_at p m)))
unfolding standing
standing_more p k m = refl

-- no step is left, or none can be taken
pub standing_stays : (p : Program) (n : ℕ) (m : ModuleId) → (n ≡ 0) ⊎ (entered p (types_of (module_at p m)) ≡ None) → standing p n m ≡ m
standing_stays p zero m stop = standing_none p m
standing_stays p (suc n) m (inl none) = absurd (omega arith)
standing_stays p (suc n) m (inr none) = standing_more p n m ∙ ap (onward (standing p n) m) none

-- a step is taken
pub standing_goes : (p : Program) (n k : ℕ) (m t : ModuleId) → n ≡ suc k → entered p (types_of (module_at p m)) ≡ Some t → standing p n m ≡ standing p k t
standing_goes p n k m t is step = ap (λ j. standing p j m) is ∙ standing_more p k m ∙ ap (onward (standing p k) m) step
