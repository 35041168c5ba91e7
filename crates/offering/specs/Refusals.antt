-- The numbers of refusals. Assumes nothing.
use Rattle.std.specs.Prelude.{ℕ}
use Rattle.offering.specs.declared.refusals.Refusal.{Refusal}
use Rattle.offering.specs.declared.refusals.Refusal.TheVariants.{ShortSheet}

-- 7 for a mark sheet that is shorter than the modules
abbrev pub number : Refusal → ℕ
number ShortSheet = 7
