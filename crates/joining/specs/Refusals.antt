-- The numbers of refusals. Assumes nothing.
use Rattle.std.specs.Prelude.{ℕ}
use Rattle.joining.specs.declared.refusals.Refusal.{Refusal}
use Rattle.joining.specs.declared.refusals.Refusal.TheVariants.{NoSuchModule, NoFreeRow}

-- 1 for a number past the last, 9 for a table that lacks free rows
abbrev pub number : Refusal → ℕ
number NoSuchModule = 1
number NoFreeRow = 9
