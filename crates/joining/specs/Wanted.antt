-- The rows that a request may need. Assumes nothing.
use Rattle.std.specs.Prelude.{ℕ}
use Rattle.joining.specs.declared.requests.Request.{Request}
use Rattle.joining.specs.declared.requests.Request.TheVariants.{Path as Ask, Star, Full}

-- a path may need a row; star and full never do
abbrev pub rows_wanted : Request → ℕ
rows_wanted (Ask p) = 1
rows_wanted Star = 0
rows_wanted Full = 0
