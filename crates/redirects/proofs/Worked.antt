-- The worked examples. Assumes nothing.
use Rattle.std.proofs.Common.{refl}
use Rattle.redirects.specs.Examples.{Examples}
use Rattle.redirects.specs.Following.{followed}

pub worked : Examples
unfolding followed
worked = record { ring_ends = refl; chain_ends = refl; itself = refl }
