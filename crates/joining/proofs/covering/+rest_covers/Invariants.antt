use Rattle.std.proofs.Common.{length}
use Rattle.joining.proofs.covering.+rest_covers.Given as goal

abbrev pub decreases-rest_covers : goal.decreases-rest_covers
decreases-rest_covers l = length l.front.now
