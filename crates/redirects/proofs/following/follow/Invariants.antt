use Rattle.std.proofs.Common.{◌≡◌, ◌-◌, length, take}
use Rattle.redirects.specs.Following as spec
use Rattle.redirects.proofs.following.follow.Given as goal

abbrev pub invariant-loop-count : goal.invariant-loop-count
invariant-loop-count l = (spec.walk (spec.usable l.modules l.redirects) (10 - l.count) (take l.count l.seen) l.end ≡ spec.followed (spec.usable l.modules l.redirects) l.initial.end) × (length l.seen ≡ 10)
