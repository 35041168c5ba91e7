use Rattle.std.proofs.Common.{◌≡◌, ◌-◌}
use Rattle.resolution.specs.Targets as spec
use Rattle.resolution.proofs.targets.standing_module.Given as goal

abbrev pub invariant-loop : goal.invariant-loop
invariant-loop g l = spec.standing (g.H.Host.program l.host) (spec.types_steps - l.counter) l.standing ≡ spec.stands (g.H.Host.program l.host) l.initial.standing
