use Rattle.std.proofs.Common.{◌≡◌, drop}
use Rattle.host.specs.Lookups.{within, module_at}
use Rattle.resolution.specs.Targets as spec
use Rattle.resolution.proofs.targets.aim.Given as goal

abbrev pub invariant-loop-place : goal.invariant-loop-place
invariant-loop-place g l =
    let ds = within (λ x. x.dependencies) (module_at (g.H.Host.program l.host) l.«module») in
    spec.aim (drop l.place ds) l.specifier ≡ spec.aim ds l.specifier
