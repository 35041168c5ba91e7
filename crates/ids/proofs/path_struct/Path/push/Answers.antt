use Rattle.std.proofs.Common.{◌+◌, refl, arith, length-set}
use Rattle.std.proofs.lemmas.List.{take_more_set, drop-set-lt}
use Rattle.ids.proofs.Padding.{blank_rest}
use Rattle.ids.proofs.path_struct.Path.push.Goals as goal

pub invariant_of-self : goal.invariant_of-self
invariant_of-self c =
    let p = c.args.self.now in
    record {
      wide = simp length-set p.wide;
      some = omega arith;
      few = omega (arith, c.requires);
      padded = rw (drop-set-lt (p.len + 1) p.names p.len c.args.name (omega arith)) (blank_rest p.names p.len (omega (arith, p.wide, c.requires)) p.padded);
    }

pub returns : goal.returns
returns c =
    let p = c.args.self.now in
    record { names = take_more_set p.names p.len c.args.name (omega (arith, p.wide, c.requires)); len = refl }
