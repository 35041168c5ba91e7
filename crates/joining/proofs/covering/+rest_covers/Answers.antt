use Rattle.std.proofs.Common.{◌&&◌, drop, sym, ap, ◌∙◌, arith, ltb-false, ltb-true}
use Rattle.std.proofs.lemmas.List.{take_rest}
use Rattle.ids.specs.Names.{default_name}
use Rattle.joining.specs.Covering.{covers}
use Rattle.joining.proofs.Fronts.{covers_none, covers_more}
use Rattle.joining.proofs.covering.+rest_covers.Goals as goal

pub returns-in-empty : goal.returns-in-empty
returns-in-empty t c = covers_none c.args.front.now c.args.path.now (omega (arith, ltb-true))

pub returns-then-eq : goal.returns-then-eq
returns-then-eq t c =
    let front = c.args.front.now in
    let path = c.args.path.now in
    let rest = rw (take_rest front 1, take_rest path 1) at c.rest_covers.ensures in
    let more = covers_more front path default_name (omega (arith, ltb-false)) (omega (arith, ltb-false)) in
    let heads = sym c.eq.ensures ∙ c.if-eq.true in
    rest ∙ sym (more ∙ ap (λ b. b && covers (drop 1 front) (drop 1 path)) heads)
