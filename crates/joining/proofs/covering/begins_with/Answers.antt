use Rattle.std.proofs.Common.{Decides, sym, subst}
use Rattle.joining.proofs.Fronts.{covers_front}
use Rattle.joining.specs.Covering.{Front}
use Rattle.joining.proofs.covering.begins_with.Goals as goal

pub returns : goal.returns
returns c =
    let front = c.args.front.now in
    let path = c.args.path.now in
    let value = c.rest_covers.ensures in
    record { value = value; front = subst (λ r. Decides r (Front front path)) (sym value) (covers_front front path) }
