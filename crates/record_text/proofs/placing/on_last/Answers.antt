use Rattle.std.proofs.Common.{◌-◌, take, refl, inr, subst, arith}
use Rattle.std.specs.List.{ItemMut}
use Rattle.record_text.proofs.Lasts.{last_apart, last_set}
use Rattle.record_text.proofs.placing.on_last.Goals as goal

pub returns : goal.returns
returns g c =
    let all = c.args.items.now in
    let item = subst (ItemMut all.items 0 (all.len - 1)) c.in_ok-ok_or.ensures.ok_part c.last_mut.ensures.item in
    record { outcome = inr (take (all.len - 1) all.items, c.in_ok-ok_or.field-0.now, c.add.new.arg2, last_apart all.items all.len _ all.ok.0 (omega (arith, item.3.0, all.ok.0)) item.1, last_set all.items all.len _ all.ok.0 (omega (arith, item.3.0, all.ok.0)), record { shown = c.in_ok-ok_or.field-0; shows = refl; left = _; met = c.add.ensures; leaves = refl }) }
