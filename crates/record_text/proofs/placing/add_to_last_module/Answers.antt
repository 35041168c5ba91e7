use Rattle.std.proofs.Common.{rules}
use Rattle.table_rules.specs.Meaning.{module_of}
use Rattle.record_text.specs.Placing.{in_module}
use Rattle.record_text.proofs.Lasts.{adds_on_last}
use Rattle.record_text.proofs.placing.add_to_last_module.Goals as goal

pub returns : goal.returns
returns c = let h = adds_on_last module_of (in_module c.args.part) _ _ _ _ c.on_last.ensures (λ x r y k. rw (← k.shows, ← k.leaves) (search rules)) in search rules
