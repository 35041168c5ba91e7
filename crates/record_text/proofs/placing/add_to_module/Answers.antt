use Rattle.std.proofs.Common.{rules}
use Rattle.table_rules.specs.Meaning.{symbol_of}
use Rattle.record_text.specs.Placing.{in_symbol}
use Rattle.record_text.proofs.Lasts.{adds_on_last}
use Rattle.record_text.proofs.placing.add_to_module.Goals as goal

pub returns-in_err-on_last-in-Inner : goal.returns-in_err-on_last-in-Inner
returns-in_err-on_last-in-Inner c = let h = adds_on_last symbol_of (in_symbol c.in-Inner.part) _ _ _ _ c.in_err-on_last-in-Inner.ensures (λ x r y k. rw (← k.shows, ← k.leaves) (search rules)) in search rules

pub returns-in_ok-on_last-in-Inner : goal.returns-in_ok-on_last-in-Inner
returns-in_ok-on_last-in-Inner c = let h = adds_on_last symbol_of (in_symbol c.in-Inner.part) _ _ _ _ c.in_ok-on_last-in-Inner.ensures (λ x r y k. rw (← k.shows, ← k.leaves) (search rules)) in search rules
