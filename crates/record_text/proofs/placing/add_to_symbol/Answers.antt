use Rattle.std.proofs.Common.{rules}
use Rattle.table_rules.specs.Meaning.{decl_of}
use Rattle.record_text.specs.Placing.{referring}
use Rattle.record_text.proofs.Lasts.{adds_on_last}
use Rattle.record_text.proofs.placing.add_to_symbol.Goals as goal

pub returns-in_err-on_last-in-Refers : goal.returns-in_err-on_last-in-Refers
returns-in_err-on_last-in-Refers c = let h = adds_on_last decl_of (referring c.in-Refers.reference) _ _ _ _ c.in_err-on_last-in-Refers.ensures (λ x r y k. rw (← k.shows, ← k.leaves) (search rules)) in search rules

pub returns-in_ok-on_last-in-Refers : goal.returns-in_ok-on_last-in-Refers
returns-in_ok-on_last-in-Refers c = let h = adds_on_last decl_of (referring c.in-Refers.reference) _ _ _ _ c.in_ok-on_last-in-Refers.ensures (λ x r y k. rw (← k.shows, ← k.leaves) (search rules)) in search rules
