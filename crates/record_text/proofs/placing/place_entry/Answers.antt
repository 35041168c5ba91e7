use Rattle.std.proofs.Common.{rules}
use Rattle.table_rules.specs.Meaning.{package_of}
use Rattle.record_text.specs.Placing.{in_package}
use Rattle.record_text.proofs.Lasts.{adds_on_last}
use Rattle.record_text.proofs.placing.place_entry.Goals as goal

pub returns-in-Some-Package : goal.returns-in-Some-Package
returns-in-Some-Package c = let h = adds_on_last package_of (in_package c.args.module) _ _ _ _ c.on_last.ensures (λ x r y k. rw (← k.shows, ← k.leaves) (search rules)) in search rules
