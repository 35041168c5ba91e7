use Rattle.std.proofs.Common.{rules}
use Rattle.record_text.specs.Fields.{SymbolSaid}
use Rattle.record_text.proofs.Refusing.{or_none_read}
use Rattle.record_text.proofs.fields.symbol_or_none.Goals as goal

pub returns : goal.returns
returns c = or_none_read SymbolSaid _ _ _ c.args.word.now c.args.place _ c.or_none.ensures (λ x h. search rules) (λ u h. rw (← h.1) (search rules))
