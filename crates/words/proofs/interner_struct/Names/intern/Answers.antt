use Rattle.std.proofs.Common.{◌≡◌, cond, [], ◌∷◌, ◌++◌, is_ok}
use Rattle.words.specs.Texts.{texts_in}
use Rattle.words.specs.Interned.{texts}
use Rattle.words.proofs.Tables.{texts_counted, pushed_text, distinct_pushed}
use Rattle.words.proofs.interner_struct.Names.intern.Goals as goal
use Rattle.words.proofs.interner_struct.Names.intern.Goals.{After-push}

-- the texts after the push
grown : (c : After-push) → texts_in c.push.new.self ≡ cond (is_ok c.push.result) (texts c.args.self.now ++ c.args.text.now ∷ []) (texts c.args.self.now)
grown c = pushed_text (is_ok c.push.result) c.args.self.now.items.items _ c.in_ok-item.item _ c.push.ensures.items c.in_ok-item.ensures.ok

pub invariant_of-self-clause-distinct : goal.invariant_of-self-clause-distinct
invariant_of-self-clause-distinct c = distinct_pushed _ _ _ _ (grown c) c.args.self.now.distinct c.in_default.ensures

pub invariant_of-self-clause-count : goal.invariant_of-self-clause-count
invariant_of-self-clause-count c = texts_counted c.push.new.self
