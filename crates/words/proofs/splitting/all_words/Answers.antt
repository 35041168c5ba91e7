use Rattle.std.proofs.Common.{rules}
use Rattle.words.proofs.Worded.{words_turn, front_end, shorter}
use Rattle.words.proofs.splitting.all_words.Goals as goal

pub loop-word-smaller : goal.loop-word-smaller
loop-word-smaller c = shorter _ c.in-Some.word.now _ c.in-Some.ensures

pub loop-word-preserved : goal.loop-word-preserved
loop-word-preserved c = (search rules, words_turn _ _ _ _ _ c.in-Some.word c.loop-word.invariant.1 c.in-Some.ensures c.in_ok-push.ensures.items)

pub returns : goal.returns
returns c = front_end _ _ _ c.loop-word.invariant.1 c.in_default.ensures
