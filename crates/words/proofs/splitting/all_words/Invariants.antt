use Rattle.std.proofs.Common.{map, length, vec_items}
use denote.Text.{Utf8}
use denote.Shadow.{shadow}
use Rattle.words.proofs.Worded.{Front}
use Rattle.words.proofs.splitting.all_words.Given as goal

abbrev pub invariant-loop-word : goal.invariant-loop-word
invariant-loop-word l = shadow (Utf8 l.rest) × Front l.text (map (λ x. x.now) (vec_items l.words)) l.rest

abbrev pub decreases-loop-word : goal.decreases-loop-word
decreases-loop-word l = length l.rest
