-- Lemmas on the lines of a text.
use Rattle.std.proofs.Common.{◌<◌, List, [], ◌∷◌, ◌++◌, length, sym, refl, subst}
use Rattle.std.specs.Str.Lines.{IsFirstLine as FirstLine}
use Rattle.words.specs.Lines.{Lines}
use Rattle.words.specs.Texts.{Text}

-- one more line
pub lines_push : (w : Text) (ls : List Text) (rest l after : Text) → Lines w ls rest → 0 < length rest → FirstLine rest l after → Lines w (ls ++ l ∷ []) after
lines_push w [] rest l after same some first = (after, subst (λ (v : Text). 0 < length v) (sym same) some, subst (λ (v : Text). FirstLine v l after) (sym same) first, refl)
lines_push w (x ∷ ls) rest l after (next, here, front, more) some first = (next, here, front, lines_push next ls rest l after more some first)
