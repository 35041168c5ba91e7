use Rattle.std.proofs.Common.{◌≡◌, ℕ, ◌<◌, ◌≤◌, true, false, length, get_or, subst, false-eqb}
use Rattle.std.specs.Char.{is_ascii_whitespace}
use Rattle.words.specs.Texts.{Text}
use Rattle.words.proofs.Worded.{first_word}
use Rattle.words.proofs.splitting.first_word.Goals as goal
use Rattle.words.proofs.splitting.first_word.Goals.{After-solid_len}

-- k bytes at the front of t are solid, and no more
record Run (k : ℕ) (t : Text) : Type 0 where
  within : k ≤ length t
  before : (i : ℕ) → i < k → is_ascii_whitespace (get_or t i 0) ≡ false
  stops : k < length t → is_ascii_whitespace (get_or t k 0) ≡ true

-- what `solid_len` said of the bytes holds of the text
found : (c : After-solid_len) → Run c.solid_len.result c.trim_ascii_start-solid.result.now
found c =
    let told = c.solid_len.ensures in
    subst (Run c.solid_len.result) c.as_bytes.ensures.value (record { within = told.within; before = told.before; stops = told.stops })

pub returns : goal.returns
returns c =
    let run = found (goal.at.returns c).After-solid_len in
    first_word _ c.trim_ascii_start-solid.result.now _ _ c.solid_len.result c.trim_ascii_start-solid.ensures.value (false-eqb _ 0 c.if-is_empty.ensures) run.within run.before run.stops c.split_at.ensures.front c.split_at.ensures.back
