use Rattle.std.proofs.Common.{◌≡◌, ℕ, ◌<◌}
use Rattle.words.specs.Texts.{text_at}
use Rattle.words.specs.Interned.{texts}
use Rattle.words.proofs.interner_struct.Names.find.Given as goal

abbrev pub invariant-loop-number : goal.invariant-loop-number
invariant-loop-number l = (i : ℕ) → i < l.number → text_at (texts l.self) i ≡ l.text → ⊥
