-- Where a word stands that is not read. Assumes nothing.
use Rattle.std.specs.Prelude.{◌≡◌, ℕ, string_bytes}
use Rattle.words.specs.declared.faults.Fault.{Fault}
use Rattle.words.specs.declared.faults.Fault.TheVariants.{Line, NoMemory}
use Rattle.words.specs.declared.faults.Unread.{Unread}
use Rattle.words.specs.declared.faults.Unread.TheVariants.{Of}
use Rattle.words.specs.Texts.{Text}

-- the fault of a word that stands on a line
abbrev pub Placed : {P : Type 0} → Unread P → ℕ → Text → Fault P → Type 0
Placed u k t (Line n p s) = (u ≡ Of p) × (n ≡ k) × (string_bytes s ≡ t)
Placed u k t NoMemory = Unit {0}
