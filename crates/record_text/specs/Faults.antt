-- Why a text is not read, and why a line is not. Assumes nothing.
use Rattle.std.specs.Prelude.{ℕ}
use Rattle.words.specs.declared.faults.Fault.{Fault as FaultOf}
use Rattle.words.specs.declared.faults.Unread.{Unread as UnreadOf}
use Rattle.record_text.specs.declared.faults.Expected.{Expected}

-- why a text is not read
abbrev pub Fault : Type 0
Fault = FaultOf Expected

-- why the words of a line say nothing, with the place of the word that it fails at
abbrev pub Unread : Type 0
Unread = UnreadOf (Expected × ℕ)

-- why what a line says has no place
abbrev pub Unplaced : Type 0
Unplaced = UnreadOf Expected
