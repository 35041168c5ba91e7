-- What comes of loading tables. Assumes nothing.
use Rattle.std.specs.Prelude.{◌≡◌, false, Ok, Err, Result}
use Rattle.host.specs.Program.{Program}
use Rattle.host.specs.Rules.{Kept}
use Rattle.host.specs.Tests.{valid}
use Rattle.table_rules.specs.Meaning.{program_of}
use Rattle.tables.specs.Refusals.{number}
use Rattle.table_rules.specs.declared.program_table.ProgramTable.{ProgramTable}
use Rattle.tables.specs.declared.refusals.Refusal.{Refusal}
use Rattle.tables.specs.declared.tables_struct.Tables.{Tables}

-- the analysed program that loaded tables tell
abbrev pub program : Tables → Program
program t = program_of t.table

-- it is the program that was handed in, and it keeps the rules
pub record Loaded (table : ProgramTable) (t : Tables) : Type 0 where
  pub same : program t ≡ program_of table
  pub kept : Kept (program_of table)

-- the tables that were handed in break a rule
pub record Refused (table : ProgramTable) (e : Refusal) : Type 0 where
  pub numbered : number e ≡ 1
  pub invalid : valid (program_of table) ≡ false
  pub broken : Kept (program_of table) → ⊥

abbrev pub Loads : ProgramTable → Result Tables Refusal → Type 0
Loads table (Ok t) = Loaded table t
Loads table (Err e) = Refused table e
