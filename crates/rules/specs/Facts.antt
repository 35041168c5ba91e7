-- Facts, and what is given or found on the way. A path is the list of its names. Assumes nothing.
use Rattle.std.specs.Prelude.{List}
use Rattle.ids.specs.declared.numbers.ModuleId.{ModuleId}
use Rattle.ids.specs.declared.numbers.NameId.{NameId}
use Rattle.ids.specs.declared.numbers.PackageId.{PackageId}
use Rattle.ids.specs.declared.numbers.SymbolId.{SymbolId}
use Rattle.host.specs.declared.told.SourceRange.{SourceRange}
use Rattle.rules.specs.declared.facts.DiagnosticKind.{DiagnosticKind}
use Rattle.rules.specs.declared.facts.Namespace.{Namespace}

-- symbols are those of the standing module of a trace
pub data Fact : Type 0 where
  -- s is asked by r, as a value or as a type
  ask : (s r : SymbolId) → Namespace → Fact
  -- a path below s is asked by r
  below : (s r : SymbolId) → List NameId → Fact

-- what is asked of a module
pub data Wanted : Type 0 where
  path : List NameId → Wanted
  star : Wanted
  full : Wanted

pub data Outcome : Type 0 where
  reached : Fact → Outcome
  -- a range is public
  found : SourceRange → Outcome
  -- a public range is that of an implementation with overloads
  flagged : SourceRange → Outcome
  -- a diagnostic with a symbol, a referrer and a path, which is empty where it has none
  reported : DiagnosticKind → (s r : SymbolId) → List NameId → Outcome
  -- another module is asked
  requested : ModuleId → Wanted → Outcome
  -- another package is asked
  package_requested : PackageId → Outcome
