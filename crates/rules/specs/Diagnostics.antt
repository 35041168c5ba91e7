-- The numbers of diagnostics. Assumes nothing.
use Rattle.std.specs.Prelude.{ℕ}
use Rattle.rules.specs.declared.facts.DiagnosticKind.{DiagnosticKind}
use Rattle.rules.specs.declared.facts.DiagnosticKind.TheVariants.{ExportNotFound, UnsupportedJavaScriptEntrypoint, UnsupportedNestedJavaScript, UnsupportedPrivateMemberReference, NotFoundReference, UnsupportedComplexReference, UnresolvedReference}

abbrev pub number : DiagnosticKind → ℕ
number ExportNotFound = 1
number UnsupportedJavaScriptEntrypoint = 2
number UnsupportedNestedJavaScript = 3
number UnsupportedPrivateMemberReference = 4
number NotFoundReference = 5
number UnsupportedComplexReference = 6
number UnresolvedReference = 7
