-- Where a trace runs, and what a destination gives. Assumes nothing.
use Rattle.std.specs.Prelude.{Bool, List, [], ◌∷◌, Some, None, Option}
use Rattle.ids.specs.declared.numbers.ModuleId.{ModuleId}
use Rattle.ids.specs.declared.numbers.PackageId.{PackageId}
use Rattle.host.specs.Program.{Program}
use Rattle.rules.specs.Facts.{Outcome, package_requested}
use Rattle.rules.specs.Lists.{Trace}
use Rattle.rules.specs.Symbols.{same_package}
use Rattle.rules.specs.declared.places.Destination.{Destination}
use Rattle.rules.specs.declared.places.Destination.TheVariants.{Own, Other}
use Rattle.rules.specs.declared.places.Place.{Place}

abbrev pub trace_at : Program → Place → Trace
trace_at p l = record { program = p; owner = l.owner; at = l.at }

abbrev pub is_own : Place → PackageId → Bool
is_own l g = same_package l.owner g

abbrev pub destined : Option Destination → (ModuleId → List Outcome) → List Outcome
destined None own = []
destined (Some (Own y)) own = own y
destined (Some (Other g)) own = package_requested g ∷ []
