-- What the values of the code mean: a path is the list of its names. Assumes nothing.
use Rattle.std.specs.Prelude.{List, [], Some, None, Option}
use Rattle.ids.specs.Paths.{names_of}
use Rattle.ids.specs.declared.numbers.NameId.{NameId}
use Rattle.ids.specs.declared.path_struct.Path.{Path}
use Rattle.joining.specs.declared.requests.Request.{Request}
use Rattle.joining.specs.declared.requests.Request.TheVariants.{Path as AskPath, Star, Full}
use Rattle.rules.specs.Facts as meaning
use Rattle.rules.specs.declared.facts.Fact.{Fact}
use Rattle.rules.specs.declared.facts.Fact.TheVariants.{Ask, Below as AskBelow}
use Rattle.rules.specs.declared.facts.Outcome.{Outcome}
use Rattle.rules.specs.declared.facts.Outcome.TheVariants.{Reached, Found, Flagged, Reported, Requested, PackageRequested}

abbrev pub fact_of : Fact → meaning.Fact
fact_of (Ask s r n) = meaning.ask s r n
fact_of (AskBelow s r p) = meaning.below s r (names_of p)

abbrev pub wanted_of : Request → meaning.Wanted
wanted_of (AskPath p) = meaning.path (names_of p)
wanted_of Star = meaning.star
wanted_of Full = meaning.full

abbrev pub path_of : Option Path → List NameId
path_of None = []
path_of (Some p) = names_of p

abbrev pub outcome_of : Outcome → meaning.Outcome
outcome_of (Reached f) = meaning.reached (fact_of f)
outcome_of (Found r) = meaning.found r
outcome_of (Flagged r) = meaning.flagged r
outcome_of (Reported d) = meaning.reported d.kind d.symbol d.referrer (path_of d.path)
outcome_of (Requested m w) = meaning.requested m (wanted_of w)
outcome_of (PackageRequested g) = meaning.package_requested g
