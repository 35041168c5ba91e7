-- What joining keeps, in words of what is covered. Assumes nothing.
use Rattle.std.specs.Prelude.{◌≡◌, Bool, true, false, not, ◌&&◌, ◌||◌, List, Some, None, Option}
use Rattle.ids.specs.declared.numbers.NameId.{NameId}
use Rattle.ids.specs.declared.path_struct.Path.{Path}
use Rattle.ids.specs.Paths.{names_of}
use Rattle.joining.specs.Covering.{covers, of_default}
use Rattle.joining.specs.Joining.{Record, star, full, kept, some_covers, some_of_default, joined, handed, joined_record}
use Rattle.joining.specs.declared.requests.Request.{Request}
use Rattle.joining.specs.declared.requests.Request.TheVariants.{Path as Ask, Star, Full}

-- star covers what does not begin with `default`, full everything, kept paths what one of them covers
abbrev pub covers_record : Record → List NameId → Bool
covers_record star q = not (of_default q)
covers_record full q = true
covers_record (kept ps) q = some_covers ps q

abbrev pub covers_request : Request → List NameId → Bool
covers_request (Ask p) q = covers (names_of p) q
covers_request Star q = not (of_default q)
covers_request Full q = true

abbrev pub covers_handed : Option Request → List NameId → Bool
covers_handed None q = false
covers_handed (Some r) q = covers_request r q

-- star meets something of `default`: the one is in the record and the other is asked
abbrev pub meets_default : Record → Request → Bool
meets_default full r = false
meets_default star (Ask p) = of_default (names_of p)
meets_default star Star = false
meets_default star Full = false
meets_default (kept ps) (Ask p) = false
meets_default (kept ps) Star = some_of_default ps
meets_default (kept ps) Full = false

-- some path of what is handed out was not covered before
abbrev pub New : Record → Option Request → Type 0
New before None = Unit {0}
New before (Some h) = (q : Path) × (covers_request h (names_of q) ≡ true) × (covers_record before (names_of q) ≡ false)

-- the laws of joining r to a record
pub record Lawful (before : Record) (r : Request) : Type 0 where
  -- after the join the record covers what it covered, what the request covers, and, where star
  -- and something of `default` met, all of `default`
  pub coverage : (q : List NameId) → covers_record (joined before r) q ≡ (covers_record before q || (covers_request r q || (meets_default before r && of_default q)))
  -- what was covered and what is handed out are together what is covered after: nothing is lost
  pub nothing_lost : (q : List NameId) → covers_record (joined before r) q ≡ (covers_record before q || covers_handed (handed before r) q)
  -- what the record covers already hands out nothing, and leaves the record as it was
  pub nothing_twice : ((q : List NameId) → covers_request r q ≡ true → covers_record before q ≡ true) → (handed before r ≡ None) × (joined before r ≡ before)
  -- what is handed out was never wholly covered before
  pub something_new : New before (handed before r)
  -- a request that is made twice is handed out once
  pub once : (handed (joined before r) r ≡ None) × (joined (joined before r) r ≡ joined before r)

-- a record joined to another: star in the one meets something of `default` that the other keeps
abbrev pub is_star : Record → Bool
is_star star = true
is_star full = false
is_star (kept ps) = false

abbrev pub keeps_of_default : Record → Bool
keeps_of_default star = false
keeps_of_default full = false
keeps_of_default (kept ps) = some_of_default ps

abbrev pub star_meets_default : Record → Record → Bool
star_meets_default a b = (is_star a && keeps_of_default b) || (keeps_of_default a && is_star b)

-- it then covers what both covered and, where they met so, all of `default`
abbrev pub CoversBoth : Record → Record → Type 0
CoversBoth a b = (q : List NameId) → covers_record (joined_record a b) q ≡ (covers_record a q || (covers_record b q || (star_meets_default a b && of_default q)))
