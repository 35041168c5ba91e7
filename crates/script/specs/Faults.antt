-- What is wrong with a word that is not read. Assumes nothing.
use Rattle.std.specs.Prelude.{List, Ok, Err, Result}
use Rattle.ids.specs.declared.numbers.ModuleId.{ModuleId}
use Rattle.joining.specs.declared.requests.Request.{Request}
use Rattle.script.specs.declared.faults.Problem.{Problem}
use Rattle.script.specs.declared.faults.Problem.TheVariants.{NoRequest, TooManyWords, EmptyName, TooManyNames, TooManyModules, TooManyDistinctNames}
use Rattle.script.specs.Spelled.{Asks, bare}
use Rattle.words.specs.declared.faults.Unread.{Unread}
use Rattle.words.specs.declared.faults.Unread.TheVariants.{Of, NoMemory}
use Rattle.words.specs.declared.interner.InternError.{InternError}
use Rattle.words.specs.declared.interner.InternError.TheVariants.{Full, NoMemory as NoMoreRoom}
use Rattle.words.specs.declared.spelling.PathFault.{PathFault}
use Rattle.words.specs.declared.spelling.PathFault.TheVariants.{EmptyName as Unnamed, TooManyNames as Long, TooManyDistinctNames as Crowded, NoMemory as NoRoom}
use Rattle.words.specs.Interned.{Numbered}
use Rattle.words.specs.Paths.{Unspelled}
use Rattle.words.specs.Spelled.{Extends}
use Rattle.words.specs.Texts.{Text}

-- a fault of a path, as one of its line
abbrev pub unread_of_path : PathFault → Unread Problem
unread_of_path Unnamed = Of EmptyName
unread_of_path (Long n) = Of (TooManyNames n)
unread_of_path Crowded = Of TooManyDistinctNames
unread_of_path NoRoom = NoMemory

-- why a table gives a module no number, as a fault of its line
abbrev pub unread_of_table : InternError → Unread Problem
unread_of_table Full = Of TooManyModules
unread_of_table NoMoreRoom = NoMemory

-- why the word w asks for nothing: without the dot that it may begin with, it spells no path
abbrev pub Unasked : Text → Unread Problem → Type 0
Unasked w (Of NoRequest) = ⊥
Unasked w (Of TooManyWords) = ⊥
Unasked w (Of EmptyName) = Unspelled (bare w) Unnamed
Unasked w (Of (TooManyNames n)) = Unspelled (bare w) (Long n)
Unasked w (Of TooManyModules) = ⊥
Unasked w (Of TooManyDistinctNames) = Unspelled (bare w) Crowded
Unasked w NoMemory = Unspelled (bare w) NoRoom

-- what comes of a word that should be a request
abbrev pub RequestRead : List Text → Text → List Text → Result Request (Unread Problem) → Type 0
RequestRead before w after (Ok r) = Asks after w r × Extends before after
RequestRead before w after (Err u) = Unasked w u

-- why a module gets no number
abbrev pub Unplaced : Unread Problem → Type 0
Unplaced (Of NoRequest) = ⊥
Unplaced (Of TooManyWords) = ⊥
Unplaced (Of EmptyName) = ⊥
Unplaced (Of (TooManyNames n)) = ⊥
Unplaced (Of TooManyModules) = Unit {0}
Unplaced (Of TooManyDistinctNames) = ⊥
Unplaced NoMemory = Unit {0}

-- what comes of a module that is read
abbrev pub ModuleNamed : List Text → Text → List Text → Result ModuleId (Unread Problem) → Type 0
ModuleNamed before t after (Ok n) = Numbered after t n.0 × Extends before after
ModuleNamed before t after (Err u) = Unplaced u
