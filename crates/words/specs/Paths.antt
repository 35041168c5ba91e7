-- What comes of a word that should spell a path. Assumes nothing.
use Rattle.std.specs.Prelude.{◌≡◌, ◌<◌, List, [], length, Ok, Err, vec_items, Result, Vec}
use Rattle.std.specs.List.{ContainsAt as Has}
use Rattle.ids.specs.declared.numbers.NameId.{NameId}
use Rattle.ids.specs.declared.path_struct.Path.{Path}
use Rattle.ids.specs.Names.{limit}
use Rattle.ids.specs.Paths.{names_of}
use Rattle.words.specs.Texts.{Text}
use Rattle.words.specs.Interned.{Numbered}
use Rattle.words.specs.Spelled.{dot, Pieces, Spells, Numbers, Extends}
use Rattle.words.specs.declared.interner.InternError.{InternError}
use Rattle.words.specs.declared.interner.InternError.TheVariants.{Full, NoMemory as NoRoom}
use Rattle.words.specs.declared.spelling.PathFault.{PathFault}
use Rattle.words.specs.declared.spelling.PathFault.TheVariants.{EmptyName, TooManyNames, TooManyDistinctNames, NoMemory}

-- why a table gives a name no number, as a fault of its path
abbrev pub crowded : InternError → PathFault
crowded Full = TooManyDistinctNames
crowded NoRoom = NoMemory

-- what comes of a name that is read: it is not empty, and gets its number; or it is not read
abbrev pub Named : List Text → Text → List Text → Result NameId PathFault → Type 0
Named before t after (Ok n) = (0 < length t) × Numbered after t n.0 × Extends before after
Named before t after (Err EmptyName) = t ≡ []
Named before t after (Err (TooManyNames n)) = ⊥
Named before t after (Err TooManyDistinctNames) = Unit {0}
Named before t after (Err NoMemory) = Unit {0}

-- why some texts get no numbers
abbrev pub Unnumbered : List Text → PathFault → Type 0
Unnumbered ps EmptyName = Has ps []
Unnumbered ps (TooManyNames n) = ⊥
Unnumbered ps TooManyDistinctNames = Unit {0}
Unnumbered ps NoMemory = Unit {0}

-- what comes of texts that should be names
abbrev pub AllNamed : {Z : Type 0} → List Text → List Text → List Text → Result (Vec NameId Z) PathFault → Type 0
AllNamed before ps after (Ok v) = Numbers before ps after (vec_items v)
AllNamed before ps after (Err u) = Unnumbered ps u

-- why the word w spells no path
abbrev pub Unspelled : Text → PathFault → Type 0
Unspelled w EmptyName = (ps : List Text) × Pieces dot w ps × Has ps []
Unspelled w (TooManyNames n) = (ps : List Text) × Pieces dot w ps × (length ps ≡ n) × (limit < n)
Unspelled w TooManyDistinctNames = Unit {0}
Unspelled w NoMemory = Unit {0}

-- what comes of a word that should spell a path
abbrev pub PathRead : List Text → Text → List Text → Result Path PathFault → Type 0
PathRead before w after (Ok p) = Spells after w (names_of p) × Extends before after
PathRead before w after (Err u) = Unspelled w u
