-- What is read of a whole text. Assumes nothing.
use Rattle.std.specs.Prelude.{◌≡◌, ℕ, ◌+◌, ◌<◌, ◌⊎◌, List, [], ◌∷◌, ◌++◌, length, Some, None, Ok, Err, string_bytes, Option, Result}
use Rattle.std.specs.Str.Lines.{IsFirstLine as FirstLine}
use Rattle.std.specs.List.{ContainsAt as Has}
use Rattle.host.specs.Program.{Program}
use Rattle.table_rules.specs.Meaning.{program_of}
use Rattle.words.specs.Interned.{texts, firsts}
use Rattle.words.specs.Lines.{Lines}
use Rattle.words.specs.Spelled.{Extends}
use Rattle.words.specs.Texts.{Text}
use Rattle.words.specs.Words.{Says}
use Rattle.words.specs.declared.faults.Fault.TheVariants.{Line as At, NoMemory}
use Rattle.words.specs.declared.faults.Unread.TheVariants.{Of, NoMemory as NoRoom}
use Rattle.record_text.specs.declared.items.Item.{Item}
use Rattle.record_text.specs.declared.listing.Listing.{Listing}
use Rattle.record_text.specs.declared.listing.Reader.{Reader}
use Rattle.record_text.specs.Collecting.{Tabled}
use Rattle.record_text.specs.Faults.{Fault, Unread}
use Rattle.record_text.specs.Forms.{Shelf, shelf, Said, Unsaid, Grew}
use Rattle.record_text.specs.Placing.{Sketch, sketch, blank, placed}

-- the fault at one of the words ws of line k
abbrev pub FaultAmong : ℕ → List Text → Fault → Type 0
FaultAmong k ws (At n e s) = (n ≡ k) × Has ws (string_bytes s)
FaultAmong k ws NoMemory = Unit {0}

-- a place among n words
abbrev pub Below : ℕ → Unread → Type 0
Below n (Of p) = p.1 < n
Below n NoRoom = Unit {0}

-- how the refusal of the words ws of line k is told
abbrev pub UnreadAt : Unread → ℕ → List Text → Fault → Type 0
UnreadAt (Of p) k ws f = FaultAmong k ws f
UnreadAt NoRoom k ws f = f ≡ NoMemory

-- the items, one after another, each in its place
abbrev pub after : Option Sketch → Item → Option Sketch
after None i = None
after (Some s) i = placed s i

abbrev pub all_placed : Option Sketch → List Item → Option Sketch
all_placed s [] = s
all_placed s (i ∷ is) = all_placed (after s i) is

-- the words of a line say nothing where there is none, and else one item
abbrev pub WordsSay : Shelf → List Text → List Item → Type 0
WordsSay t ws [] = ws ≡ []
WordsSay t ws (i ∷ []) = Said t i ws
WordsSay t ws (i ∷ j ∷ js) = ⊥

abbrev pub LineSays : Shelf → Text → List Item → Type 0
LineSays t l is = (ws : List Text) × Says l ws × WordsSay t ws is

-- what the words of line k add
pub record Added (before after : Reader) (ws : List Text) : Type 0 where
  pub grew : Grew (shelf before.texts) (shelf after.texts)
  pub items : List Item
  pub say : WordsSay (shelf after.texts) ws items
  pub place : all_placed (Some (sketch before.draft)) items ≡ Some (sketch after.draft)

-- why the words ws are not read: they say no item, or the item that they say has no place
abbrev pub Why : Shelf → Sketch → List Text → Type 0
Why t s ws = Unsaid t ws ⊎ ((u : Shelf) × (i : Item) × Grew t u × Said u i ws × (placed s i ≡ None))

-- s is one of the words ws of line k, and they are not read for a reason
pub record Failed (before : Reader) (k : ℕ) (ws : List Text) (n : ℕ) (s : Text) : Type 0 where
  pub number : n ≡ k
  pub word : Has ws s
  pub why : Why (shelf before.texts) (sketch before.draft) ws

abbrev pub WordsRead : Reader → ℕ → List Text → Reader → Result (Unit {0}) Fault → Type 0
WordsRead before k ws after (Ok _) = Added before after ws
WordsRead before k ws after (Err (At n e s)) = Failed before k ws n (string_bytes s)
WordsRead before k ws after (Err NoMemory) = Unit {0}

-- what comes of line k, which is l
abbrev pub LineRead : Reader → ℕ → Text → Reader → Result (Unit {0}) Fault → Type 0
LineRead before k l after (Ok _) = (ws : List Text) × Says l ws × Added before after ws
LineRead before k l after (Err (At n e s)) = (ws : List Text) × Says l ws × Failed before k ws n (string_bytes s)
LineRead before k l after (Err NoMemory) = Unit {0}

-- what the lines ls say: one item for each line that has a word
abbrev pub LinesSay : Shelf → List Text → List Item → Type 0
LinesSay t [] is = is ≡ []
LinesSay t (l ∷ ls) is = (out : List Item) × (rest : List Item) × (is ≡ out ++ rest) × LineSays t l out × LinesSay t ls rest

-- nothing but the modules, the packages and the first names of the text w is known, and nothing has a place
abbrev pub Begun : Text → Result Reader Fault → Type 0
Begun w (Ok r) = (texts r.texts.names ≡ firsts) × Tabled w (texts r.texts.modules) (texts r.texts.packages) × (sketch r.draft ≡ blank)
Begun w (Err (At n e s)) = ⊥
Begun w (Err NoMemory) = Unit {0}

-- the program with the count of its names
abbrev pub with_names : Program → ℕ → Program
with_names g n = record { names = n; packages = g.packages; modules = g.modules }

abbrev pub listing_shelf : Listing → Shelf
listing_shelf l = record { names = texts l.names; modules = texts l.modules; packages = texts l.packages }

pub record Listed (r : Reader) (l : Listing) : Type 0 where
  pub shelf_kept : listing_shelf l ≡ shelf r.texts
  pub program : program_of l.table ≡ with_names (program_of r.draft.table) (length (texts l.names))

-- what was read of the text w: its lines say these items, and the program is what they make, each in its place after the others
pub record Records (w : Text) (l : Listing) : Type 0 where
  pub begun : Extends firsts (texts l.names)
  pub known : Tabled w (texts l.modules) (texts l.packages)
  pub lines : List Text
  pub whole : Lines w lines []
  pub items : List Item
  pub say : LinesSay (listing_shelf l) lines items
  pub end : Sketch
  pub place : all_placed (Some blank) items ≡ Some end
  pub program : program_of l.table ≡ with_names end.program (length (texts l.names))

-- why the text w is not read: the lines before line k are, and line k, of which s is a word, says no item, or one that
-- has no place after the others
pub record Stopped (w : Text) (k : ℕ) (s : Text) : Type 0 where
  pub lines : List Text
  pub rest : Text
  pub front : Lines w lines rest
  pub number : k ≡ length lines + 1
  pub tables : Shelf
  pub known : Tabled w tables.modules tables.packages
  pub items : List Item
  pub say : LinesSay tables lines items
  pub end : Sketch
  pub place : all_placed (Some blank) items ≡ Some end
  pub line : Text
  pub later : Text
  pub next : FirstLine rest line later
  pub words : List Text
  pub says : Says line words
  pub word : Has words s
  pub why : Why tables end words

-- what comes of the text w
abbrev pub Read : Text → Result Listing Fault → Type 0
Read w (Ok l) = Records w l
Read w (Err (At n e s)) = Stopped w n (string_bytes s)
Read w (Err NoMemory) = Unit {0}
