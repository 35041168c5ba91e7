-- The modules and packages that the lines of a text have. Assumes nothing.
use Rattle.std.specs.Prelude.{◌≡◌, ◌⊎◌, List, [], ◌∷◌, Ok, Err, codes, Result, ◌≢◌}
use Rattle.words.specs.Interned.{texts, firsts, Added}
use Rattle.words.specs.Lines.{Lines}
use Rattle.words.specs.Texts.{Text}
use Rattle.words.specs.Words.{Blank, Content, First}
use Rattle.words.specs.declared.interner_struct.Names.{Names}
use Rattle.words.specs.declared.faults.Fault.TheVariants.{Line as At, NoMemory}
use Rattle.record_text.specs.declared.texts.Texts.{Texts}
use Rattle.record_text.specs.Faults.{Fault}

-- the line l begins with the words k and w
abbrev pub Begins : Text → Text → Text → Type 0
Begins k l w = (c : Text) × Content l c × (d : Text) × (e : Text) × First c k d × First d w e

-- the line l has no two words, or another first word than k
abbrev pub Other : Text → Text → Type 0
Other k l = (c : Text) × Content l c × (Blank c ⊎ ((x : Text) × (d : Text) × First c x d × ((x ≢ k) ⊎ Blank d)))

-- the texts after the line l: the word after its keyword k is added where it is new
abbrev pub Gathered : Text → List Text → Text → List Text → Type 0
Gathered k before l after = ((w : Text) × Begins k l w × Added before w after) ⊎ (Other k l × (after ≡ before))

-- the texts after the lines ls
abbrev pub Gathers : Text → List Text → List Text → List Text → Type 0
Gathers k before [] after = after ≡ before
Gathers k before (l ∷ ls) after = (next : List Text) × Gathered k before l next × Gathers k next ls after

abbrev pub NameAdded : Names → Text → Names → Result (Unit {0}) Fault → Type 0
NameAdded before w after (Ok _) = Added (texts before) w (texts after)
NameAdded before w after (Err (At n e s)) = ⊥
NameAdded before w after (Err NoMemory) = Unit {0}

abbrev pub LineCollected : Texts → Text → Texts → Result (Unit {0}) Fault → Type 0
LineCollected before l after (Ok _) = (texts after.names ≡ texts before.names) × Gathered (codes "module") (texts before.modules) l (texts after.modules) × Gathered (codes "package") (texts before.packages) l (texts after.packages)
LineCollected before l after (Err (At n e s)) = ⊥
LineCollected before l after (Err NoMemory) = Unit {0}

-- no line has been looked at
abbrev pub TextsBegun : Result Texts Fault → Type 0
TextsBegun (Ok t) = (texts t.names ≡ firsts) × (texts t.modules ≡ []) × (texts t.packages ≡ [])
TextsBegun (Err (At n e s)) = ⊥
TextsBegun (Err NoMemory) = Unit {0}

-- mods and packs are the modules and the packages of the text w: those that stand on its lines after `module` and
-- `package`, in the order in which each first stands there
pub record Tabled (w : Text) (mods packs : List Text) : Type 0 where
  pub ls : List Text
  pub lines : Lines w ls []
  pub modules : Gathers (codes "module") [] ls mods
  pub packages : Gathers (codes "package") [] ls packs

abbrev pub Collects : Text → Result Texts Fault → Type 0
Collects w (Ok t) = (texts t.names ≡ firsts) × Tabled w (texts t.modules) (texts t.packages)
Collects w (Err (At n e s)) = ⊥
Collects w (Err NoMemory) = Unit {0}
