-- How an item is written as the words of a line. Assumes nothing.
use Rattle.std.specs.Prelude.{◌≡◌, ◌<◌, true, false, List, [], ◌∷◌, length, Ok, Err, codes, Result}
use Rattle.host.specs.declared.told.SymbolNodeDep.{SymbolNodeDep}
use Rattle.host.specs.declared.told.SymbolNodeDep.TheVariants.{Id, QualifiedId, ImportType}
use Rattle.words.specs.Interned.{texts}
use Rattle.words.specs.Spelled.{Extends}
use Rattle.words.specs.Texts.{Text}
use Rattle.words.specs.declared.faults.Unread.TheVariants.{Of, NoMemory}
use Rattle.record_text.specs.declared.items.DeclarationHead.{DeclarationHead}
use Rattle.record_text.specs.declared.items.DeclarationKind.{DeclarationKind}
use Rattle.record_text.specs.declared.items.DeclarationKind.TheVariants.{Alias, QualifiedAlias, File, Defines}
use Rattle.record_text.specs.declared.items.Item.{Item}
use Rattle.record_text.specs.declared.items.Item.TheVariants.{Package, Entry, Module, Part}
use Rattle.record_text.specs.declared.items.ModulePart.{ModulePart}
use Rattle.record_text.specs.declared.items.ModulePart.TheVariants.{Depends, ExportsAll, Symbol, Inner}
use Rattle.record_text.specs.declared.items.SymbolPart.{SymbolPart}
use Rattle.record_text.specs.declared.items.SymbolPart.TheVariants.{Exports, Member, Declares, Refers}
use Rattle.record_text.specs.declared.texts.Texts.{Texts}
use Rattle.record_text.specs.Faults.{Unread}
use Rattle.record_text.specs.Fields.{OrNone, RangeRefused, RangeSaid, SymbolSaid, NameSaid, ModuleSaid, PackageSaid, FileNameSaid, PathSaid, kind_word, namespace_word}
use Rattle.record_text.specs.Flags.{FlagsSaid}
use Rattle.record_text.specs.Nodes.{node_word}

-- the tables of texts
pub record Shelf : Type 0 where
  pub names : List Text
  pub modules : List Text
  pub packages : List Text

abbrev pub shelf : Texts → Shelf
shelf t = record { names = texts t.names; modules = texts t.modules; packages = texts t.packages }

-- a range and a name
pub record HeadSaid (t : Shelf) (s e n : Text) (h : DeclarationHead) : Type 0 where
  pub range : RangeSaid s e h.range
  pub name : OrNone (NameSaid t.names) n h.name

abbrev pub DeclarationSaid : Shelf → DeclarationHead → DeclarationKind → List Text → Type 0
DeclarationSaid t h (Alias o) ws =
    (s : Text) × (e : Text) × (n : Text) × (x : Text) × (ws ≡ codes "alias" ∷ s ∷ e ∷ n ∷ x ∷ []) × HeadSaid t s e n h × OrNone SymbolSaid x o
DeclarationSaid t h (QualifiedAlias o p) ws =
    (s : Text) × (e : Text) × (n : Text) × (x : Text) × (y : Text) × (ws ≡ codes "qualified-alias" ∷ s ∷ e ∷ n ∷ x ∷ y ∷ []) × HeadSaid t s e n h × OrNone SymbolSaid x o × PathSaid t.names y p
DeclarationSaid t h (File f) ws =
    (s : Text) × (e : Text) × (n : Text) × (x : Text) × (y : Text) × (ws ≡ codes "file-ref" ∷ s ∷ e ∷ n ∷ x ∷ y ∷ []) × HeadSaid t s e n h × NameSaid t.names x f.specifier × FileNameSaid t.names y f.name
DeclarationSaid t h (Defines k fs) ws =
    (s : Text) × (e : Text) × (n : Text) × (x : Text) × (y : Text) × (ws ≡ codes "definition" ∷ s ∷ e ∷ n ∷ x ∷ y ∷ []) × HeadSaid t s e n h × (x ≡ node_word k) × FlagsSaid y fs

abbrev pub ReferenceSaid : Shelf → SymbolNodeDep → List Text → Type 0
ReferenceSaid t (Id o how) ws = (x : Text) × (y : Text) × (ws ≡ codes "id" ∷ x ∷ y ∷ []) × OrNone SymbolSaid x o × (y ≡ namespace_word how)
ReferenceSaid t (QualifiedId o p) ws = (x : Text) × (y : Text) × (ws ≡ codes "qualified-id" ∷ x ∷ y ∷ []) × OrNone SymbolSaid x o × PathSaid t.names y p
ReferenceSaid t (ImportType s p) ws = (x : Text) × (y : Text) × (ws ≡ codes "import-type" ∷ x ∷ y ∷ []) × NameSaid t.names x s × OrNone (PathSaid t.names) y p

abbrev pub SymbolPartSaid : Shelf → SymbolPart → List Text → Type 0
SymbolPartSaid t (Exports e) ws = (x : Text) × (y : Text) × (ws ≡ codes "export" ∷ x ∷ y ∷ []) × NameSaid t.names x e.name × SymbolSaid y e.symbol
SymbolPartSaid t (Member s) ws = (x : Text) × (ws ≡ codes "member" ∷ x ∷ []) × SymbolSaid x s
SymbolPartSaid t (Declares d) ws = DeclarationSaid t d.head d.kind ws
SymbolPartSaid t (Refers r) ws = ReferenceSaid t r ws

abbrev pub ModulePartSaid : Shelf → ModulePart → List Text → Type 0
ModulePartSaid t (Depends d) ws = (x : Text) × (y : Text) × (ws ≡ codes "dependency" ∷ x ∷ y ∷ []) × NameSaid t.names x d.specifier × OrNone (ModuleSaid t.modules) y d.target
ModulePartSaid t (ExportsAll a) ws = (s : Text) × (e : Text) × (x : Text) × (ws ≡ codes "export-all" ∷ s ∷ e ∷ x ∷ []) × RangeSaid s e a.range × NameSaid t.names x a.specifier
ModulePartSaid t (Symbol o) ws = (x : Text) × (ws ≡ codes "symbol" ∷ x ∷ []) × OrNone SymbolSaid x o
ModulePartSaid t (Inner p) ws = SymbolPartSaid t p ws

-- the words of a line say this item
abbrev pub Said : Shelf → Item → List Text → Type 0
Said t (Package p false) ws = (x : Text) × (ws ≡ codes "package" ∷ x ∷ []) × PackageSaid t.packages x p
Said t (Package p true) ws = (x : Text) × (ws ≡ codes "package" ∷ x ∷ codes "exports" ∷ []) × PackageSaid t.packages x p
Said t (Entry m) ws = (x : Text) × (ws ≡ codes "entry" ∷ x ∷ []) × ModuleSaid t.modules x m
Said t (Module m h) ws =
    (x : Text) × (k : Text) × (p : Text) × (y : Text) × (ws ≡ codes "module" ∷ x ∷ k ∷ p ∷ y ∷ []) × ModuleSaid t.modules x m × (k ≡ kind_word h.kind) × OrNone (PackageSaid t.packages) p h.«package» × OrNone (ModuleSaid t.modules) y h.types
Said t (Part p) ws = ModulePartSaid t p ws

-- names were added, and nothing else was changed
pub record Grew (before after : Shelf) : Type 0 where
  pub names : Extends before.names after.names
  pub modules : after.modules ≡ before.modules
  pub packages : after.packages ≡ before.packages

-- no item is written as the words ws, whatever names there are
abbrev pub Unsaid : Shelf → List Text → Type 0
Unsaid t ws = (names : List Text) (i : Item) → Said (record { names = names; modules = t.modules; packages = t.packages }) i ws → ⊥

-- the words ws say no item, and the word at a place among them is at fault; or memory ran out
abbrev pub Faulted : Shelf → List Text → Unread → Type 0
Faulted t ws (Of p) = (p.1 < length ws) × Unsaid t ws
Faulted t ws NoMemory = Unit {0}

-- what comes of the words that each declaration begins with
abbrev pub HeadRead : Texts → Text → Text → Text → Texts → Result DeclarationHead Unread → Type 0
HeadRead before s e n after (Ok h) = HeadSaid (shelf after) s e n h × Grew (shelf before) (shelf after)
HeadRead before s e n after (Err u) = RangeRefused s e u

-- what comes of the words of a line
abbrev pub Formed : Texts → List Text → Texts → Result Item Unread → Type 0
Formed before ws after (Ok i) = Said (shelf after) i ws × Grew (shelf before) (shelf after)
Formed before ws after (Err u) = Faulted (shelf before) ws u
