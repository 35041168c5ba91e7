-- What a word says in a field of a record. Assumes nothing.
use Rattle.std.specs.Prelude.{◌≡◌, ℕ, ◌<◌, List, Some, None, Ok, Err, codes, Option, Result, ◌≢◌}
use Rattle.std.specs.Str.Parse.{ParsesUnsigned}
use Rattle.ids.specs.Paths.{names_of}
use Rattle.ids.specs.declared.numbers.ModuleId.{ModuleId}
use Rattle.ids.specs.declared.numbers.NameId.{NameId}
use Rattle.ids.specs.declared.numbers.PackageId.{PackageId}
use Rattle.ids.specs.declared.numbers.SymbolId.{SymbolId}
use Rattle.ids.specs.declared.path_struct.Path.{Path}
use Rattle.host.specs.declared.told.FileDepName.{FileDepName}
use Rattle.host.specs.declared.told.FileDepName.TheVariants.{Star, Name}
use Rattle.host.specs.declared.told.ModuleKind.{ModuleKind}
use Rattle.host.specs.declared.told.ModuleKind.TheVariants.{Missing, Typed, Untyped, Json, Wasm, External}
use Rattle.host.specs.declared.told.ReferenceNamespace.{ReferenceNamespace}
use Rattle.host.specs.declared.told.ReferenceNamespace.TheVariants.{Value, «Type» as AsType, Both}
use Rattle.host.specs.declared.told.SourceRange.{SourceRange}
use Rattle.words.specs.Interned.{Numbered}
use Rattle.words.specs.Spelled.{Spells, Extends}
use Rattle.words.specs.Texts.{Text}
use Rattle.words.specs.declared.faults.Unread.TheVariants.{Of, NoMemory}
use Rattle.words.specs.declared.spelling.PathFault.{PathFault}
use Rattle.words.specs.declared.spelling.PathFault.TheVariants.{EmptyName, TooManyNames, TooManyDistinctNames, NoMemory as NoRoom}
use Rattle.record_text.specs.declared.faults.Expected.TheVariants.{Path as Spelling}
use Rattle.record_text.specs.Faults.{Unread}

-- the word for none
abbrev pub dash : Text
dash = codes "-"

-- w is a dash for none, and else says x as P has it
abbrev pub OrNone : {X : Type 0} → (Text → X → Type 0) → Text → Option X → Type 0
OrNone P w None = w ≡ dash
OrNone P w (Some x) = (w ≢ dash) × P w x

-- w is the number n, in decimal digits, and n is below 2^32
abbrev pub Counts : Text → ℕ → Type 0
Counts w n = ParsesUnsigned {E = ℕ} 32 10 w (Ok n)

-- a range is its start and its end
abbrev pub RangeSaid : Text → Text → SourceRange → Type 0
RangeSaid s e r = Counts s r.start × Counts e r.end

abbrev pub SymbolSaid : Text → SymbolId → Type 0
SymbolSaid w s = Counts w s.0

-- a name, a module or a package stands in its table

abbrev pub NameSaid : List Text → Text → NameId → Type 0
NameSaid names w n = Numbered names w n.0

abbrev pub ModuleSaid : List Text → Text → ModuleId → Type 0
ModuleSaid mods w m = Numbered mods w m.0

abbrev pub PackageSaid : List Text → Text → PackageId → Type 0
PackageSaid packs w p = Numbered packs w p.0

-- all of a file, or one name
abbrev pub FileNameSaid : List Text → Text → FileDepName → Type 0
FileNameSaid names w Star = w ≡ codes "*"
FileNameSaid names w (Name n) = (w ≢ codes "*") × NameSaid names w n

abbrev pub PathSaid : List Text → Text → Path → Type 0
PathSaid names w p = Spells names w (names_of p)

abbrev pub kind_word : ModuleKind → Text
kind_word Missing = codes "missing"
kind_word Typed = codes "typed"
kind_word Untyped = codes "untyped"
kind_word Json = codes "json"
kind_word Wasm = codes "wasm"
kind_word External = codes "external"

abbrev pub namespace_word : ReferenceNamespace → Text
namespace_word Value = codes "value"
namespace_word AsType = codes "type"
namespace_word Both = codes "both"

-- what comes of a word that should be such a field. Only the table of names may grow

-- P holds of nothing
abbrev pub No : {X : Type 0} → (X → Type 0) → Type 0
No {X} P = (x : X) → P x → ⊥

-- the word at the place k is at fault, since N holds, or memory ran out
abbrev pub Refused : Type 0 → ℕ → Unread → Type 0
Refused N k (Of p) = (p.1 ≡ k) × N
Refused N k NoMemory = Unit {0}

abbrev pub Read : {X : Type 0} → (X → Type 0) → Type 0 → ℕ → Result X Unread → Type 0
Read P N k (Ok x) = P x
Read P N k (Err u) = Refused N k u

-- w is a dash and K holds, or w is another word, and V or E of what came of it
abbrev pub DashCases : {X : Type 0} → Type 0 → (X → Type 0) → (Unread → Type 0) → Text → Result (Option X) Unread → Type 0
DashCases K V E w (Ok None) = (w ≡ dash) × K
DashCases K V E w (Ok (Some x)) = (w ≢ dash) × V x
DashCases K V E w (Err u) = (w ≢ dash) × E u

-- w is a dash and K holds, or w is another word and R of what came of it
abbrev pub DashOr : {X : Type 0} → Type 0 → (Result X Unread → Type 0) → Text → Result (Option X) Unread → Type 0
DashOr K R = DashCases K (λ x. R (Ok x)) (λ u. R (Err u))

-- what comes of a word that may be a dash, and else says x as P has it
abbrev pub OrNoneRead : {X : Type 0} → (Text → X → Type 0) → Text → ℕ → Result (Option X) Unread → Type 0
OrNoneRead P w = Read (OrNone P w) (No (OrNone P w))

-- a name is always read, where memory lasts
abbrev pub NameOnly : {X : Type 0} → (X → Type 0) → Result X Unread → Type 0
NameOnly P (Ok x) = P x
NameOnly P (Err (Of p)) = ⊥
NameOnly P (Err NoMemory) = Unit {0}

abbrev pub NumberRead : Text → ℕ → Result ℕ Unread → Type 0
NumberRead w = Read (Counts w) (No (Counts w))

-- the words at the places 1 and 2 are no range
abbrev pub RangeRefused : Text → Text → Unread → Type 0
RangeRefused s e (Of p) = (p.1 < 3) × No (RangeSaid s e)
RangeRefused s e NoMemory = Unit {0}

abbrev pub RangeRead : Text → Text → Result SourceRange Unread → Type 0
RangeRead s e (Ok r) = RangeSaid s e r
RangeRead s e (Err u) = RangeRefused s e u

abbrev pub SymbolRead : Text → ℕ → Result SymbolId Unread → Type 0
SymbolRead w = Read (SymbolSaid w) (No (SymbolSaid w))

abbrev pub SymbolOrNoneRead : Text → ℕ → Result (Option SymbolId) Unread → Type 0
SymbolOrNoneRead = OrNoneRead SymbolSaid

abbrev pub NameRead : List Text → Text → List Text → Result NameId Unread → Type 0
NameRead before w after = NameOnly (λ n. NameSaid after w n × Extends before after)

abbrev pub NameOrNoneRead : List Text → Text → List Text → Result (Option NameId) Unread → Type 0
NameOrNoneRead before w after = NameOnly (λ n. OrNone (NameSaid after) w n × Extends before after)

abbrev pub FileNameRead : List Text → Text → List Text → Result FileDepName Unread → Type 0
FileNameRead before w after = NameOnly (λ n. FileNameSaid after w n × Extends before after)

-- w spells no path, whatever the names are
abbrev pub Pathless : Text → Type 0
Pathless w = (names : List Text) (p : Path) → PathSaid names w p → ⊥

-- how a fault of a path is told
abbrev pub PathUnread : PathFault → ℕ → Unread → Type 0
PathUnread EmptyName k u = u ≡ Of (Spelling, k)
PathUnread (TooManyNames n) k u = u ≡ Of (Spelling, k)
PathUnread TooManyDistinctNames k u = u ≡ NoMemory
PathUnread NoRoom k u = u ≡ NoMemory

abbrev pub PathRead : List Text → Text → List Text → ℕ → Result Path Unread → Type 0
PathRead before w after = Read (λ p. PathSaid after w p × Extends before after) (Pathless w)

abbrev pub PathOrNoneRead : List Text → Text → List Text → ℕ → Result (Option Path) Unread → Type 0
PathOrNoneRead before w after = Read (λ p. OrNone (PathSaid after) w p × Extends before after) ((w ≢ dash) × Pathless w)

-- the number of a text of a table
abbrev pub ListedRead : List Text → Text → ℕ → Result ℕ Unread → Type 0
ListedRead ts w = Read (Numbered ts w) (No (Numbered ts w))

abbrev pub ModuleRead : List Text → Text → ℕ → Result ModuleId Unread → Type 0
ModuleRead mods w = Read (ModuleSaid mods w) (No (ModuleSaid mods w))

abbrev pub ModuleOrNoneRead : List Text → Text → ℕ → Result (Option ModuleId) Unread → Type 0
ModuleOrNoneRead mods = OrNoneRead (ModuleSaid mods)

abbrev pub PackageRead : List Text → Text → ℕ → Result PackageId Unread → Type 0
PackageRead packs w = Read (PackageSaid packs w) (No (PackageSaid packs w))

abbrev pub PackageOrNoneRead : List Text → Text → ℕ → Result (Option PackageId) Unread → Type 0
PackageOrNoneRead packs = OrNoneRead (PackageSaid packs)

abbrev pub ModuleKindRead : Text → ℕ → Result ModuleKind Unread → Type 0
ModuleKindRead w = Read (λ k. w ≡ kind_word k) (No (λ k. w ≡ kind_word k))

abbrev pub NamespaceRead : Text → ℕ → Result ReferenceNamespace Unread → Type 0
NamespaceRead w = Read (λ n. w ≡ namespace_word n) (No (λ n. w ≡ namespace_word n))
