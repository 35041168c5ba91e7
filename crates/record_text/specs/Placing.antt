-- Where an item goes in a program: to the last of what it is a part of. Assumes nothing.
use Rattle.std.specs.Prelude.{◌≡◌, ◌≢◌, ℕ, Bool, true, false, cond, List, [], ◌∷◌, ◌++◌, ◌⊎◌, length, Some, None, Ok, Err, Option, Result, ◌==◌}
use Rattle.std.specs.Option.{option_map}
use Rattle.ids.specs.declared.numbers.ModuleId.{ModuleId}
use Rattle.ids.specs.declared.numbers.SymbolId.{SymbolId}
use Rattle.host.specs.Program.{DeclKind, target, qualified_target, file_ref, definition, Decl, Symbol, Module, Package, Program}
use Rattle.host.specs.declared.told.SymbolDeclFlags.{SymbolDeclFlags}
use Rattle.host.specs.declared.told.SymbolNodeDep.{SymbolNodeDep}
use Rattle.table_rules.specs.Meaning.{program_of}
use Rattle.record_text.specs.declared.draft.Draft.{Draft}
use Rattle.record_text.specs.declared.draft.Open.{Open}
use Rattle.record_text.specs.declared.draft.Open.TheVariants.{Package as InPackage, Module as InModule}
use Rattle.words.specs.declared.faults.Unread.TheVariants.{Of, NoMemory}
use Rattle.record_text.specs.declared.items.Declaration.{Declaration}
use Rattle.record_text.specs.declared.items.DeclarationKind.{DeclarationKind}
use Rattle.record_text.specs.declared.items.DeclarationKind.TheVariants.{Alias, QualifiedAlias, File, Defines}
use Rattle.record_text.specs.declared.items.Item.{Item}
use Rattle.record_text.specs.declared.items.Item.TheVariants.{Package as OnePackage, Entry, Module as OneModule, Part}
use Rattle.record_text.specs.declared.items.ModuleHead.{ModuleHead}
use Rattle.record_text.specs.declared.items.ModulePart.{ModulePart}
use Rattle.record_text.specs.declared.items.ModulePart.TheVariants.{Depends, ExportsAll, Symbol as OneSymbol, Inner}
use Rattle.record_text.specs.declared.items.SymbolPart.{SymbolPart}
use Rattle.record_text.specs.declared.items.SymbolPart.TheVariants.{Exports, Member, Declares, Refers}
use Rattle.record_text.specs.Faults.{Unplaced}
use Rattle.record_text.specs.declared.faults.Expected.{Expected}
use Rattle.record_text.specs.Flags.{unflagged}

-- the list with its last element changed, where there is one and it takes the change
abbrev pub on_last : {X : Type 0} → (X → Option X) → List X → Option (List X)
on_last f [] = None
on_last f (x ∷ []) = option_map (λ y. y ∷ []) (f x)
on_last f (x ∷ y ∷ ys) = option_map (λ zs. x ∷ zs) (on_last f (y ∷ ys))

-- a reference goes to a definition, and to no other declaration

abbrev pub kind_referring : SymbolNodeDep → DeclKind → Option DeclKind
kind_referring r (target s) = None
kind_referring r (qualified_target s p) = None
kind_referring r (file_ref f) = None
kind_referring r (definition k deps) = Some (definition k (deps ++ r ∷ []))

abbrev pub with_kind : Decl → DeclKind → Decl
with_kind d k = record { range = d.range; name = d.name; flags = d.flags; kind = k }

abbrev pub referring : SymbolNodeDep → Decl → Option Decl
referring r d = option_map (with_kind d) (kind_referring r d.kind)

-- what a declaration is where its line has been read: a definition has no reference yet, and only it has flags

abbrev pub kind_begun : DeclarationKind → DeclKind
kind_begun (Alias s) = target s
kind_begun (QualifiedAlias s p) = qualified_target s p
kind_begun (File f) = file_ref f
kind_begun (Defines k fs) = definition k []

abbrev pub flags_begun : DeclarationKind → SymbolDeclFlags
flags_begun (Alias s) = unflagged
flags_begun (QualifiedAlias s p) = unflagged
flags_begun (File f) = unflagged
flags_begun (Defines k fs) = fs

abbrev pub decl_begun : Declaration → Decl
decl_begun d = record { range = d.head.range; name = d.head.name; flags = flags_begun d.kind; kind = kind_begun d.kind }

-- a part of a symbol

abbrev pub with_decls : Symbol → List Decl → Symbol
with_decls s ds = record { parent = s.parent; decls = ds; exports = s.exports; members = s.members }

abbrev pub in_symbol : SymbolPart → Symbol → Option Symbol
in_symbol (Exports e) s = Some (record { parent = s.parent; decls = s.decls; exports = s.exports ++ e ∷ []; members = s.members })
in_symbol (Member m) s = Some (record { parent = s.parent; decls = s.decls; exports = s.exports; members = s.members ++ m ∷ [] })
in_symbol (Declares d) s = Some (with_decls s (s.decls ++ decl_begun d ∷ []))
in_symbol (Refers r) s = option_map (with_decls s) (on_last (referring r) s.decls)

-- a part of a module

abbrev pub symbol_begun : Option SymbolId → Symbol
symbol_begun parent = record { parent = parent; decls = []; exports = []; members = [] }

abbrev pub with_symbols : Module → List Symbol → Module
with_symbols m ss = record { kind = m.kind; «package» = m.«package»; types = m.types; dependencies = m.dependencies; re_export_alls = m.re_export_alls; symbols = ss }

abbrev pub in_module : ModulePart → Module → Option Module
in_module (Depends d) m = Some (record { kind = m.kind; «package» = m.«package»; types = m.types; dependencies = m.dependencies ++ d ∷ []; re_export_alls = m.re_export_alls; symbols = m.symbols })
in_module (ExportsAll a) m = Some (record { kind = m.kind; «package» = m.«package»; types = m.types; dependencies = m.dependencies; re_export_alls = m.re_export_alls ++ a ∷ []; symbols = m.symbols })
in_module (OneSymbol parent) m = Some (with_symbols m (m.symbols ++ symbol_begun parent ∷ []))
in_module (Inner p) m = option_map (with_symbols m) (on_last (in_symbol p) m.symbols)

abbrev pub module_begun : ModuleHead → Module
module_begun h = record { kind = h.kind; «package» = h.«package»; types = h.types; dependencies = []; re_export_alls = []; symbols = [] }

-- an entry module goes to a package with an export table

abbrev pub package_begun : Bool → Package
package_begun false = record { entries = None }
package_begun true = record { entries = Some [] }

abbrev pub entries_with : ModuleId → Option (List ModuleId) → Option Package
entries_with m None = None
entries_with m (Some es) = Some (record { entries = Some (es ++ m ∷ []) })

abbrev pub in_package : ModuleId → Package → Option Package
in_package m p = entries_with m p.entries

-- a program that is being read, and what the last line of a package or a module was
pub record Sketch : Type 0 where
  pub program : Program
  pub open_at : Option Open

abbrev pub sketch : Draft → Sketch
sketch d = record { program = program_of d.table; open_at = d.open }

-- nothing has been read
abbrev pub blank : Sketch
blank = record { program = record { names = 0; packages = []; modules = [] }; open_at = None }

abbrev pub with_packages : Program → List Package → Sketch
with_packages g ps = record { program = record { names = g.names; packages = ps; modules = g.modules }; open_at = Some InPackage }

abbrev pub with_modules : Program → List Module → Sketch
with_modules g ms = record { program = record { names = g.names; packages = g.packages; modules = ms }; open_at = Some InModule }

abbrev pub where_package : Option Open → Option Sketch → Option Sketch
where_package None s = None
where_package (Some InPackage) s = s
where_package (Some InModule) s = None

abbrev pub where_module : Option Open → Option Sketch → Option Sketch
where_module None s = None
where_module (Some InPackage) s = None
where_module (Some InModule) s = s

-- the program with one more item. Packages and modules come in the order of their numbers; an entry follows its package,
-- and a part of a module its module
abbrev pub placed : Sketch → Item → Option Sketch
placed s (OnePackage p listed) = cond (p.0 == length s.program.packages) (Some (with_packages s.program (s.program.packages ++ package_begun listed ∷ []))) None
placed s (Entry m) = where_package s.open_at (option_map (with_packages s.program) (on_last (in_package m) s.program.packages))
placed s (OneModule m h) = cond (m.0 == length s.program.modules) (Some (with_modules s.program (s.program.modules ++ module_begun h ∷ []))) None
placed s (Part p) = where_module s.open_at (option_map (with_modules s.program) (on_last (in_module p) s.program.modules))

-- what comes of a change f
abbrev pub Adds : {X : Type 0} → (X → Option X) → X → X → Result (Unit {0}) Unplaced → Type 0
Adds f before after (Ok _) = f before ≡ Some after
Adds f before after (Err (Of e)) = f before ≡ None
Adds f before after (Err NoMemory) = Unit {0}

-- what comes of a change of the last of some elements, where C says what comes of the change of one: there is none, or C
-- says it of the last, and the others are as they were
pub record LastChanged {X : Type 0} (C : X → Result (Unit {0}) Unplaced → X → Type 0) (before after : List X) (r : Result (Unit {0}) Unplaced) : Type 0 where
  pub outcome : ((before ≡ []) × (after ≡ []) × ((e : Expected) × (r ≡ Err (Of e))))
      ⊎ ((front : List X) × (x : X) × (y : X) × (before ≡ front ++ x ∷ []) × (after ≡ front ++ y ∷ []) × C x r y)

-- what comes of adding x where n is the number of the next element
abbrev pub NextAdded : {X : Type 0} → ℕ → X → List X → List X → Result (Unit {0}) Unplaced → Type 0
NextAdded n x before after (Ok _) = (n ≡ length before) × (after ≡ before ++ x ∷ [])
NextAdded n x before after (Err (Of e)) = n ≢ length before
NextAdded n x before after (Err NoMemory) = Unit {0}

abbrev pub Places : Item → Draft → Draft → Result (Unit {0}) Unplaced → Type 0
Places i before after = Adds (λ s. placed s i) (sketch before) (sketch after)
