-- What a line says stays so while names are added.
use Rattle.std.proofs.Common.{true, false, List, Some, None, Option, sym, subst}
use Rattle.ids.specs.Paths.{names_of}
use Rattle.ids.specs.declared.numbers.NameId.{NameId}
use Rattle.ids.specs.declared.path_struct.Path.{Path}
use Rattle.host.specs.declared.told.FileDepName.{FileDepName}
use Rattle.host.specs.declared.told.FileDepName.TheVariants.{Star, Name}
use Rattle.host.specs.declared.told.SymbolNodeDep.{SymbolNodeDep}
use Rattle.host.specs.declared.told.SymbolNodeDep.TheVariants.{Id, QualifiedId, ImportType}
use Rattle.words.specs.Spelled.{Extends}
use Rattle.words.specs.Texts.{Text}
use Rattle.words.proofs.Numbering.{numbered_kept, spells_kept}
use Rattle.record_text.specs.declared.items.DeclarationHead.{DeclarationHead}
use Rattle.record_text.specs.declared.items.DeclarationKind.{DeclarationKind}
use Rattle.record_text.specs.declared.items.DeclarationKind.TheVariants.{Alias, QualifiedAlias, File, Defines}
use Rattle.record_text.specs.declared.items.Item.{Item}
use Rattle.record_text.specs.declared.items.Item.TheVariants.{Package, Entry, Module, Part}
use Rattle.record_text.specs.declared.items.ModulePart.{ModulePart}
use Rattle.record_text.specs.declared.items.ModulePart.TheVariants.{Depends, ExportsAll, Symbol, Inner}
use Rattle.record_text.specs.declared.items.SymbolPart.{SymbolPart}
use Rattle.record_text.specs.declared.items.SymbolPart.TheVariants.{Exports, Member, Declares, Refers}
use Rattle.record_text.specs.Fields.{OrNone, NameSaid, ModuleSaid, PackageSaid, FileNameSaid, PathSaid}
use Rattle.record_text.specs.Forms.{Shelf, HeadSaid, DeclarationSaid, ReferenceSaid, SymbolPartSaid, ModulePartSaid, Said, Grew}

pub name_kept : (ns ms : List Text) (w : Text) (n : NameId) → Extends ns ms → NameSaid ns w n → NameSaid ms w n
name_kept ns ms w n ext h = numbered_kept ns ms w n.0 ext h

pub path_kept : (ns ms : List Text) (w : Text) (p : Path) → Extends ns ms → PathSaid ns w p → PathSaid ms w p
path_kept ns ms w p ext h = spells_kept ns ms w (names_of p) ext h

pub name_or_none_kept : (ns ms : List Text) (w : Text) (o : Option NameId) → Extends ns ms → OrNone (NameSaid ns) w o → OrNone (NameSaid ms) w o
name_or_none_kept ns ms w None ext h = h
name_or_none_kept ns ms w (Some n) ext (not, h) = (not, name_kept ns ms w n ext h)

path_or_none_kept : (ns ms : List Text) (w : Text) (o : Option Path) → Extends ns ms → OrNone (PathSaid ns) w o → OrNone (PathSaid ms) w o
path_or_none_kept ns ms w None ext h = h
path_or_none_kept ns ms w (Some p) ext (not, h) = (not, path_kept ns ms w p ext h)

file_name_kept : (ns ms : List Text) (w : Text) (f : FileDepName) → Extends ns ms → FileNameSaid ns w f → FileNameSaid ms w f
file_name_kept ns ms w Star ext h = h
file_name_kept ns ms w (Name n) ext (not, h) = (not, name_kept ns ms w n ext h)

pub head_kept : (t u : Shelf) (s e n : Text) (h : DeclarationHead) → Extends t.names u.names → HeadSaid t s e n h → HeadSaid u s e n h
head_kept t u s e n h ext said = record { range = said.range; name = name_or_none_kept t.names u.names n h.name ext said.name }

declaration_kept : (t u : Shelf) (h : DeclarationHead) (k : DeclarationKind) (ws : List Text) → Extends t.names u.names → DeclarationSaid t h k ws → DeclarationSaid u h k ws
declaration_kept t u h (Alias o) ws ext (s, e, n, x, same, said, target) = (s, e, n, x, same, head_kept t u s e n h ext said, target)
declaration_kept t u h (QualifiedAlias o p) ws ext (s, e, n, x, y, same, said, target, path) = (s, e, n, x, y, same, head_kept t u s e n h ext said, target, path_kept t.names u.names y p ext path)
declaration_kept t u h (File f) ws ext (s, e, n, x, y, same, said, from, what) = (s, e, n, x, y, same, head_kept t u s e n h ext said, name_kept t.names u.names x f.specifier ext from, file_name_kept t.names u.names y f.name ext what)
declaration_kept t u h (Defines k fs) ws ext (s, e, n, x, y, same, said, kind, flags) = (s, e, n, x, y, same, head_kept t u s e n h ext said, kind, flags)

reference_kept : (t u : Shelf) (r : SymbolNodeDep) (ws : List Text) → Extends t.names u.names → ReferenceSaid t r ws → ReferenceSaid u r ws
reference_kept t u (Id o how) ws ext h = h
reference_kept t u (QualifiedId o p) ws ext (x, y, same, target, path) = (x, y, same, target, path_kept t.names u.names y p ext path)
reference_kept t u (ImportType s p) ws ext (x, y, same, from, path) = (x, y, same, name_kept t.names u.names x s ext from, path_or_none_kept t.names u.names y p ext path)

symbol_part_kept : (t u : Shelf) (p : SymbolPart) (ws : List Text) → Extends t.names u.names → SymbolPartSaid t p ws → SymbolPartSaid u p ws
symbol_part_kept t u (Exports e) ws ext (x, y, same, name, target) = (x, y, same, name_kept t.names u.names x e.name ext name, target)
symbol_part_kept t u (Member s) ws ext h = h
symbol_part_kept t u (Declares d) ws ext h = declaration_kept t u d.head d.kind ws ext h
symbol_part_kept t u (Refers r) ws ext h = reference_kept t u r ws ext h

module_part_kept : (t u : Shelf) (p : ModulePart) (ws : List Text) → Grew t u → ModulePartSaid t p ws → ModulePartSaid u p ws
module_part_kept t u (Depends d) ws g (x, y, same, from, to) = (x, y, same, name_kept t.names u.names x d.specifier g.names from, subst (λ (ms : List Text). OrNone (ModuleSaid ms) y d.target) (sym g.modules) to)
module_part_kept t u (ExportsAll a) ws g (s, e, x, same, range, from) = (s, e, x, same, range, name_kept t.names u.names x a.specifier g.names from)
module_part_kept t u (Symbol o) ws g h = h
module_part_kept t u (Inner p) ws g h = symbol_part_kept t u p ws g.names h

-- what a line says stays so
pub said_kept : (t u : Shelf) (i : Item) (ws : List Text) → Grew t u → Said t i ws → Said u i ws
said_kept t u (Package p false) ws g (x, same, h) = (x, same, subst (λ (ps : List Text). PackageSaid ps x p) (sym g.packages) h)
said_kept t u (Package p true) ws g (x, same, h) = (x, same, subst (λ (ps : List Text). PackageSaid ps x p) (sym g.packages) h)
said_kept t u (Entry m) ws g (x, same, h) = (x, same, subst (λ (ms : List Text). ModuleSaid ms x m) (sym g.modules) h)
said_kept t u (Module m h) ws g (x, k, p, y, same, number, kind, owner, types) =
    (x, k, p, y, same, subst (λ (ms : List Text). ModuleSaid ms x m) (sym g.modules) number, kind, subst (λ (ps : List Text). OrNone (PackageSaid ps) p h.«package») (sym g.packages) owner, subst (λ (ms : List Text). OrNone (ModuleSaid ms) y h.types) (sym g.modules) types)
said_kept t u (Part p) ws g h = module_part_kept t u p ws g h
