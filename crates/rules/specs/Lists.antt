-- What the start of a trace and each fact give, in the order in which it is met, value before type. Assumes nothing.
use Rattle.std.specs.Prelude.{Bool, true, false, cond, not, ◌&&◌, ◌||◌, List, [], ◌∷◌, ◌++◌, length, Some, None, Option, ◌==◌, nat_le}
use Rattle.std.specs.List.{flat_map, list_any}
use Rattle.ids.specs.Names.{limit}
use Rattle.ids.specs.Paths.{names_of}
use Rattle.ids.specs.declared.numbers.ModuleId.{ModuleId}
use Rattle.ids.specs.declared.numbers.NameId.{NameId}
use Rattle.ids.specs.declared.numbers.PackageId.{PackageId}
use Rattle.ids.specs.declared.numbers.SymbolId.{SymbolId}
use Rattle.ids.specs.declared.path_struct.Path.{Path}
use Rattle.host.specs.Lookups.{module_at, symbol_at}
use Rattle.host.specs.Namespaces.{referred}
use Rattle.host.specs.Program.{DeclKind, target, qualified_target, file_ref, definition, Decl, Symbol, Program}
use Rattle.host.specs.declared.told.Export.{Export}
use Rattle.host.specs.declared.told.FileDepName.{FileDepName}
use Rattle.host.specs.declared.told.FileDepName.TheVariants.{Star, Name}
use Rattle.host.specs.declared.told.SymbolNodeDep.{SymbolNodeDep}
use Rattle.host.specs.declared.told.SymbolNodeDep.TheVariants.{Id, QualifiedId, ImportType}
use Rattle.resolution.specs.Targets as targets
use Rattle.rules.specs.Facts.{Fact, ask, below, Wanted, path, full, Outcome, reached, found, flagged, reported, requested, package_requested}
use Rattle.rules.specs.Symbols.{name_of, is_private, is_class, is_scope, namespaces_of, both, includes, is_overloaded, contains, leads_elsewhere, same_symbol, same_package}
use Rattle.rules.specs.declared.facts.DiagnosticKind.TheVariants.{UnsupportedPrivateMemberReference, NotFoundReference, UnsupportedComplexReference, UnresolvedReference}
use Rattle.rules.specs.declared.facts.Namespace.{Namespace}
use Rattle.rules.specs.declared.facts.Namespace.TheVariants.{Value, «Type»}

abbrev pub when : {X : Type 0} → Bool → List X → List X
when true xs = xs
when false xs = []

-- f of what is there
abbrev pub given : {X Y : Type 0} → (X → List Y) → Option X → List Y
given f None = []
given f (Some x) = f x

-- s is asked by r in each of these namespaces
abbrev pub asks : SymbolId → SymbolId → Bool × Bool → List Outcome
asks s r ns = when ns.0 (reached (ask s r Value) ∷ []) ++ when ns.1 (reached (ask s r «Type») ∷ [])

-- where a trace runs: the program, the package of the traced module, and the module that stands for it
pub record Trace : Type 0 where
  pub program : Program
  pub owner : Option PackageId
  pub at : ModuleId

abbrev pub package_of : Program → ModuleId → Option PackageId
package_of p m = elim (module_at p m) [ None ↦ None | Some x ↦ x.«package» ]

abbrev pub file_wanted : FileDepName → Wanted
file_wanted Star = full
file_wanted (Name n) = path (n ∷ [])

abbrev pub path_wanted : Option Path → Wanted
path_wanted None = full
path_wanted (Some q) = path (names_of q)

abbrev pub file_path : FileDepName → List NameId → List NameId
file_path Star ns = ns
file_path (Name n) ns = n ∷ ns

module _ (t : Trace) where
  abbrev pub symbol_of : SymbolId → Option Symbol
  symbol_of s = symbol_at t.program t.at s

  -- a file reference or import type: a target in the own package is asked, another package is only asked for
  abbrev pub into_package : ModuleId → (ModuleId → List Outcome) → PackageId → List Outcome
  into_package y own g = cond (same_package t.owner g) (own y) (package_requested g ∷ [])

  abbrev pub into_module : (ModuleId → List Outcome) → ModuleId → List Outcome
  into_module own y = given (into_package y own) (package_of t.program y)

  abbrev pub into : NameId → (ModuleId → List Outcome) → List Outcome
  into specifier own = given (into_module own) (targets.target t.program t.at specifier)

  abbrev pub asking : Wanted → ModuleId → List Outcome
  asking w y = requested y w ∷ []

  -- what a declaration of s gives that is asked by r

  abbrev pub dep_gives : SymbolId → SymbolNodeDep → List Outcome
  dep_gives s (Id o how) = given (λ x. asks x s (referred how)) o
  dep_gives s (QualifiedId o q) = given (λ x. reached (below x s (names_of q)) ∷ []) o
  dep_gives s (ImportType specifier o) = into specifier (asking (path_wanted o))

  -- the ranges of an export that the range of d does not contain
  abbrev pub apart : Decl → Symbol → List Outcome
  apart d e = flat_map (λ x. when (not (contains d.range x.range)) (found x.range ∷ [])) e.decls

  abbrev pub member_gives : SymbolId → SymbolId → Symbol → Decl → List Outcome
  member_gives s r x d = when d.flags.member (given (λ q. when (not (q.0 == r.0)) (asks q s both)) x.parent)

  abbrev pub function_gives : Symbol → Decl → List Outcome
  function_gives x d = when d.flags.function (flat_map (λ e. given (apart d) (symbol_of e.symbol)) x.exports)

  abbrev pub kind_gives : SymbolId → SymbolId → Namespace → Symbol → Decl → DeclKind → List Outcome
  kind_gives s r n x d (target o) = given (λ y. reached (ask y s n) ∷ []) o
  kind_gives s r n x d (qualified_target o q) = given (λ y. reached (below y s (names_of q)) ∷ []) o
  kind_gives s r n x d (file_ref f) = into f.specifier (asking (file_wanted f.name))
  kind_gives s r n x d (definition k deps) = member_gives s r x d ++ (function_gives x d ++ flat_map (dep_gives s) deps)

  abbrev pub decl_gives : SymbolId → SymbolId → Namespace → Symbol → Decl → List Outcome
  decl_gives s r n x d =
      when (includes (namespaces_of d) n) (found d.range ∷ cond (is_overloaded d) (flagged d.range ∷ []) (kind_gives s r n x d d.kind))

  abbrev pub children_give : SymbolId → Symbol → List Outcome
  children_give s x = flat_map (λ e. asks e.symbol s both) x.exports ++ flat_map (λ c. asks c s both) x.members

  abbrev pub ask_gives : SymbolId → SymbolId → Namespace → Symbol → List Outcome
  ask_gives s r n x =
      cond (is_private x) (when (not (same_symbol r x.parent)) (reported UnsupportedPrivateMemberReference s r [] ∷ [])) (flat_map (decl_gives s r n x) x.decls ++ children_give s x)

  -- what a path below s gives that is asked by r

  -- a path that may be too long is formed or reported
  abbrev pub formed : SymbolId → SymbolId → List NameId → (List NameId → Outcome) → List NameId → List Outcome
  formed s r p f q = cond (nat_le (length q) limit) (f q ∷ []) (reported UnresolvedReference s r p ∷ [])

  -- an absent symbol is reported
  abbrev pub known_or : SymbolId → SymbolId → List NameId → (SymbolId → List Outcome) → Option SymbolId → List Outcome
  known_or s r p f None = reported UnresolvedReference s r p ∷ []
  known_or s r p f (Some x) = f x

  abbrev pub elsewhere_gives : SymbolId → SymbolId → List NameId → DeclKind → List Outcome
  elsewhere_gives s r p (target o) = known_or s r p (λ x. reached (below x r p) ∷ []) o
  elsewhere_gives s r p (qualified_target o q) = known_or s r p (λ x. formed s r p (λ l. reached (below x r l)) (names_of q ++ p)) o
  elsewhere_gives s r p (file_ref f) = into f.specifier (λ y. formed s r p (λ l. requested y (path l)) (file_path f.name p))
  elsewhere_gives s r p (definition k deps) = []

  abbrev pub below_decl_gives : SymbolId → SymbolId → List NameId → Decl → List Outcome
  below_decl_gives s r p d = found d.range ∷ elsewhere_gives s r p d.kind

  -- the symbol of the export of a name
  abbrev pub export_named : List Export → NameId → Option SymbolId
  export_named [] f = None
  export_named (e ∷ es) f = cond (e.name.0 == f.0) (Some e.symbol) (export_named es f)

  abbrev pub is_named : NameId → Option NameId → Bool
  is_named f None = false
  is_named f (Some n) = n.0 == f.0

  abbrev pub symbol_named : NameId → Option Symbol → Bool
  symbol_named f None = false
  symbol_named f (Some x) = is_named f (name_of x)

  -- the first member of a name
  abbrev pub member_named : List SymbolId → NameId → Option SymbolId
  member_named [] f = None
  member_named (c ∷ cs) f = cond (symbol_named f (symbol_of c)) (Some c) (member_named cs f)

  -- below `prototype` of a class
  abbrev pub prototype_member : SymbolId → SymbolId → List NameId → List NameId → Option SymbolId → List Outcome
  prototype_member s r p more None = reported NotFoundReference s r p ∷ []
  prototype_member s r p [] (Some c) = asks c r both
  prototype_member s r p (g ∷ more) (Some c) = reported UnsupportedComplexReference s r p ∷ []

  abbrev pub prototype_gives : SymbolId → SymbolId → List NameId → Symbol → List NameId → List Outcome
  prototype_gives s r p x [] = asks s r both
  prototype_gives s r p x (f ∷ more) = prototype_member s r p more (member_named x.members f)

  abbrev pub export_below : SymbolId → List NameId → SymbolId → List Outcome
  export_below r [] c = asks c r both
  export_below r (g ∷ more) c = reached (below c r (g ∷ more)) ∷ []

  abbrev pub name_gives : SymbolId → SymbolId → List NameId → Symbol → List NameId → Option SymbolId → List Outcome
  name_gives s r p x rest (Some c) = export_below r rest c
  name_gives s r p x rest None = cond (is_class x || is_scope x) (reported NotFoundReference s r p ∷ []) (asks s r both)

  abbrev pub names_give : SymbolId → SymbolId → Symbol → List NameId → List Outcome
  names_give s r x [] = []
  names_give s r x (f ∷ rest) = cond (f.0 == 1 && is_class x) (prototype_gives s r (f ∷ rest) x rest) (name_gives s r (f ∷ rest) x rest (export_named x.exports f))

  abbrev pub below_gives : SymbolId → SymbolId → List NameId → Symbol → List Outcome
  below_gives s r p x = flat_map (below_decl_gives s r p) x.decls ++ when (not (list_any leads_elsewhere x.decls)) (names_give s r x p)

  -- what a fact gives
  unfoldable pub gives : Fact → List Outcome
  gives (ask s r n) = given (ask_gives s r n) (symbol_of s)
  gives (below s r p) = given (below_gives s r p) (symbol_of s)
