-- The rules of one trace as a relation: one constructor for each way in which a fact gives something. Assumes nothing.
use Rattle.std.specs.Prelude.{◌≡◌, ℕ, ◌<◌, ◌≤◌, true, false, ◌||◌, List, [], ◌∷◌, ◌++◌, length, Some, None, Option, ◌≢◌}
use Rattle.std.specs.List.{slice_get, list_any}
use Rattle.ids.specs.Names.{limit, prototype_name}
use Rattle.ids.specs.Paths.{names_of}
use Rattle.ids.specs.declared.numbers.ModuleId.{ModuleId}
use Rattle.ids.specs.declared.numbers.NameId.{NameId}
use Rattle.ids.specs.declared.numbers.PackageId.{PackageId}
use Rattle.ids.specs.declared.numbers.SymbolId.{SymbolId}
use Rattle.ids.specs.declared.path_struct.Path.{Path}
use Rattle.host.specs.Namespaces.{referred}
use Rattle.host.specs.Program.{DeclKind, target, qualified_target, file_ref, definition, Decl, Symbol}
use Rattle.host.specs.declared.node_kinds.NodeKind.{NodeKind}
use Rattle.host.specs.declared.told.Export.{Export}
use Rattle.host.specs.declared.told.FileDep.{FileDep}
use Rattle.host.specs.declared.told.ReferenceNamespace.{ReferenceNamespace}
use Rattle.host.specs.declared.told.SymbolNodeDep.{SymbolNodeDep}
use Rattle.host.specs.declared.told.SymbolNodeDep.TheVariants.{Id, QualifiedId, ImportType}
use Rattle.resolution.specs.Targets as targets
use Rattle.rules.specs.Facts.{Fact, ask, below, path, Outcome, reached, found, flagged, reported, requested, package_requested}
use Rattle.rules.specs.Lists.{Trace, package_of, file_wanted, path_wanted, file_path, symbol_of, export_named, member_named}
use Rattle.rules.specs.Symbols.{is_private, is_class, is_scope, namespaces_of, includes, is_overloaded, contains, leads_elsewhere, same_package}
use Rattle.rules.specs.declared.facts.DiagnosticKind.TheVariants.{UnsupportedPrivateMemberReference, NotFoundReference, UnsupportedComplexReference, UnresolvedReference}
use Rattle.rules.specs.declared.facts.Namespace.{Namespace}

-- x stands at a place of the list
abbrev pub Among : {X : Type 0} → List X → X → Type 0
Among xs x = (i : ℕ) × (slice_get xs i ≡ Some x)

module _ (t : Trace) where
  -- the target of a specifier is a module of the traced package
  pub record OwnTarget (specifier : NameId) (y : ModuleId) : Type 0 where
    pub leads : targets.target t.program t.at specifier ≡ Some y
    pub owner : PackageId
    pub owned : package_of t.program y ≡ Some owner
    pub same : same_package t.owner owner ≡ true

  -- the target of a specifier is a module of another package
  pub record OtherTarget (specifier : NameId) (g : PackageId) : Type 0 where
    pub to : ModuleId
    pub leads : targets.target t.program t.at specifier ≡ Some to
    pub owned : package_of t.program to ≡ Some g
    pub other : same_package t.owner g ≡ false

  -- d is a declaration of s
  pub record Declares (s : SymbolId) (x : Symbol) (d : Decl) : Type 0 where
    pub symbol : symbol_of t s ≡ Some x
    pub there : Among x.decls d

  -- it is met where s is asked in n: s is not private, and d is of that namespace
  pub record Met (s : SymbolId) (n : Namespace) (x : Symbol) (d : Decl) : Type 0 where
    pub declares : Declares s x d
    pub public : is_private x ≡ false
    pub of_namespace : includes (namespaces_of d) n ≡ true

  -- and it is no implementation with overloads, so it is looked into
  pub record Open (s : SymbolId) (n : Namespace) (x : Symbol) (d : Decl) (k : DeclKind) : Type 0 where
    pub met : Met s n x d
    pub alone : is_overloaded d ≡ false
    pub kind : d.kind ≡ k

  -- a definition refers to something
  pub record Refers (s : SymbolId) (n : Namespace) (dep : SymbolNodeDep) : Type 0 where
    pub symbol : Symbol
    pub decl : Decl
    pub node : NodeKind
    pub deps : List SymbolNodeDep
    pub defined : Open s n symbol decl (definition node deps)
    pub there : Among deps dep

  -- s is not private
  pub record Public (s : SymbolId) (x : Symbol) : Type 0 where
    pub symbol : symbol_of t s ≡ Some x
    pub public : is_private x ≡ false

  -- no declaration of s leads elsewhere: a path below it is looked up by name
  pub record Named (s : SymbolId) (x : Symbol) : Type 0 where
    pub symbol : symbol_of t s ≡ Some x
    pub own : list_any leads_elsewhere x.decls ≡ false

  -- and its first name is not `prototype` of a class
  pub record Plain (s : SymbolId) (x : Symbol) (f : NameId) : Type 0 where
    pub named : Named s x
    pub plain : f.0 ≡ 1 → is_class x ≢ true

  pub data Gives : Fact → Outcome → Type 0 where
    -- a private symbol is asked by another than its parent
    private_asked : {s r : SymbolId} {n : Namespace} {x : Symbol} → symbol_of t s ≡ Some x → is_private x ≡ true → (x.parent ≢ Some r) → Gives (ask s r n) (reported UnsupportedPrivateMemberReference s r [])
    -- a declaration in the asked namespace
    declaration : {s r : SymbolId} {n : Namespace} {x : Symbol} {d : Decl} → Met s n x d → Gives (ask s r n) (found d.range)
    overloaded : {s r : SymbolId} {n : Namespace} {x : Symbol} {d : Decl} → Met s n x d → is_overloaded d ≡ true → Gives (ask s r n) (flagged d.range)
    -- an alias, a qualified alias, a file reference
    alias : {s r y : SymbolId} {n : Namespace} {x : Symbol} {d : Decl} → Open s n x d (target (Some y)) → Gives (ask s r n) (reached (ask y s n))
    qualified_alias : {s r y : SymbolId} {n : Namespace} {x : Symbol} {d : Decl} {q : Path} → Open s n x d (qualified_target (Some y) q) → Gives (ask s r n) (reached (below y s (names_of q)))
    file_reference : {s r : SymbolId} {n : Namespace} {x : Symbol} {d : Decl} {f : FileDep} {y : ModuleId} → Open s n x d (file_ref f) → OwnTarget f.specifier y → Gives (ask s r n) (requested y (file_wanted f.name))
    file_of_package : {s r : SymbolId} {n : Namespace} {x : Symbol} {d : Decl} {f : FileDep} {g : PackageId} → Open s n x d (file_ref f) → OtherTarget f.specifier g → Gives (ask s r n) (package_requested g)
    -- a member asks for its class, unless that asked
    class_of_member : {s r q : SymbolId} {n m : Namespace} {x : Symbol} {d : Decl} {k : NodeKind} {deps : List SymbolNodeDep} → Open s n x d (definition k deps) → d.flags.member ≡ true → x.parent ≡ Some q → (q ≢ r) → Gives (ask s r n) (reached (ask q s m))
    -- a function has the ranges of its expando properties that lie outside it
    expando_property : {s r : SymbolId} {n : Namespace} {x y : Symbol} {d b : Decl} {k : NodeKind} {deps : List SymbolNodeDep} {e : Export} → Open s n x d (definition k deps) → d.flags.function ≡ true → Among x.exports e → symbol_of t e.symbol ≡ Some y → Among y.decls b → contains d.range b.range ≡ false → Gives (ask s r n) (found b.range)
    -- ids, qualified ids and import types
    id : {s r y : SymbolId} {n m : Namespace} {how : ReferenceNamespace} → Refers s n (Id (Some y) how) → includes (referred how) m ≡ true → Gives (ask s r n) (reached (ask y s m))
    qualified_id : {s r y : SymbolId} {n : Namespace} {q : Path} → Refers s n (QualifiedId (Some y) q) → Gives (ask s r n) (reached (below y s (names_of q)))
    import_type : {s r : SymbolId} {n : Namespace} {specifier : NameId} {o : Option Path} {y : ModuleId} → Refers s n (ImportType specifier o) → OwnTarget specifier y → Gives (ask s r n) (requested y (path_wanted o))
    import_of_package : {s r : SymbolId} {n : Namespace} {specifier : NameId} {o : Option Path} {g : PackageId} → Refers s n (ImportType specifier o) → OtherTarget specifier g → Gives (ask s r n) (package_requested g)
    -- exports and members of an asked symbol, in both namespaces
    export_of : {s r : SymbolId} {n m : Namespace} {x : Symbol} {e : Export} → Public s x → Among x.exports e → Gives (ask s r n) (reached (ask e.symbol s m))
    member_of : {s r c : SymbolId} {n m : Namespace} {x : Symbol} → Public s x → Among x.members c → Gives (ask s r n) (reached (ask c s m))
    -- a path below a symbol: all its ranges
    below_declaration : {s r : SymbolId} {p : List NameId} {x : Symbol} {d : Decl} → Declares s x d → Gives (below s r p) (found d.range)
    -- it goes on below what an alias leads to
    below_alias : {s r y : SymbolId} {p : List NameId} {x : Symbol} {d : Decl} → Declares s x d → d.kind ≡ target (Some y) → Gives (below s r p) (reached (below y r p))
    below_qualified_alias : {s r y : SymbolId} {p : List NameId} {x : Symbol} {d : Decl} {q : Path} → Declares s x d → d.kind ≡ qualified_target (Some y) q → length (names_of q ++ p) ≤ limit → Gives (below s r p) (reached (below y r (names_of q ++ p)))
    below_file : {s r : SymbolId} {p : List NameId} {x : Symbol} {d : Decl} {f : FileDep} {y : ModuleId} → Declares s x d → d.kind ≡ file_ref f → OwnTarget f.specifier y → length (file_path f.name p) ≤ limit → Gives (below s r p) (requested y (path (file_path f.name p)))
    below_file_of_package : {s r : SymbolId} {p : List NameId} {x : Symbol} {d : Decl} {f : FileDep} {g : PackageId} → Declares s x d → d.kind ≡ file_ref f → OtherTarget f.specifier g → Gives (below s r p) (package_requested g)
    -- an absent symbol, and a path past the limit
    absent_alias : {s r : SymbolId} {p : List NameId} {x : Symbol} {d : Decl} → Declares s x d → d.kind ≡ target None → Gives (below s r p) (reported UnresolvedReference s r p)
    absent_qualified_alias : {s r : SymbolId} {p : List NameId} {x : Symbol} {d : Decl} {q : Path} → Declares s x d → d.kind ≡ qualified_target None q → Gives (below s r p) (reported UnresolvedReference s r p)
    too_long_alias : {s r y : SymbolId} {p : List NameId} {x : Symbol} {d : Decl} {q : Path} → Declares s x d → d.kind ≡ qualified_target (Some y) q → limit < length (names_of q ++ p) → Gives (below s r p) (reported UnresolvedReference s r p)
    too_long_file : {s r : SymbolId} {p : List NameId} {x : Symbol} {d : Decl} {f : FileDep} {y : ModuleId} → Declares s x d → d.kind ≡ file_ref f → OwnTarget f.specifier y → limit < length (file_path f.name p) → Gives (below s r p) (reported UnresolvedReference s r p)
    -- `prototype` of a class, and its members
    prototype : {s r : SymbolId} {m : Namespace} {x : Symbol} → Named s x → is_class x ≡ true → Gives (below s r (prototype_name ∷ [])) (reached (ask s r m))
    prototype_member : {s r c : SymbolId} {m : Namespace} {x : Symbol} {f : NameId} → Named s x → is_class x ≡ true → member_named t x.members f ≡ Some c → Gives (below s r (prototype_name ∷ f ∷ [])) (reached (ask c r m))
    prototype_lacks : {s r : SymbolId} {x : Symbol} {f : NameId} {more : List NameId} → Named s x → is_class x ≡ true → member_named t x.members f ≡ None → Gives (below s r (prototype_name ∷ f ∷ more)) (reported NotFoundReference s r (prototype_name ∷ f ∷ more))
    prototype_deeper : {s r c : SymbolId} {x : Symbol} {f g : NameId} {more : List NameId} → Named s x → is_class x ≡ true → member_named t x.members f ≡ Some c → Gives (below s r (prototype_name ∷ f ∷ g ∷ more)) (reported UnsupportedComplexReference s r (prototype_name ∷ f ∷ g ∷ more))
    -- an export of the name
    export_named_last : {s r c : SymbolId} {m : Namespace} {x : Symbol} {f : NameId} → Plain s x f → export_named t x.exports f ≡ Some c → Gives (below s r (f ∷ [])) (reached (ask c r m))
    export_named_on : {s r c : SymbolId} {x : Symbol} {f g : NameId} {rest : List NameId} → Plain s x f → export_named t x.exports f ≡ Some c → Gives (below s r (f ∷ g ∷ rest)) (reached (below c r (g ∷ rest)))
    -- no export: a class or a scope lacks it, and any other symbol is asked itself
    scope_lacks : {s r : SymbolId} {x : Symbol} {f : NameId} {rest : List NameId} → Plain s x f → export_named t x.exports f ≡ None → (is_class x || is_scope x) ≡ true → Gives (below s r (f ∷ rest)) (reported NotFoundReference s r (f ∷ rest))
    itself : {s r : SymbolId} {m : Namespace} {x : Symbol} {f : NameId} {rest : List NameId} → Plain s x f → export_named t x.exports f ≡ None → (is_class x || is_scope x) ≡ false → Gives (below s r (f ∷ rest)) (reached (ask s r m))
