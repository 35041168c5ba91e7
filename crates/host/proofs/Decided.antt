-- The tests of the records say the same as the rules. Assumes nothing.
use Rattle.std.proofs.Common.{◌≡◌, ℕ, zero, suc, ◌^◌, ◌<◌, ◌≤◌, Bool, true, false, not, ◌&&◌, ◌||◌, eqb, ltb, leb, List, [], ◌∷◌, map, length, get_or, IfSome, Some, None, Decides, Option, sym, refl, ap, ◌∙◌, arith}
use Rattle.std.proofs.lemmas.Bool.{eqb-true, eq-eqb, leb-true, le-leb, false≢true, true≢false, not-true, and_parts, false_from_ne_true}
use Rattle.std.proofs.lemmas.List.{get_or_default}
use Rattle.std.proofs.lemmas.List.Folds.{Any-from_list_any, list_any_at}
use Rattle.std.proofs.lemmas.Bool.Decides.{Decides-eqb, Decides-ltb, Decides-and, Decides-like}
use Rattle.std.proofs.ByRecursion.{Decides-by_and}
use Rattle.std.specs.List.{AllByRecursion, list_all, slice_get}
use Rattle.ids.specs.Paths.{names_of}
use Rattle.ids.specs.declared.numbers.NameId.{NameId}
use Rattle.ids.specs.declared.numbers.SymbolId.{SymbolId}
use Rattle.ids.specs.declared.path_struct.Path.{Path}
use Rattle.host.specs.Program.{DeclKind, target, qualified_target, file_ref, definition, Decl, Symbol, Module, Package, Program}
use Rattle.host.specs.Rules.{name_limit, package_limit, module_limit, list_limit, AllAt, Distinct, NameKnown, PathKnown, SymbolKnown, RangeKept, DepKept, FileNameKnown, KindKept, is_definition, unflagged, DeclKept, ExportKnown, SymbolKept, DependencyKept, ReExportAllKept, ListsKept, is_typed, ModuleKept, owner_of, EntryKept, EntriesKept, PackageKept, Kept}
use Rattle.host.specs.Tests.{all_at, held, among, distinct, name_known, path_known, symbol_known, range_kept, dep_kept, file_name_known, kind_kept, decl_kept, export_known, symbol_kept, dependency_kept, re_export_all_kept, lists_kept, module_kept, is_number, entry_kept, entries_kept, package_kept, valid}
use Rattle.host.specs.declared.told.Dependency.{Dependency}
use Rattle.host.specs.declared.told.Export.{Export}
use Rattle.host.specs.declared.told.FileDepName.{FileDepName}
use Rattle.host.specs.declared.told.FileDepName.TheVariants.{Star, Name}
use Rattle.host.specs.declared.told.ModuleKind.{ModuleKind}
use Rattle.host.specs.declared.told.ModuleKind.TheVariants.{Missing, Typed, Untyped, Json, Wasm, External}
use Rattle.host.specs.declared.told.ReExportAll.{ReExportAll}
use Rattle.host.specs.declared.told.SourceRange.{SourceRange}
use Rattle.host.specs.declared.told.SymbolNodeDep.{SymbolNodeDep}
use Rattle.host.specs.declared.told.SymbolNodeDep.TheVariants.{Id, QualifiedId, ImportType}

-- of any test

pub decides_leb : (a b : ℕ) → Decides (leb a b) (a ≤ b)
decides_leb a b = (leb-true a b, le-leb a b)

pub decides_all : {X : Type 0} (t : X → Bool) (P : X → Type 0) → ((x : X) → Decides (t x) (P x)) → (xs : List X) → Decides (list_all t xs) (AllByRecursion P xs)
decides_all t P each xs = Decides-by_and t P (list_all t) each refl (λ _ _. refl) xs

decides_all_at : {X : Type 0} (t : ℕ → X → Bool) (P : ℕ → X → Type 0) → ((i : ℕ) (x : X) → Decides (t i x) (P i x)) → (i : ℕ) (xs : List X) → Decides (all_at t i xs) (AllAt P i xs)
decides_all_at t P each i [] = (λ _. tt, λ _. refl)
decides_all_at t P each i (x ∷ xs) = Decides-and (t i x) (all_at t (suc i) xs) (each i x) (decides_all_at t P each (suc i) xs)

decides_held : {X : Type 0} (o : Option X) (t : X → Bool) (P : X → Type 0) → ((x : X) → Decides (t x) (P x)) → Decides (held o t) (IfSome o P)
decides_held None t P each = (λ _. tt, λ _. refl)
decides_held (Some x) t P each = each x

-- distinct numbers

among_place : (n : ℕ) (ns : List ℕ) → among n ns ≡ true → (k : ℕ) × (k < length ns) × (get_or ns k 0 ≡ n)
among_place n ns h =
    let a = Any-from_list_any (eqb n) ns h in
    (a.0, a.2, get_or_default ns a.0 0 a.1 a.2 ∙ a.3 ∙ sym (eqb-true n a.1 a.4))

place_among : (n : ℕ) (ns : List ℕ) (k : ℕ) → k < length ns → get_or ns k 0 ≡ n → among n ns ≡ true
place_among n ns k h e = list_any_at (eqb n) ns k 0 h (eq-eqb n (get_or ns k 0) (sym e))

distinct_places : (ns : List ℕ) → distinct ns ≡ true → Distinct ns
distinct_places [] h i j wi wj e = absurd (omega arith)
distinct_places (n ∷ ns) h zero zero wi wj e = refl
distinct_places (n ∷ ns) h zero (suc j) wi wj e = absurd (true≢false (sym (place_among n ns j (omega arith) (sym e)) ∙ not-true (among n ns) (and_parts (not (among n ns)) (distinct ns) h).0))
distinct_places (n ∷ ns) h (suc i) zero wi wj e = absurd (true≢false (sym (place_among n ns i (omega arith) e) ∙ not-true (among n ns) (and_parts (not (among n ns)) (distinct ns) h).0))
distinct_places (n ∷ ns) h (suc i) (suc j) wi wj e = ap suc (distinct_places ns (and_parts (not (among n ns)) (distinct ns) h).1 i j (omega arith) (omega arith) e)

places_distinct : (ns : List ℕ) → Distinct ns → distinct ns ≡ true
places_distinct [] h = refl
places_distinct (n ∷ ns) h =
    let rest : Distinct ns = λ i j wi wj e. let s = h (suc i) (suc j) (omega arith) (omega arith) e in omega arith in
    let alone : among n ns ≡ true → ⊥ = λ a. let k = among_place n ns a in let s = h zero (suc k.0) (omega arith) (omega (arith, k.1)) (sym k.2) in omega arith in
    ap (λ b. not b && distinct ns) (false_from_ne_true (among n ns) alone) ∙ places_distinct ns rest

pub decides_distinct : (ns : List ℕ) → Decides (distinct ns) (Distinct ns)
decides_distinct ns = (distinct_places ns, places_distinct ns)

-- the records, from the inside out

name : (names : ℕ) (n : NameId) → Decides (name_known names n) (NameKnown names n)
name names n = Decides-ltb n.0 names

path : (names : ℕ) (p : Path) → Decides (path_known names p) (PathKnown names p)
path names p = decides_all (name_known names) (NameKnown names) (name names) (names_of p)

symbol : (symbols : ℕ) (s : SymbolId) → Decides (symbol_known symbols s) (SymbolKnown symbols s)
symbol symbols s = Decides-ltb s.0 symbols

maybe_symbol : (symbols : ℕ) (s : Option SymbolId) → Decides (held s (symbol_known symbols)) (IfSome s (SymbolKnown symbols))
maybe_symbol symbols s = decides_held s (symbol_known symbols) (SymbolKnown symbols) (symbol symbols)

range : (r : SourceRange) → Decides (range_kept r) (RangeKept r)
range r =
    Decides-like (range_kept r) (λ k. record { forward = k.0; small = k.1 }) (λ k. (k.forward, k.small))
    (Decides-and (leb r.start r.end) (ltb r.end (2 ^ 32)) (decides_leb r.start r.end) (Decides-ltb r.end (2 ^ 32)))

dep : (names symbols : ℕ) (d : SymbolNodeDep) → Decides (dep_kept names symbols d) (DepKept names symbols d)
dep names symbols (Id s n) = maybe_symbol symbols s
dep names symbols (QualifiedId s p) = Decides-and (held s (symbol_known symbols)) (path_known names p) (maybe_symbol symbols s) (path names p)
dep names symbols (ImportType t p) = Decides-and (name_known names t) (held p (path_known names)) (name names t) (decides_held p (path_known names) (PathKnown names) (path names))

file_name : (names : ℕ) (f : FileDepName) → Decides (file_name_known names f) (FileNameKnown names f)
file_name names Star = (λ _. tt, λ _. refl)
file_name names (Name n) = name names n

kind : (names symbols : ℕ) (k : DeclKind) → Decides (kind_kept names symbols k) (KindKept names symbols k)
kind names symbols (target s) = maybe_symbol symbols s
kind names symbols (qualified_target s p) = Decides-and (held s (symbol_known symbols)) (path_known names p) (maybe_symbol symbols s) (path names p)
kind names symbols (file_ref f) = Decides-and (name_known names f.specifier) (file_name_known names f.name) (name names f.specifier) (file_name names f.name)
kind names symbols (definition k deps) = Decides-and (leb (length deps) list_limit) (list_all (dep_kept names symbols) deps) (decides_leb (length deps) list_limit) (decides_all (dep_kept names symbols) (DepKept names symbols) (dep names symbols) deps)

only_there : (a b : Bool) → Decides (a || b) (a ≡ false → b ≡ true)
only_there true b = (λ _ e. absurd (true≢false e), λ _. refl)
only_there false b = (λ h e. h, λ h. h refl)

module _ (names symbols : ℕ) where
  decl : (d : Decl) → Decides (decl_kept names symbols d) (DeclKept names symbols d)
  decl d =
      let flags = only_there (is_definition d.kind) (unflagged d.flags) in
      let a = Decides-and (kind_kept names symbols d.kind) _ (kind names symbols d.kind) flags in
      let b = Decides-and (held d.name (name_known names)) _ (decides_held d.name (name_known names) (NameKnown names) (name names)) a in
      Decides-like (decl_kept names symbols d) (λ k. record { range_kept = k.0; name_known = k.1.0; kind_kept = k.1.1.0; flags_kept = k.1.1.1 }) (λ k. (k.range_kept, (k.name_known, (k.kind_kept, k.flags_kept))))
      (Decides-and (range_kept d.range) _ (range d.range) b)

  export_of : (e : Export) → Decides (export_known names symbols e) (ExportKnown names symbols e)
  export_of e = Decides-and (name_known names e.name) (symbol_known symbols e.symbol) (name names e.name) (symbol symbols e.symbol)

  symbol_of : (i : ℕ) (s : Symbol) → Decides (symbol_kept names symbols i s) (SymbolKept names symbols i s)
  symbol_of i s =
      let members = decides_all (symbol_known symbols) (SymbolKnown symbols) (symbol symbols) s.members in
      let a = Decides-and (leb (length s.members) list_limit) _ (decides_leb (length s.members) list_limit) members in
      let b = Decides-and (distinct (map (λ e. e.name.0) s.exports)) _ (decides_distinct (map (λ e. e.name.0) s.exports)) a in
      let c = Decides-and (list_all (export_known names symbols) s.exports) _ (decides_all (export_known names symbols) (ExportKnown names symbols) export_of s.exports) b in
      let d = Decides-and (leb (length s.exports) list_limit) _ (decides_leb (length s.exports) list_limit) c in
      let e = Decides-and (list_all (decl_kept names symbols) s.decls) _ (decides_all (decl_kept names symbols) (DeclKept names symbols) decl s.decls) d in
      let f = Decides-and (leb (length s.decls) list_limit) _ (decides_leb (length s.decls) list_limit) e in
      let g = Decides-and (leb 1 (length s.decls)) _ (decides_leb 1 (length s.decls)) f in
      Decides-like (symbol_kept names symbols i s)
      (λ k. record { parent_lower = k.0; decls_some = k.1.0; decls_few = k.1.1.0; decls_kept = k.1.1.1.0; exports_few = k.1.1.1.1.0; exports_known = k.1.1.1.1.1.0; exports_distinct = k.1.1.1.1.1.1.0; members_few = k.1.1.1.1.1.1.1.0; members_known = k.1.1.1.1.1.1.1.1 })
      (λ k. (k.parent_lower, (k.decls_some, (k.decls_few, (k.decls_kept, (k.exports_few, (k.exports_known, (k.exports_distinct, (k.members_few, k.members_known)))))))))
      (Decides-and (held s.parent (λ p. ltb p.0 i)) _ (decides_held s.parent (λ p. ltb p.0 i) (λ p. p.0 < i) (λ p. Decides-ltb p.0 i)) g)

lists : (k : ModuleKind) (d e s : ℕ) → Decides (lists_kept k d e s) (ListsKept k d e s)
lists Missing d e s = Decides-and (eqb d 0) _ (Decides-eqb d 0) (Decides-and (eqb e 0) (eqb s 0) (Decides-eqb e 0) (Decides-eqb s 0))
lists Typed d e s = decides_leb 1 s
lists Untyped d e s = decides_leb 1 s
lists Json d e s = decides_leb 1 s
lists Wasm d e s = decides_leb 1 s
lists External d e s = Decides-and (eqb d 0) _ (Decides-eqb d 0) (Decides-and (eqb e 0) (eqb s 0) (Decides-eqb e 0) (Decides-eqb s 0))

itself : (b : Bool) → Decides b (b ≡ true)
itself b = (λ h. h, λ h. h)

module _ (names packages modules : ℕ) where
  dependency : (d : Dependency) → Decides (dependency_kept names modules d) (DependencyKept names modules d)
  dependency d = Decides-and (name_known names d.specifier) _ (name names d.specifier) (decides_held d.target (λ t. ltb t.0 modules) (λ t. t.0 < modules) (λ t. Decides-ltb t.0 modules))

  re_export_all : (e : ReExportAll) → Decides (re_export_all_kept names e) (ReExportAllKept names e)
  re_export_all e = Decides-and (range_kept e.range) (name_known names e.specifier) (range e.range) (name names e.specifier)

  module_of : (m : Module) → Decides (module_kept names packages modules m) (ModuleKept names packages modules m)
  module_of m =
      let symbols = decides_all_at (symbol_kept names (length m.symbols)) (SymbolKept names (length m.symbols)) (symbol_of names (length m.symbols)) 0 m.symbols in
      let a = Decides-and (leb (length m.symbols) list_limit) _ (decides_leb (length m.symbols) list_limit) symbols in
      let b = Decides-and (list_all (re_export_all_kept names) m.re_export_alls) _ (decides_all (re_export_all_kept names) (ReExportAllKept names) re_export_all m.re_export_alls) a in
      let c = Decides-and (leb (length m.re_export_alls) list_limit) _ (decides_leb (length m.re_export_alls) list_limit) b in
      let d = Decides-and (distinct (map (λ d. d.specifier.0) m.dependencies)) _ (decides_distinct (map (λ d. d.specifier.0) m.dependencies)) c in
      let e = Decides-and (list_all (dependency_kept names modules) m.dependencies) _ (decides_all (dependency_kept names modules) (DependencyKept names modules) dependency m.dependencies) d in
      let f = Decides-and (leb (length m.dependencies) list_limit) _ (decides_leb (length m.dependencies) list_limit) e in
      let g = Decides-and (lists_kept m.kind (length m.dependencies) (length m.re_export_alls) (length m.symbols)) _ (lists m.kind (length m.dependencies) (length m.re_export_alls) (length m.symbols)) f in
      let h = Decides-and (held m.types (λ t. is_typed m.kind)) _ (decides_held m.types (λ t. is_typed m.kind) (λ t. is_typed m.kind ≡ true) (λ t. itself (is_typed m.kind))) g in
      let i = Decides-and (held m.types (λ t. ltb t.0 modules)) _ (decides_held m.types (λ t. ltb t.0 modules) (λ t. t.0 < modules) (λ t. Decides-ltb t.0 modules)) h in
      Decides-like (module_kept names packages modules m)
      (λ k. record { package_known = k.0; types_known = k.1.0; types_of_typed = k.1.1.0; lists_kept = k.1.1.1.0; dependencies_few = k.1.1.1.1.0; dependencies_kept = k.1.1.1.1.1.0; dependencies_distinct = k.1.1.1.1.1.1.0; re_export_alls_few = k.1.1.1.1.1.1.1.0; re_export_alls_kept = k.1.1.1.1.1.1.1.1.0; symbols_few = k.1.1.1.1.1.1.1.1.1.0; symbols_kept = k.1.1.1.1.1.1.1.1.1.1 })
      (λ k. (k.package_known, (k.types_known, (k.types_of_typed, (k.lists_kept, (k.dependencies_few, (k.dependencies_kept, (k.dependencies_distinct, (k.re_export_alls_few, (k.re_export_alls_kept, (k.symbols_few, k.symbols_kept)))))))))))
      (Decides-and (held m.«package» (λ p. ltb p.0 packages)) _ (decides_held m.«package» (λ p. ltb p.0 packages) (λ p. p.0 < packages) (λ p. Decides-ltb p.0 packages)) i)

the_number : (i : ℕ) (o : Option ℕ) → Decides (is_number i o) (o ≡ Some i)
the_number i None = (λ h. absurd (false≢true h), λ e. ap (is_number i) e ∙ eq-eqb i i refl)
the_number i (Some n) = (λ h. ap Some (eqb-true n i h), λ e. ap (is_number i) e ∙ eq-eqb i i refl)

module _ (modules : List Module) where
  package_of : (i : ℕ) (p : Package) → Decides (package_kept modules i p) (PackageKept modules i p)
  package_of i p =
      decides_held p.entries (entries_kept modules i) (EntriesKept modules i)
      (λ es. Decides-and (leb (length es) list_limit) _ (decides_leb (length es) list_limit) (decides_all (entry_kept modules i) (EntryKept modules i) (λ m. the_number i (owner_of (slice_get modules m.0))) es))

-- the test of a program says whether it keeps the rules
pub decides_kept : (p : Program) → Decides (valid p) (Kept p)
unfolding valid
decides_kept p =
    let ms = p.modules in
    let n = p.names in
    let modules = decides_all (module_kept n (length p.packages) (length ms)) (ModuleKept n (length p.packages) (length ms)) (module_of n (length p.packages) (length ms)) ms in
    let a = Decides-and (all_at (package_kept ms) 0 p.packages) _ (decides_all_at (package_kept ms) (PackageKept ms) (package_of ms) 0 p.packages) modules in
    let b = Decides-and (leb (length ms) module_limit) _ (decides_leb (length ms) module_limit) a in
    let c = Decides-and (leb (length p.packages) package_limit) _ (decides_leb (length p.packages) package_limit) b in
    let d = Decides-and (leb n name_limit) _ (decides_leb n name_limit) c in
    Decides-like (valid p)
    (λ k. record { names_some = k.0; names_few = k.1.0; packages_few = k.1.1.0; modules_few = k.1.1.1.0; packages_kept = k.1.1.1.1.0; modules_kept = k.1.1.1.1.1 })
    (λ k. (k.names_some, (k.names_few, (k.packages_few, (k.modules_few, (k.packages_kept, k.modules_kept))))))
    (Decides-and (leb 2 n) _ (decides_leb 2 n) d)
