-- An outcome is in the list of what the start gives exactly where the rules give it. Assumes nothing.
use Rattle.std.proofs.Common.{◌≡◌, ℕ, ◌<◌, ◌≤◌, Bool, true, false, not, ◌&&◌, eqb, ◌⊎◌, List, [], ◌∷◌, Some, None, Option, sym, refl, ap, ◌∙◌, subst, inl, inr, arith}
use Rattle.std.proofs.lemmas.Bool.{eq-eqb, ne_eqb, not-true, not_from_false, cases_lt, true≢false, false≢true}
use Rattle.std.specs.List.{slice_get, flat_map}
use Rattle.ids.specs.Paths.{names_of}
use Rattle.ids.specs.declared.numbers.ModuleId.{ModuleId}
use Rattle.ids.specs.declared.numbers.NameId.{NameId}
use Rattle.ids.specs.declared.numbers.PackageId.{PackageId}
use Rattle.ids.specs.declared.numbers.SymbolId.{SymbolId}
use Rattle.host.specs.Lookups.{module_at}
use Rattle.host.specs.Program.{Program}
use Rattle.host.specs.declared.told.Export.{Export}
use Rattle.host.specs.declared.told.ModuleKind.{ModuleKind}
use Rattle.host.specs.declared.told.ModuleKind.TheVariants.{Missing, Typed, Untyped, Json, Wasm, External}
use Rattle.host.specs.declared.told.ReExportAll.{ReExportAll}
use Rattle.joining.specs.Joining as joining
use Rattle.resolution.specs.Targets as targets
use Rattle.offering.proofs.Computing.{first_lawful}
use Rattle.offering.specs.Computed.{first_offer}
use Rattle.offering.specs.Offers.{First}
use Rattle.rules.specs.Facts.{ask, path, Outcome, reached, found, reported, requested, package_requested}
use Rattle.rules.specs.Lists.{given, asks, Trace, package_of, symbol_of, export_named}
use Rattle.rules.specs.Members.{In, first, later}
use Rattle.rules.specs.Rules.{Among}
use Rattle.rules.specs.Starting.{Exported, LeadsTo, StarGives, star_export, star_range, star_request, star_package, PathGives, path_export, path_below, path_range, path_request, path_nowhere, RecordGives, of_star, of_full, of_path, is_traced, is_untyped, Starts, untyped, traced}
use Rattle.rules.specs.Starts as lists
use Rattle.rules.specs.Symbols.{exported_namespaces, same_package}
use Rattle.rules.specs.declared.facts.DiagnosticKind.TheVariants.{UnsupportedNestedJavaScript}
use Rattle.rules.specs.declared.facts.Namespace.{Namespace}
use Rattle.rules.proofs.Membership.{in_left, in_right, in_either, in_one, to_each, from_each, to_when, from_when, to_given, from_given, to_asks, from_asks}

-- the first place is one
pub first_same : (p : Program) (f : NameId) (x : ModuleId) (a b : Option ℕ) → First p f x a → First p f x b → a ≡ b
first_same p f x None None h k = refl
first_same p f x None (Some j) h k = absurd (h j k.0)
first_same p f x (Some i) None h k = absurd (k i h.0)
first_same p f x (Some i) (Some j) h k = by_order (cases_lt i j) (cases_lt j i)
  where
    by_order : (i < j) ⊎ (j ≤ i) → (j < i) ⊎ (i ≤ j) → Some i ≡ Some j
    by_order (inl less) other = absurd (k.1 i less h.0)
    by_order (inr more) (inl less) = absurd (h.1 j less k.0)
    by_order (inr more) (inr also) = let e : i ≡ j = omega arith in ap Some e

module _ (t : Trace) where
  to_exported : (s : SymbolId) (n : Namespace) → Exported t s n → In (reached (ask s targets.module_symbol n)) (lists.export_asked t s)
  to_exported s n h = to_given (λ x. asks s targets.module_symbol (exported_namespaces x)) (symbol_of t s) h.symbol h.there (to_asks s targets.module_symbol (exported_namespaces h.symbol) n h.exported)

  from_exported : (s : SymbolId) (o : Outcome) → In o (lists.export_asked t s) → (n : Namespace) × Exported t s n × (o ≡ reached (ask s targets.module_symbol n))
  from_exported s o h =
      let a = from_given (λ x. asks s targets.module_symbol (exported_namespaces x)) (symbol_of t s) h in
      let b = from_asks s targets.module_symbol (exported_namespaces a.0) o a.2 in
      (b.0, record { symbol = a.0; there = a.1; exported = b.1 }, b.2)

  -- star and full

  kept_out : (b : Bool) (e : Export) → (b ≡ false → e.name.0 ≡ 0 → ⊥) → not (not b && eqb e.name.0 0) ≡ true
  kept_out true e h = refl
  kept_out false e h = not_from_false (eqb e.name.0 0) (ne_eqb e.name.0 0 (h refl))

  let_in : (b : Bool) (e : Export) → not (not b && eqb e.name.0 0) ≡ true → b ≡ false → e.name.0 ≡ 0 → ⊥
  let_in true e h is z = true≢false is
  let_in false e h is z = true≢false (sym (eq-eqb e.name.0 0 z) ∙ not-true (eqb e.name.0 0) h)

  to_all : (b : Bool) (e : ReExportAll) (o : Outcome) → Among (lists.module_alls t) e → In o (lists.star_all t e) → In o (lists.star_gives t b)
  to_all b e o at h = in_right (flat_map (lists.star_export t b) (lists.module_exports t)) (to_each (lists.star_all t) (lists.module_alls t) e at h)

  to_all_into : (e : ReExportAll) (y : ModuleId) (g : PackageId) (o : Outcome) → LeadsTo t e y → package_of t.program y ≡ Some g → In o (lists.star_into t y g) → In o (lists.star_all t e)
  to_all_into e y g o leads owned h = later (to_given (λ z. given (lists.star_into t z) (package_of t.program z)) (targets.target t.program t.at e.specifier) y leads (to_given (lists.star_into t y) (package_of t.program y) g owned h))

  pub to_star : (b : Bool) {o : Outcome} → StarGives t b o → In o (lists.star_gives t b)
  to_star b (star_export {e = e} {n = n} at out exported) = in_left (flat_map (lists.star_all t) (lists.module_alls t)) (to_each (lists.star_export t b) (lists.module_exports t) e at (to_when (not (not b && eqb e.name.0 0)) (lists.export_asked t e.symbol) (kept_out b e out) (to_exported e.symbol n exported)))
  to_star b (star_range {e = e} at) = to_all b e _ at (first refl)
  to_star b (star_request {e = e} {y = y} {g = g} at leads owned) = to_all b e _ at (to_all_into e y g _ leads owned (first refl))
  to_star b (star_package {e = e} {y = y} {g = g} at leads owned other) = to_all b e _ at (to_all_into e y g _ leads owned (later (to_when (not (same_package t.owner g)) (package_requested g ∷ []) (not_from_false (same_package t.owner g) other) (first refl))))

  from_all : (b : Bool) (e : ReExportAll) (o : Outcome) → Among (lists.module_alls t) e → In o (lists.star_all t e) → StarGives t b o
  from_all b e o at (first is) = subst (λ u. StarGives t b u) (sym is) (star_range at)
  from_all b e o at (later h) =
      let a = from_given (λ z. given (lists.star_into t z) (package_of t.program z)) (targets.target t.program t.at e.specifier) h in
      let c = from_given (lists.star_into t a.0) (package_of t.program a.0) a.2 in
      by_place a.0 c.0 a.1 c.1 c.2
    where
      by_place : (y : ModuleId) (g : PackageId) → LeadsTo t e y → package_of t.program y ≡ Some g → In o (lists.star_into t y g) → StarGives t b o
      by_place y g leads owned (first is) = subst (λ u. StarGives t b u) (sym is) (star_request at leads owned)
      by_place y g leads owned (later k) =
          let w = from_when (not (same_package t.owner g)) (package_requested g ∷ []) k in
          subst (λ u. StarGives t b u) (sym (in_one w.1)) (star_package at leads owned (not-true (same_package t.owner g) w.0))

  pub from_star : (b : Bool) (o : Outcome) → In o (lists.star_gives t b) → StarGives t b o
  from_star b o h = elim (in_either (flat_map (lists.star_export t b) (lists.module_exports t)) h) [
    | inl a ↦ let e = from_each (lists.star_export t b) (lists.module_exports t) a in let w = from_when (not (not b && eqb e.0.name.0 0)) (lists.export_asked t e.0.symbol) e.2 in let x = from_exported e.0.symbol o w.1 in subst (λ u. StarGives t b u) (sym x.2) (star_export e.1 (let_in b e.0 w.0) x.1)
    | inr a ↦ let e = from_each (lists.star_all t) (lists.module_alls t) a in from_all b e.0 o e.1 e.2
  ]

  -- paths

  to_begun : (f : NameId) (rest : List NameId) (c : Option SymbolId) (o : Outcome) → export_named t (lists.module_exports t) f ≡ c → In o (lists.path_begun t (f ∷ rest) f rest c) → In o (lists.path_gives t (f ∷ rest))
  to_begun f rest c o is h = subst (λ u. In o (lists.path_begun t (f ∷ rest) f rest u)) (sym is) h

  to_passed : (f : NameId) (rest : List NameId) (i : Option ℕ) (o : Outcome) → export_named t (lists.module_exports t) f ≡ None → First t.program f t.at i → In o (lists.path_passed t (f ∷ rest) i) → In o (lists.path_gives t (f ∷ rest))
  to_passed f rest i o is at h = to_begun f rest None o is (subst (λ u. In o (lists.path_passed t (f ∷ rest) u)) (first_same t.program f t.at i (first_offer t.program f t.at) at (first_lawful t.program f t.at)) h)

  pub to_path : {ns : List NameId} {o : Outcome} → PathGives t ns o → In o (lists.path_gives t ns)
  to_path (path_export {f = f} {s = s} {n = n} is exported) = to_begun f [] (Some s) _ is (to_exported s n exported)
  to_path (path_below {f = f} {g = g} {rest = rest} {s = s} is) = to_begun f (g ∷ rest) (Some s) _ is (first refl)
  to_path (path_range {f = f} {rest = rest} i {e = e} is at there) = to_passed f rest (Some i) _ is at (to_given (lists.path_offered t (f ∷ rest)) (slice_get (lists.module_alls t) i) e there (first refl))
  to_path (path_request {f = f} {rest = rest} i {e = e} {y = y} {g = g} is at there leads owned) = to_passed f rest (Some i) _ is at (to_given (lists.path_offered t (f ∷ rest)) (slice_get (lists.module_alls t) i) e there (later (to_given (λ z. lists.path_into t (f ∷ rest) (targets.stands t.program z)) (targets.target t.program t.at e.specifier) y leads (to_given (λ k. requested (targets.stands t.program y) (path (f ∷ rest)) ∷ []) (package_of t.program (targets.stands t.program y)) g owned (first refl)))))
  to_path (path_nowhere {f = f} {rest = rest} {e = e} is at among) = to_passed f rest None _ is at (to_each (λ z. found z.range ∷ []) (lists.module_alls t) e among (first refl))

  from_offered : (f : NameId) (rest : List NameId) (i : ℕ) (e : ReExportAll) (o : Outcome) → export_named t (lists.module_exports t) f ≡ None → First t.program f t.at (Some i) → slice_get (lists.module_alls t) i ≡ Some e → In o (lists.path_offered t (f ∷ rest) e) → PathGives t (f ∷ rest) o
  from_offered f rest i e o is at there (first same) = subst (λ u. PathGives t (f ∷ rest) u) (sym same) (path_range i is at there)
  from_offered f rest i e o is at there (later h) =
      let a = from_given (λ z. lists.path_into t (f ∷ rest) (targets.stands t.program z)) (targets.target t.program t.at e.specifier) h in
      let b = from_given (λ k. requested (targets.stands t.program a.0) (path (f ∷ rest)) ∷ []) (package_of t.program (targets.stands t.program a.0)) a.2 in
      subst (λ u. PathGives t (f ∷ rest) u) (sym (in_one b.2)) (path_request i is at there a.1 b.1)

  from_passed : (f : NameId) (rest : List NameId) (i : Option ℕ) (o : Outcome) → export_named t (lists.module_exports t) f ≡ None → First t.program f t.at i → In o (lists.path_passed t (f ∷ rest) i) → PathGives t (f ∷ rest) o
  from_passed f rest None o is at h = let e = from_each (λ z. found z.range ∷ []) (lists.module_alls t) h in subst (λ u. PathGives t (f ∷ rest) u) (sym (in_one e.2)) (path_nowhere is at e.1)
  from_passed f rest (Some i) o is at h = let a = from_given (lists.path_offered t (f ∷ rest)) (slice_get (lists.module_alls t) i) h in from_offered f rest i a.0 o is at a.1 a.2

  from_begun : (f : NameId) (rest : List NameId) (c : Option SymbolId) (o : Outcome) → export_named t (lists.module_exports t) f ≡ c → In o (lists.path_begun t (f ∷ rest) f rest c) → PathGives t (f ∷ rest) o
  from_begun f [] (Some s) o is h = let x = from_exported s o h in subst (λ u. PathGives t (f ∷ []) u) (sym x.2) (path_export is x.1)
  from_begun f (g ∷ rest) (Some s) o is h = subst (λ u. PathGives t (f ∷ g ∷ rest) u) (sym (in_one h)) (path_below is)
  from_begun f rest None o is h = from_passed f rest (first_offer t.program f t.at) o is (first_lawful t.program f t.at) h

  pub from_path : (ns : List NameId) (o : Outcome) → In o (lists.path_gives t ns) → PathGives t ns o
  from_path [] o h = elim h [ ]
  from_path (f ∷ rest) o h = from_begun f rest (export_named t (lists.module_exports t) f) o refl h

  pub to_record : (r : joining.Record) {o : Outcome} → RecordGives t r o → In o (lists.record_gives t r)
  to_record joining.star (of_star h) = to_star false h
  to_record joining.full (of_full h) = to_star true h
  to_record (joining.kept ps) (of_path {q = q} at h) = to_each (λ k. lists.path_gives t (names_of k)) ps q at (to_path h)

  pub from_record : (r : joining.Record) (o : Outcome) → In o (lists.record_gives t r) → RecordGives t r o
  from_record joining.star o h = of_star (from_star false o h)
  from_record joining.full o h = of_full (from_star true o h)
  from_record (joining.kept ps) o h = let e = from_each (λ k. lists.path_gives t (names_of k)) ps h in of_path e.1 (from_path (names_of e.0) o e.2)

-- the whole start

pub to_starts : (p : Program) (m : ModuleId) (r : joining.Record) {o : Outcome} → Starts p m r o → In o (lists.starts p m r)
unfolding lists.starts
to_starts p m r (untyped is) = by_kind (targets.kind_of (module_at p m)) is
  where
    by_kind : (k : ModuleKind) → is_untyped k ≡ true → In (reported UnsupportedNestedJavaScript targets.module_symbol targets.module_symbol []) (lists.kind_starts k (lists.record_gives (lists.trace_of p m) r))
    by_kind Missing h = absurd (false≢true h)
    by_kind Typed h = absurd (false≢true h)
    by_kind Untyped h = first refl
    by_kind Json h = absurd (false≢true h)
    by_kind Wasm h = absurd (false≢true h)
    by_kind External h = absurd (false≢true h)
to_starts p m r (traced {o = o} is gives) = by_kind (targets.kind_of (module_at p m)) is
  where
    by_kind : (k : ModuleKind) → is_traced k ≡ true → In o (lists.kind_starts k (lists.record_gives (lists.trace_of p m) r))
    by_kind Missing h = absurd (false≢true h)
    by_kind Typed h = to_record (lists.trace_of p m) r gives
    by_kind Untyped h = absurd (false≢true h)
    by_kind Json h = to_record (lists.trace_of p m) r gives
    by_kind Wasm h = to_record (lists.trace_of p m) r gives
    by_kind External h = absurd (false≢true h)

pub from_starts : (p : Program) (m : ModuleId) (r : joining.Record) (o : Outcome) → In o (lists.starts p m r) → Starts p m r o
unfolding lists.starts
from_starts p m r o h = by_kind (targets.kind_of (module_at p m)) refl h
  where
    by_kind : (k : ModuleKind) → targets.kind_of (module_at p m) ≡ k → In o (lists.kind_starts k (lists.record_gives (lists.trace_of p m) r)) → Starts p m r o
    by_kind Missing is h' = elim h' [ ]
    by_kind Typed is h' = traced (ap is_traced is) (from_record (lists.trace_of p m) r o h')
    by_kind Untyped is h' = subst (λ u. Starts p m r u) (sym (in_one h')) (untyped (ap is_untyped is))
    by_kind Json is h' = traced (ap is_traced is) (from_record (lists.trace_of p m) r o h')
    by_kind Wasm is h' = traced (ap is_traced is) (from_record (lists.trace_of p m) r o h')
    by_kind External is h' = elim h' [ ]
