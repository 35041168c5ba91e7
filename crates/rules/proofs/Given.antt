-- An outcome is in the list of what a fact gives exactly where the rules give it. Assumes nothing.
use Rattle.std.proofs.Common.{◌≡◌, true, false, cond, not, eqb, ◌⊎◌, List, [], ◌∷◌, ◌++◌, is_some, Some, None, Option, sym, refl, ap, ◌∙◌, subst, inl, inr}
use Rattle.std.proofs.lemmas.Bool.{eq-eqb, ne_eqb, not-true, not_from_false, true≢false}
use Rattle.std.specs.List.{flat_map}
use Rattle.ids.specs.declared.numbers.ModuleId.{ModuleId}
use Rattle.ids.specs.declared.numbers.NameId.{NameId}
use Rattle.ids.specs.declared.numbers.PackageId.{PackageId}
use Rattle.ids.specs.declared.numbers.SymbolId.{SymbolId}
use Rattle.host.specs.Namespaces.{referred}
use Rattle.host.specs.Program.{DeclKind, target, qualified_target, file_ref, definition, Decl, Symbol}
use Rattle.host.specs.declared.told.Export.{Export}
use Rattle.host.specs.declared.told.SymbolNodeDep.{SymbolNodeDep}
use Rattle.host.specs.declared.told.SymbolNodeDep.TheVariants.{Id, QualifiedId, ImportType}
use Rattle.resolution.specs.Targets as targets
use Rattle.rules.specs.Facts.{ask, Outcome, reached, found, flagged, reported, package_requested}
use Rattle.rules.specs.Lists.{when, given, asks, Trace, package_of, file_wanted, path_wanted, symbol_of, into_package, into_module, into, asking, dep_gives, apart, member_gives, function_gives, kind_gives, decl_gives, children_give, ask_gives, gives}
use Rattle.rules.specs.Members.{In, first, later}
use Rattle.rules.specs.Rules.{Among, OwnTarget, OtherTarget, Declares, Met, Open, Refers, Public, Gives, private_asked, declaration, overloaded, alias, qualified_alias, file_reference, file_of_package, class_of_member, expando_property, id, qualified_id, import_type, import_of_package, export_of, member_of}
use Rattle.rules.specs.Symbols.{is_private, namespaces_of, both, includes, is_overloaded, contains, same_symbol, same_package}
use Rattle.rules.specs.declared.facts.DiagnosticKind.TheVariants.{UnsupportedPrivateMemberReference}
use Rattle.rules.specs.declared.facts.Namespace.{Namespace}
use Rattle.rules.proofs.Membership.{in_left, in_right, in_either, in_one, to_each, from_each, to_when, from_when, to_given, from_given, to_then, to_else, from_cond, to_asks, to_both, from_asks}

same_id : (a b : SymbolId) → a.0 ≡ b.0 → a ≡ b
same_id a b e = ap (λ n. record { 0 = n }) e

module _ (t : Trace) where
  -- specifiers

  pub to_own : (specifier : NameId) (own : ModuleId → List Outcome) (y : ModuleId) (o : Outcome) → OwnTarget t specifier y → In o (own y) → In o (into t specifier own)
  to_own specifier own y o h here =
      to_given (into_module t own) (targets.target t.program t.at specifier) y h.leads (to_given (into_package t y own) (package_of t.program y) h.owner h.owned (to_then (same_package t.owner h.owner) (own y) (package_requested h.owner ∷ []) h.same here))

  pub to_other : (specifier : NameId) (own : ModuleId → List Outcome) (g : PackageId) → OtherTarget t specifier g → In (package_requested g) (into t specifier own)
  to_other specifier own g h =
      to_given (into_module t own) (targets.target t.program t.at specifier) h.to h.leads (to_given (into_package t h.to own) (package_of t.program h.to) g h.owned (to_else (same_package t.owner g) (own h.to) (package_requested g ∷ []) h.other (first refl)))

  pub from_into : (specifier : NameId) (own : ModuleId → List Outcome) (o : Outcome) → In o (into t specifier own) → ((y : ModuleId) × OwnTarget t specifier y × In o (own y)) ⊎ ((g : PackageId) × OtherTarget t specifier g × (o ≡ package_requested g))
  from_into specifier own o h =
      let a = from_given (into_module t own) (targets.target t.program t.at specifier) h in
      let b = from_given (into_package t a.0 own) (package_of t.program a.0) a.2 in
      elim (from_cond (same_package t.owner b.0) (own a.0) (package_requested b.0 ∷ []) b.2) [
        | inl mine ↦ inl (a.0, record { leads = a.1; owner = b.0; owned = b.1; same = mine.0 }, mine.1)
        | inr other ↦ inr (b.0, record { to = a.0; leads = a.1; owned = b.1; other = other.0 }, in_one other.1)
      ]

  -- an asked symbol

  private_apart : (r : SymbolId) (o : Option SymbolId) → not (same_symbol r o) ≡ true → o ≡ Some r → ⊥
  private_apart r None h e = true≢false (ap is_some (sym e))
  private_apart r (Some q) h e =
      let same : q ≡ r = cc in
      true≢false (sym (eq-eqb q.0 r.0 (ap (λ x. x.0) same)) ∙ not-true (eqb q.0 r.0) h)

  apart_private : (r : SymbolId) (o : Option SymbolId) → (o ≡ Some r → ⊥) → not (same_symbol r o) ≡ true
  apart_private r None h = refl
  apart_private r (Some q) h = not_from_false (eqb q.0 r.0) (ne_eqb q.0 r.0 (λ e. h (ap Some (same_id q r e))))

  to_ask : (s r : SymbolId) (n : Namespace) (x : Symbol) (o : Outcome) → symbol_of t s ≡ Some x → In o (ask_gives t s r n x) → In o (gives t (ask s r n))
  unfolding gives
  to_ask s r n x o is h = to_given (ask_gives t s r n) (symbol_of t s) x is h

  to_public : (s r : SymbolId) (n : Namespace) (x : Symbol) (o : Outcome) → is_private x ≡ false → In o (flat_map (decl_gives t s r n x) x.decls ++ children_give t s x) → In o (ask_gives t s r n x)
  to_public s r n x o open-to h = to_else (is_private x) (when (not (same_symbol r x.parent)) (reported UnsupportedPrivateMemberReference s r [] ∷ [])) (flat_map (decl_gives t s r n x) x.decls ++ children_give t s x) open-to h

  to_decl : (s r : SymbolId) (n : Namespace) (x : Symbol) (d : Decl) (o : Outcome) → Met t s n x d → In o (found d.range ∷ cond (is_overloaded d) (flagged d.range ∷ []) (kind_gives t s r n x d d.kind)) → In o (gives t (ask s r n))
  to_decl s r n x d o m h =
      to_ask s r n x o m.declares.symbol (to_public s r n x o m.public (in_left (children_give t s x) (to_each (decl_gives t s r n x) x.decls d m.declares.there (to_when (includes (namespaces_of d) n) _ m.of_namespace h))))

  to_kind : (s r : SymbolId) (n : Namespace) (x : Symbol) (d : Decl) (k : DeclKind) (o : Outcome) → Open t s n x d k → In o (kind_gives t s r n x d k) → In o (gives t (ask s r n))
  to_kind s r n x d k o m h =
      to_decl s r n x d o m.met (later (to_else (is_overloaded d) (flagged d.range ∷ []) (kind_gives t s r n x d d.kind) m.alone (subst (λ u. In o (kind_gives t s r n x d u)) (sym m.kind) h)))

  to_dep : (s r : SymbolId) (n : Namespace) (dep : SymbolNodeDep) (o : Outcome) → Refers t s n dep → In o (dep_gives t s dep) → In o (gives t (ask s r n))
  to_dep s r n dep o m h =
      to_kind s r n m.symbol m.decl (definition m.node m.deps) o m.defined (in_right (member_gives t s r m.symbol m.decl) (in_right (function_gives t m.symbol m.decl) (to_each (dep_gives t s) m.deps dep m.there h)))

  pub to_list_ask : (s r : SymbolId) (n : Namespace) {o : Outcome} → Gives t (ask s r n) o → In o (gives t (ask s r n))
  to_list_ask s r n (private_asked {x = x} is private apart_from) = to_ask s r n x _ is (to_then (is_private x) (when (not (same_symbol r x.parent)) (reported UnsupportedPrivateMemberReference s r [] ∷ [])) _ private (to_when (not (same_symbol r x.parent)) _ (apart_private r x.parent apart_from) (first refl)))
  to_list_ask s r n (declaration {x = x} {d = d} m) = to_decl s r n x d _ m (first refl)
  to_list_ask s r n (overloaded {x = x} {d = d} m over) = to_decl s r n x d _ m (later (to_then (is_overloaded d) (flagged d.range ∷ []) _ over (first refl)))
  to_list_ask s r n (alias {x = x} {d = d} m) = to_kind s r n x d _ _ m (first refl)
  to_list_ask s r n (qualified_alias {x = x} {d = d} m) = to_kind s r n x d _ _ m (first refl)
  to_list_ask s r n (file_reference {x = x} {d = d} {f = f} {y = y} m own) = to_kind s r n x d _ _ m (to_own f.specifier (asking t (file_wanted f.name)) y _ own (first refl))
  to_list_ask s r n (file_of_package {x = x} {d = d} {f = f} {g = g} m other) = to_kind s r n x d _ _ m (to_other f.specifier (asking t (file_wanted f.name)) g other)
  to_list_ask s r n (class_of_member {q = q} {m = m} {x = x} {d = d} o is_member parent apart_from) =
      to_kind s r n x d _ _ o (in_left _ (to_when d.flags.member _ is_member (to_given _ x.parent q parent (to_when (not (eqb q.0 r.0)) (asks q s both) (not_from_false (eqb q.0 r.0) (ne_eqb q.0 r.0 (λ e. apart_from (same_id q r e)))) (to_both q s m)))))
  to_list_ask s r n (expando_property {x = x} {y = y} {d = d} {b = b} {e = e} o is-function at symbol among outside) =
      to_kind s r n x d _ _ o (in_right (member_gives t s r x d) (in_left _ (to_when d.flags.function _ is-function (to_each _ x.exports e at (to_given (apart t d) (symbol_of t e.symbol) y symbol (to_each _ y.decls b among (to_when (not (contains d.range b.range)) (found b.range ∷ []) (not_from_false (contains d.range b.range) outside) (first refl))))))))
  to_list_ask s r n (id {y = y} {m = m} {how = how} refers includes-it) = to_dep s r n (Id (Some y) how) _ refers (to_asks y s (referred how) m includes-it)
  to_list_ask s r n (qualified_id {y = y} {q = q} refers) = to_dep s r n (QualifiedId (Some y) q) _ refers (first refl)
  to_list_ask s r n (import_type {specifier = specifier} {o = o} {y = y} refers own) = to_dep s r n (ImportType specifier o) _ refers (to_own specifier (asking t (path_wanted o)) y _ own (first refl))
  to_list_ask s r n (import_of_package {specifier = specifier} {o = o} {g = g} refers other) = to_dep s r n (ImportType specifier o) _ refers (to_other specifier (asking t (path_wanted o)) g other)
  to_list_ask s r n (export_of {m = m} {x = x} {e = e} is at) = to_ask s r n x _ is.symbol (to_public s r n x _ is.public (in_right (flat_map (decl_gives t s r n x) x.decls) (in_left (flat_map (λ c. asks c s both) x.members) (to_each (λ y. asks y.symbol s both) x.exports e at (to_both e.symbol s m)))))
  to_list_ask s r n (member_of {c = c} {m = m} {x = x} is at) = to_ask s r n x _ is.symbol (to_public s r n x _ is.public (in_right (flat_map (decl_gives t s r n x) x.decls) (in_right (flat_map (λ e. asks e.symbol s both) x.exports) (to_each (λ y. asks y s both) x.members c at (to_both c s m)))))

  -- back from the list

  from_dep : (s r : SymbolId) (n : Namespace) (dep : SymbolNodeDep) (o : Outcome) → Refers t s n dep → In o (dep_gives t s dep) → Gives t (ask s r n) o
  from_dep s r n (Id None how) o m h = elim h [ ]
  from_dep s r n (Id (Some y) how) o m h = let a = from_asks y s (referred how) o h in subst (λ u. Gives t (ask s r n) u) (sym a.2) (id m a.1)
  from_dep s r n (QualifiedId None q) o m h = elim h [ ]
  from_dep s r n (QualifiedId (Some y) q) o m h = subst (λ u. Gives t (ask s r n) u) (sym (in_one h)) (qualified_id m)
  from_dep s r n (ImportType specifier w) o m h = elim (from_into specifier (asking t (path_wanted w)) o h) [
    | inl own ↦ subst (λ u. Gives t (ask s r n) u) (sym (in_one own.2)) (import_type m own.1)
    | inr other ↦ subst (λ u. Gives t (ask s r n) u) (sym other.2) (import_of_package m other.1)
  ]

  from_member : (s r : SymbolId) (n : Namespace) (x : Symbol) (d : Decl) (o : Outcome) → ((m : Namespace) (q : SymbolId) → d.flags.member ≡ true → x.parent ≡ Some q → (q ≡ r → ⊥) → Gives t (ask s r n) (reached (ask q s m))) → In o (member_gives t s r x d) → Gives t (ask s r n) o
  from_member s r n x d o rule h =
      let a = from_when d.flags.member (given (λ q. when (not (eqb q.0 r.0)) (asks q s both)) x.parent) h in
      let b = from_given (λ q. when (not (eqb q.0 r.0)) (asks q s both)) x.parent a.1 in
      let c = from_when (not (eqb b.0.0 r.0)) (asks b.0 s both) b.2 in
      let e = from_asks b.0 s both o c.1 in
      subst (λ u. Gives t (ask s r n) u) (sym e.2) (rule e.0 b.0 a.0 b.1 (λ same. true≢false (sym (eq-eqb b.0.0 r.0 (ap (λ u. u.0) same)) ∙ not-true (eqb b.0.0 r.0) c.0)))

  from_function : (s r : SymbolId) (n : Namespace) (x : Symbol) (d : Decl) (o : Outcome) → ((e : Export) (y : Symbol) (b : Decl) → d.flags.function ≡ true → Among x.exports e → symbol_of t e.symbol ≡ Some y → Among y.decls b → contains d.range b.range ≡ false → Gives t (ask s r n) (found b.range)) → In o (function_gives t x d) → Gives t (ask s r n) o
  from_function s r n x d o rule h =
      let a = from_when d.flags.function (flat_map (λ e. given (apart t d) (symbol_of t e.symbol)) x.exports) h in
      let b = from_each (λ e. given (apart t d) (symbol_of t e.symbol)) x.exports a.1 in
      let c = from_given (apart t d) (symbol_of t b.0.symbol) b.2 in
      let e = from_each (λ y. when (not (contains d.range y.range)) (found y.range ∷ [])) c.0.decls c.2 in
      let f = from_when (not (contains d.range e.0.range)) (found e.0.range ∷ []) e.2 in
      subst (λ u. Gives t (ask s r n) u) (sym (in_one f.1)) (rule b.0 c.0 e.0 a.0 b.1 c.1 e.1 (not-true (contains d.range e.0.range) f.0))

  from_kind : (s r : SymbolId) (n : Namespace) (x : Symbol) (d : Decl) (k : DeclKind) (o : Outcome) → Open t s n x d k → In o (kind_gives t s r n x d k) → Gives t (ask s r n) o
  from_kind s r n x d (target None) o m h = elim h [ ]
  from_kind s r n x d (target (Some y)) o m h = subst (λ u. Gives t (ask s r n) u) (sym (in_one h)) (alias m)
  from_kind s r n x d (qualified_target None q) o m h = elim h [ ]
  from_kind s r n x d (qualified_target (Some y) q) o m h = subst (λ u. Gives t (ask s r n) u) (sym (in_one h)) (qualified_alias m)
  from_kind s r n x d (file_ref f) o m h = elim (from_into f.specifier (asking t (file_wanted f.name)) o h) [
    | inl own ↦ subst (λ u. Gives t (ask s r n) u) (sym (in_one own.2)) (file_reference m own.1)
    | inr other ↦ subst (λ u. Gives t (ask s r n) u) (sym other.2) (file_of_package m other.1)
  ]
  from_kind s r n x d (definition k deps) o m h = elim (in_either (member_gives t s r x d) h) [
    | inl a ↦ from_member s r n x d o (λ ns q is parent apart_from. class_of_member m is parent apart_from) a
    | inr b ↦ elim (in_either (function_gives t x d) b) [
      | inl c ↦ from_function s r n x d o (λ e y z is at symbol among outside. expando_property m is at symbol among outside) c
      | inr c ↦ let e = from_each (dep_gives t s) deps c in from_dep s r n e.0 o (record { symbol = x; decl = d; node = k; deps = deps; defined = m; there = e.1 }) e.2
    ]
  ]

  from_decl : (s r : SymbolId) (n : Namespace) (x : Symbol) (d : Decl) (o : Outcome) → Declares t s x d → is_private x ≡ false → In o (decl_gives t s r n x d) → Gives t (ask s r n) o
  from_decl s r n x d o declares open-to h =
      let a = from_when (includes (namespaces_of d) n) (found d.range ∷ cond (is_overloaded d) (flagged d.range ∷ []) (kind_gives t s r n x d d.kind)) h in
      by_place (record { declares = declares; public = open-to; of_namespace = a.0 }) a.1
    where
      by_place : Met t s n x d → In o (found d.range ∷ cond (is_overloaded d) (flagged d.range ∷ []) (kind_gives t s r n x d d.kind)) → Gives t (ask s r n) o
      by_place m (first e) = subst (λ u. Gives t (ask s r n) u) (sym e) (declaration m)
      by_place m (later b) = elim (from_cond (is_overloaded d) (flagged d.range ∷ []) (kind_gives t s r n x d d.kind) b) [
        | inl over ↦ subst (λ u. Gives t (ask s r n) u) (sym (in_one over.1)) (overloaded m over.0)
        | inr alone ↦ from_kind s r n x d d.kind o (record { met = m; alone = alone.0; kind = refl }) alone.1
      ]

  from_children : (s r : SymbolId) (n : Namespace) (x : Symbol) (o : Outcome) → Public t s x → In o (children_give t s x) → Gives t (ask s r n) o
  from_children s r n x o is h = elim (in_either (flat_map (λ e. asks e.symbol s both) x.exports) h) [
    | inl a ↦ let e = from_each (λ y. asks y.symbol s both) x.exports a in let b = from_asks e.0.symbol s both o e.2 in subst (λ u. Gives t (ask s r n) u) (sym b.2) (export_of is e.1)
    | inr a ↦ let e = from_each (λ y. asks y s both) x.members a in let b = from_asks e.0 s both o e.2 in subst (λ u. Gives t (ask s r n) u) (sym b.2) (member_of is e.1)
  ]

  pub from_list_ask : (s r : SymbolId) (n : Namespace) (o : Outcome) → In o (gives t (ask s r n)) → Gives t (ask s r n) o
  unfolding gives
  from_list_ask s r n o h =
      let a = from_given (ask_gives t s r n) (symbol_of t s) h in
      by_privacy a.0 a.1 (from_cond (is_private a.0) (when (not (same_symbol r a.0.parent)) (reported UnsupportedPrivateMemberReference s r [] ∷ [])) (flat_map (decl_gives t s r n a.0) a.0.decls ++ children_give t s a.0) a.2)
    where
      by_privacy : (x : Symbol) → symbol_of t s ≡ Some x → ((is_private x ≡ true) × In o (when (not (same_symbol r x.parent)) (reported UnsupportedPrivateMemberReference s r [] ∷ []))) ⊎ ((is_private x ≡ false) × In o (flat_map (decl_gives t s r n x) x.decls ++ children_give t s x)) → Gives t (ask s r n) o
      by_privacy x is (inl private) =
          let w = from_when (not (same_symbol r x.parent)) (reported UnsupportedPrivateMemberReference s r [] ∷ []) private.1 in
          subst (λ u. Gives t (ask s r n) u) (sym (in_one w.1)) (private_asked is private.0 (private_apart r x.parent w.0))
      by_privacy x is (inr open-to) = elim (in_either (flat_map (decl_gives t s r n x) x.decls) open-to.1) [
        | inl a ↦ let e = from_each (decl_gives t s r n x) x.decls a in from_decl s r n x e.0 o (record { symbol = is; there = e.1 }) open-to.0 e.2
        | inr b ↦ from_children s r n x o (record { symbol = is; public = open-to.0 }) b
      ]
