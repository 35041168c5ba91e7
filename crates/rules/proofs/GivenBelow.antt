-- The same of paths below a symbol. Assumes nothing.
use Rattle.std.proofs.Common.{◌≡◌, ◌<◌, ◌≤◌, Bool, true, false, cond, not, ◌&&◌, ◌||◌, eqb, leb, ◌⊎◌, List, [], ◌∷◌, ◌++◌, length, Some, None, Option, sym, refl, ap, ◌∙◌, subst, inl, inr}
use Rattle.std.proofs.lemmas.Bool.{eqb-true, eq-eqb, leb-true, leb-false, le-leb, lt-leb, not-true, not_from_false, and_from, and_parts, true≢false}
use Rattle.std.specs.List.{flat_map, list_any}
use Rattle.ids.specs.Names.{limit, prototype_name}
use Rattle.ids.specs.Paths.{names_of}
use Rattle.ids.specs.declared.numbers.NameId.{NameId}
use Rattle.ids.specs.declared.numbers.SymbolId.{SymbolId}
use Rattle.host.specs.Program.{DeclKind, target, qualified_target, file_ref, definition, Decl, Symbol}
use Rattle.rules.specs.Facts.{ask, below, path, Outcome, reached, reported, requested}
use Rattle.rules.specs.Lists.{when, asks, Trace, file_path, symbol_of, formed, elsewhere_gives, below_decl_gives, export_named, member_named, prototype_member as prototype-member-gives, prototype_gives, name_gives, names_give, below_gives, gives}
use Rattle.rules.specs.Members.{In, first, later}
use Rattle.rules.specs.Rules.{Declares, Named, Plain, Gives, below_declaration, below_alias, below_qualified_alias, below_file, below_file_of_package, absent_alias, absent_qualified_alias, too_long_alias, too_long_file, prototype, prototype_member, prototype_lacks, prototype_deeper, export_named_last, export_named_on, scope_lacks, itself}
use Rattle.rules.specs.Symbols.{is_class, is_scope, both, leads_elsewhere}
use Rattle.rules.specs.declared.facts.DiagnosticKind.TheVariants.{NotFoundReference, UnsupportedComplexReference, UnresolvedReference}
use Rattle.rules.proofs.Given.{to_own, to_other, from_into}
use Rattle.rules.proofs.Membership.{in_left, in_right, in_either, in_one, to_each, from_each, to_when, from_when, to_given, from_given, to_then, to_else, from_cond, to_both, from_asks}

module _ (t : Trace) where
  to_below : (s r : SymbolId) (p : List NameId) (x : Symbol) (o : Outcome) → symbol_of t s ≡ Some x → In o (below_gives t s r p x) → In o (gives t (below s r p))
  unfolding gives
  to_below s r p x o is h = to_given (below_gives t s r p) (symbol_of t s) x is h

  to_declared : (s r : SymbolId) (p : List NameId) (x : Symbol) (d : Decl) (o : Outcome) → Declares t s x d → In o (below_decl_gives t s r p d) → In o (gives t (below s r p))
  to_declared s r p x d o m h = to_below s r p x o m.symbol (in_left (when (not (list_any leads_elsewhere x.decls)) (names_give t s r x p)) (to_each (below_decl_gives t s r p) x.decls d m.there h))

  to_elsewhere : (s r : SymbolId) (p : List NameId) (x : Symbol) (d : Decl) (k : DeclKind) (o : Outcome) → Declares t s x d → d.kind ≡ k → In o (elsewhere_gives t s r p k) → In o (gives t (below s r p))
  to_elsewhere s r p x d k o m is h = to_declared s r p x d o m (later (subst (λ u. In o (elsewhere_gives t s r p u)) (sym is) h))

  to_formed : (s r : SymbolId) (p : List NameId) (f : List NameId → Outcome) (q : List NameId) → length q ≤ limit → In (f q) (formed t s r p f q)
  to_formed s r p f q few = to_then (leb (length q) limit) (f q ∷ []) (reported UnresolvedReference s r p ∷ []) (le-leb (length q) limit few) (first refl)

  to_unformed : (s r : SymbolId) (p : List NameId) (f : List NameId → Outcome) (q : List NameId) → limit < length q → In (reported UnresolvedReference s r p) (formed t s r p f q)
  to_unformed s r p f q many = to_else (leb (length q) limit) (f q ∷ []) (reported UnresolvedReference s r p ∷ []) (lt-leb (length q) limit many) (first refl)

  to_named : (s r : SymbolId) (p : List NameId) (x : Symbol) (o : Outcome) → Named t s x → In o (names_give t s r x p) → In o (gives t (below s r p))
  to_named s r p x o m h = to_below s r p x o m.symbol (in_right (flat_map (below_decl_gives t s r p) x.decls) (to_when (not (list_any leads_elsewhere x.decls)) (names_give t s r x p) (not_from_false (list_any leads_elsewhere x.decls) m.own) h))

  to_prototype : (s r : SymbolId) (rest : List NameId) (x : Symbol) (o : Outcome) → Named t s x → is_class x ≡ true → In o (prototype_gives t s r (prototype_name ∷ rest) x rest) → In o (gives t (below s r (prototype_name ∷ rest)))
  to_prototype s r rest x o m class h = to_named s r (prototype_name ∷ rest) x o m (to_then (is_class x) (prototype_gives t s r (prototype_name ∷ rest) x rest) (name_gives t s r (prototype_name ∷ rest) x rest (export_named t x.exports prototype_name)) class h)

  not_prototype : (x : Symbol) (f : NameId) → (f.0 ≡ 1 → is_class x ≡ true → ⊥) → (eqb f.0 1 && is_class x) ≡ false
  not_prototype x f h = by_test (eqb f.0 1 && is_class x) refl
    where
      by_test : (b : Bool) → (eqb f.0 1 && is_class x) ≡ b → b ≡ false
      by_test false e = refl
      by_test true e = let both_hold = and_parts (eqb f.0 1) (is_class x) e in absurd (h (eqb-true f.0 1 both_hold.0) both_hold.1)

  to_plain : (s r : SymbolId) (f : NameId) (rest : List NameId) (x : Symbol) (c : Option SymbolId) (o : Outcome) → Plain t s x f → export_named t x.exports f ≡ c → In o (name_gives t s r (f ∷ rest) x rest c) → In o (gives t (below s r (f ∷ rest)))
  to_plain s r f rest x c o m is h =
      to_named s r (f ∷ rest) x o m.named (to_else (eqb f.0 1 && is_class x) (prototype_gives t s r (f ∷ rest) x rest) (name_gives t s r (f ∷ rest) x rest (export_named t x.exports f)) (not_prototype x f m.plain) (subst (λ u. In o (name_gives t s r (f ∷ rest) x rest u)) (sym is) h))

  pub to_list_below : (s r : SymbolId) {p : List NameId} {o : Outcome} → Gives t (below s r p) o → In o (gives t (below s r p))
  to_list_below s r {p} (below_declaration {x = x} {d = d} m) = to_declared s r p x d _ m (first refl)
  to_list_below s r {p} (below_alias {x = x} {d = d} m is) = to_elsewhere s r p x d _ _ m is (first refl)
  to_list_below s r {p} (below_qualified_alias {y = y} {x = x} {d = d} {q = q} m is few) = to_elsewhere s r p x d _ _ m is (to_formed s r p (λ l. reached (below y r l)) (names_of q ++ p) few)
  to_list_below s r {p} (below_file {x = x} {d = d} {f = f} {y = y} m is own few) = to_elsewhere s r p x d _ _ m is (to_own t f.specifier (λ z. formed t s r p (λ l. requested z (path l)) (file_path f.name p)) y _ own (to_formed s r p (λ l. requested y (path l)) (file_path f.name p) few))
  to_list_below s r {p} (below_file_of_package {x = x} {d = d} {f = f} {g = g} m is other) = to_elsewhere s r p x d _ _ m is (to_other t f.specifier (λ z. formed t s r p (λ l. requested z (path l)) (file_path f.name p)) g other)
  to_list_below s r {p} (absent_alias {x = x} {d = d} m is) = to_elsewhere s r p x d _ _ m is (first refl)
  to_list_below s r {p} (absent_qualified_alias {x = x} {d = d} m is) = to_elsewhere s r p x d _ _ m is (first refl)
  to_list_below s r {p} (too_long_alias {y = y} {x = x} {d = d} {q = q} m is many) = to_elsewhere s r p x d _ _ m is (to_unformed s r p (λ l. reached (below y r l)) (names_of q ++ p) many)
  to_list_below s r {p} (too_long_file {x = x} {d = d} {f = f} {y = y} m is own many) = to_elsewhere s r p x d _ _ m is (to_own t f.specifier (λ z. formed t s r p (λ l. requested z (path l)) (file_path f.name p)) y _ own (to_unformed s r p (λ l. requested y (path l)) (file_path f.name p) many))
  to_list_below s r (prototype {m = m} {x = x} named class) = to_prototype s r [] x _ named class (to_both s r m)
  to_list_below s r (prototype_member {c = c} {m = m} {x = x} {f = f} named class is) = to_prototype s r (f ∷ []) x _ named class (subst (λ u. In (reached (ask c r m)) (prototype-member-gives t s r (prototype_name ∷ f ∷ []) [] u)) (sym is) (to_both c r m))
  to_list_below s r (prototype_lacks {x = x} {f = f} {more = more} named class is) = to_prototype s r (f ∷ more) x _ named class (subst (λ u. In (reported NotFoundReference s r (prototype_name ∷ f ∷ more)) (prototype-member-gives t s r (prototype_name ∷ f ∷ more) more u)) (sym is) (first refl))
  to_list_below s r (prototype_deeper {x = x} {f = f} {g = g} {more = more} named class is) = to_prototype s r (f ∷ g ∷ more) x _ named class (subst (λ u. In (reported UnsupportedComplexReference s r (prototype_name ∷ f ∷ g ∷ more)) (prototype-member-gives t s r (prototype_name ∷ f ∷ g ∷ more) (g ∷ more) u)) (sym is) (first refl))
  to_list_below s r (export_named_last {c = c} {m = m} {x = x} {f = f} plain is) = to_plain s r f [] x (Some c) _ plain is (to_both c r m)
  to_list_below s r (export_named_on {c = c} {x = x} {f = f} {g = g} {rest = rest} plain is) = to_plain s r f (g ∷ rest) x (Some c) _ plain is (first refl)
  to_list_below s r (scope_lacks {x = x} {f = f} {rest = rest} plain is lacks) = to_plain s r f rest x None _ plain is (to_then (is_class x || is_scope x) (reported NotFoundReference s r (f ∷ rest) ∷ []) (asks s r both) lacks (first refl))
  to_list_below s r (itself {m = m} {x = x} {f = f} {rest = rest} plain is other) = to_plain s r f rest x None _ plain is (to_else (is_class x || is_scope x) (reported NotFoundReference s r (f ∷ rest) ∷ []) (asks s r both) other (to_both s r m))

  -- back from the list

  from_formed : (s r : SymbolId) (p : List NameId) (f : List NameId → Outcome) (q : List NameId) (o : Outcome) → In o (formed t s r p f q) → ((length q ≤ limit) × (o ≡ f q)) ⊎ ((limit < length q) × (o ≡ reported UnresolvedReference s r p))
  from_formed s r p f q o h = elim (from_cond (leb (length q) limit) (f q ∷ []) (reported UnresolvedReference s r p ∷ []) h) [
    | inl few ↦ inl (leb-true (length q) limit few.0, in_one few.1)
    | inr many ↦ inr (leb-false (length q) limit many.0, in_one many.1)
  ]

  from_elsewhere : (s r : SymbolId) (p : List NameId) (x : Symbol) (d : Decl) (k : DeclKind) (o : Outcome) → Declares t s x d → d.kind ≡ k → In o (elsewhere_gives t s r p k) → Gives t (below s r p) o
  from_elsewhere s r p x d (target None) o m is h = subst (λ u. Gives t (below s r p) u) (sym (in_one h)) (absent_alias m is)
  from_elsewhere s r p x d (target (Some y)) o m is h = subst (λ u. Gives t (below s r p) u) (sym (in_one h)) (below_alias m is)
  from_elsewhere s r p x d (qualified_target None q) o m is h = subst (λ u. Gives t (below s r p) u) (sym (in_one h)) (absent_qualified_alias m is)
  from_elsewhere s r p x d (qualified_target (Some y) q) o m is h = elim (from_formed s r p (λ l. reached (below y r l)) (names_of q ++ p) o h) [
    | inl few ↦ subst (λ u. Gives t (below s r p) u) (sym few.1) (below_qualified_alias m is few.0)
    | inr many ↦ subst (λ u. Gives t (below s r p) u) (sym many.1) (too_long_alias m is many.0)
  ]
  from_elsewhere s r p x d (file_ref f) o m is h = elim (from_into t f.specifier (λ z. formed t s r p (λ l. requested z (path l)) (file_path f.name p)) o h) [
    | inl own ↦ elim (from_formed s r p (λ l. requested own.0 (path l)) (file_path f.name p) o own.2) [
      | inl few ↦ subst (λ u. Gives t (below s r p) u) (sym few.1) (below_file m is own.1 few.0)
      | inr many ↦ subst (λ u. Gives t (below s r p) u) (sym many.1) (too_long_file m is own.1 many.0)
    ]
    | inr other ↦ subst (λ u. Gives t (below s r p) u) (sym other.2) (below_file_of_package m is other.1)
  ]
  from_elsewhere s r p x d (definition k deps) o m is h = elim h [ ]

  from_declared : (s r : SymbolId) (p : List NameId) (x : Symbol) (d : Decl) (o : Outcome) → Declares t s x d → In o (below_decl_gives t s r p d) → Gives t (below s r p) o
  from_declared s r p x d o m (first e) = subst (λ u. Gives t (below s r p) u) (sym e) (below_declaration m)
  from_declared s r p x d o m (later h) = from_elsewhere s r p x d d.kind o m refl h

  from_prototype : (s r : SymbolId) (x : Symbol) (rest : List NameId) (o : Outcome) → Named t s x → is_class x ≡ true → In o (prototype_gives t s r (prototype_name ∷ rest) x rest) → Gives t (below s r (prototype_name ∷ rest)) o
  from_prototype s r x [] o m class h = let a = from_asks s r both o h in subst (λ u. Gives t (below s r (prototype_name ∷ [])) u) (sym a.2) (prototype m class)
  from_prototype s r x (f ∷ more) o m class h = by_member (member_named t x.members f) refl more h
    where
      by_member : (c : Option SymbolId) → member_named t x.members f ≡ c → (rest : List NameId) → In o (prototype-member-gives t s r (prototype_name ∷ f ∷ rest) rest c) → Gives t (below s r (prototype_name ∷ f ∷ rest)) o
      by_member None is rest h' = subst (λ u. Gives t (below s r (prototype_name ∷ f ∷ rest)) u) (sym (in_one h')) (prototype_lacks m class is)
      by_member (Some c) is [] h' = let a = from_asks c r both o h' in subst (λ u. Gives t (below s r (prototype_name ∷ f ∷ [])) u) (sym a.2) (prototype_member m class is)
      by_member (Some c) is (g ∷ rest) h' = subst (λ u. Gives t (below s r (prototype_name ∷ f ∷ g ∷ rest)) u) (sym (in_one h')) (prototype_deeper m class is)

  from_plain : (s r : SymbolId) (x : Symbol) (f : NameId) (rest : List NameId) (c : Option SymbolId) (o : Outcome) → Plain t s x f → export_named t x.exports f ≡ c → In o (name_gives t s r (f ∷ rest) x rest c) → Gives t (below s r (f ∷ rest)) o
  from_plain s r x f [] (Some c) o m is h = let a = from_asks c r both o h in subst (λ u. Gives t (below s r (f ∷ [])) u) (sym a.2) (export_named_last m is)
  from_plain s r x f (g ∷ rest) (Some c) o m is h = subst (λ u. Gives t (below s r (f ∷ g ∷ rest)) u) (sym (in_one h)) (export_named_on m is)
  from_plain s r x f rest None o m is h = elim (from_cond (is_class x || is_scope x) (reported NotFoundReference s r (f ∷ rest) ∷ []) (asks s r both) h) [
    | inl lacks ↦ subst (λ u. Gives t (below s r (f ∷ rest)) u) (sym (in_one lacks.1)) (scope_lacks m is lacks.0)
    | inr other ↦ let a = from_asks s r both o other.1 in subst (λ u. Gives t (below s r (f ∷ rest)) u) (sym a.2) (itself m is other.0)
  ]

  from_names : (s r : SymbolId) (x : Symbol) (p : List NameId) (o : Outcome) → Named t s x → In o (names_give t s r x p) → Gives t (below s r p) o
  from_names s r x [] o m h = elim h [ ]
  from_names s r x (f ∷ rest) o m h = by_first (eqb f.0 1 && is_class x) refl h
    where
      by_first : (b : Bool) → (eqb f.0 1 && is_class x) ≡ b → In o (cond b (prototype_gives t s r (f ∷ rest) x rest) (name_gives t s r (f ∷ rest) x rest (export_named t x.exports f))) → Gives t (below s r (f ∷ rest)) o
      by_first true is h' =
          let parts = and_parts (eqb f.0 1) (is_class x) is in
          let same : prototype_name ≡ f = ap (λ n. record { 0 = n }) (sym (eqb-true f.0 1 parts.0)) in
          subst (λ u. Gives t (below s r (u ∷ rest)) o) same (from_prototype s r x rest o m parts.1 (subst (λ u. In o (prototype_gives t s r (u ∷ rest) x rest)) (sym same) h'))
      by_first false is h' = from_plain s r x f rest (export_named t x.exports f) o (record { named = m; plain = λ e class. true≢false (sym (and_from (eqb f.0 1) (is_class x) (eq-eqb f.0 1 e) class) ∙ is) }) refl h'

  pub from_list_below : (s r : SymbolId) (p : List NameId) (o : Outcome) → In o (gives t (below s r p)) → Gives t (below s r p) o
  unfolding gives
  from_list_below s r p o h =
      let a = from_given (below_gives t s r p) (symbol_of t s) h in
      elim (in_either (flat_map (below_decl_gives t s r p) a.0.decls) a.2) [
        | inl here ↦ let e = from_each (below_decl_gives t s r p) a.0.decls here in from_declared s r p a.0 e.0 o (record { symbol = a.1; there = e.1 }) e.2
        | inr names ↦ let w = from_when (not (list_any leads_elsewhere a.0.decls)) (names_give t s r a.0 p) names in from_names s r a.0 p o (record { symbol = a.1; own = not-true (list_any leads_elsewhere a.0.decls) w.0 }) w.1
      ]
