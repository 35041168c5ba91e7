-- The definitions of targets, standing modules and exports say what the laws say. Assumes nothing.
use Rattle.std.proofs.Common.{◌≡◌, ℕ, zero, suc, ◌≤◌, Bool, true, false, cond, eqb, ◌⊎◌, List, [], ◌∷◌, is_some, Some, None, Decides, Option, sym, refl, ap, ◌∙◌, subst, inl, inr, arith}
use Rattle.std.proofs.lemmas.Bool.{eqb-true, eq-eqb, true≢false, false≢true, or_cases, or_left, or_right}
use Rattle.std.specs.List.{slice_get}
use Rattle.ids.specs.declared.numbers.ModuleId.{ModuleId}
use Rattle.ids.specs.declared.numbers.NameId.{NameId}
use Rattle.host.specs.Lookups.{within, module_at, symbol_at}
use Rattle.host.specs.Program.{Program}
use Rattle.host.specs.declared.told.Dependency.{Dependency}
use Rattle.host.specs.declared.told.Export.{Export}
use Rattle.resolution.specs.Laws.{Aims, IsThere, TargetOf, lacking, nowhere, lost, itself, untyped, typed, Steps, Way, stay, step, StandsFor, HasExport}
use Rattle.resolution.specs.Targets.{kind_of, types_of, is_missing, is_inside, aim, onward, with_types, led, target, entered, standing, types_steps, stands, has_export, module_symbol, exports}
use Rattle.resolution.proofs.Standing.{standing_none, standing_more}

same_name : (a b : NameId) → a.0 ≡ b.0 → a ≡ b
same_name a b e = ap (λ n. record { 0 = n }) e

-- the first dependency of a specifier is found, or there is none
aim_found : (ds : List Dependency) (n : NameId) → ((i : ℕ) × (d : Dependency) × (slice_get ds i ≡ Some d) × (d.specifier ≡ n) × (d.target ≡ aim ds n)) ⊎ ((aim ds n ≡ None) × ((i : ℕ) (d : Dependency) → slice_get ds i ≡ Some d → d.specifier ≡ n → ⊥))
aim_found [] n = inr (refl, λ i d there named. true≢false (ap is_some (sym there)))
aim_found (d ∷ ds) n = by_test (eqb d.specifier.0 n.0) refl (aim_found ds n)
  where
    by_test : (b : Bool) → eqb d.specifier.0 n.0 ≡ b → ((i : ℕ) × (e : Dependency) × (slice_get ds i ≡ Some e) × (e.specifier ≡ n) × (e.target ≡ aim ds n)) ⊎ ((aim ds n ≡ None) × ((i : ℕ) (e : Dependency) → slice_get ds i ≡ Some e → e.specifier ≡ n → ⊥)) → ((i : ℕ) × (e : Dependency) × (slice_get (d ∷ ds) i ≡ Some e) × (e.specifier ≡ n) × (e.target ≡ cond b d.target (aim ds n))) ⊎ ((cond b d.target (aim ds n) ≡ None) × ((i : ℕ) (e : Dependency) → slice_get (d ∷ ds) i ≡ Some e → e.specifier ≡ n → ⊥))
    by_test true t rest = inl (zero, d, refl, same_name d.specifier n (eqb-true d.specifier.0 n.0 t), refl)
    by_test false t (inl found) = inl (suc found.0, found.1, found.2, found.3, found.4)
    by_test false t (inr none) = inr (none.0, never)
      where
        never : (i : ℕ) (e : Dependency) → slice_get (d ∷ ds) i ≡ Some e → e.specifier ≡ n → ⊥
        never zero e there named =
            let same : d ≡ e = cc in
            true≢false (sym (eq-eqb d.specifier.0 n.0 (ap (λ x. x.specifier.0) same ∙ ap (λ x. x.0) named)) ∙ t)
        never (suc i) e there named = none.1 i e there named

module _ (p : Program) where
  -- where an aim leads
  led_lawful : (m : ModuleId) (n : NameId) (o : Option ModuleId) → Aims p m n o → TargetOf p m n (led p o)
  led_lawful m n None aims = nowhere aims
  led_lawful m n (Some c) aims = by_kind (is_missing (kind_of (module_at p c))) refl
    where
      by_types : (t : Option ModuleId) → types_of (module_at p c) ≡ t → IsThere p c → TargetOf p m n (Some (with_types p c t))
      by_types None none there = itself aims there none
      by_types (Some t) has there = by_its_kind (is_missing (kind_of (module_at p t))) refl
        where
          by_its_kind : (b : Bool) → is_missing (kind_of (module_at p t)) ≡ b → TargetOf p m n (Some (cond b c t))
          by_its_kind true missing = untyped aims there has missing
          by_its_kind false here = typed aims there has here

      by_kind : (b : Bool) → is_missing (kind_of (module_at p c)) ≡ b → TargetOf p m n (cond b None (Some (with_types p c (types_of (module_at p c)))))
      by_kind true missing = lost aims missing
      by_kind false there = by_types (types_of (module_at p c)) refl there

  pub target_lawful : (m : ModuleId) (n : NameId) → TargetOf p m n (target p m n)
  target_lawful m n = by_case (aim_found ds n)
    where
      ds : List Dependency
      ds = within (λ x. x.dependencies) (module_at p m)

      by_case : ((i : ℕ) × (d : Dependency) × (slice_get (within (λ x. x.dependencies) (module_at p m)) i ≡ Some d) × (d.specifier ≡ n) × (d.target ≡ aim (within (λ x. x.dependencies) (module_at p m)) n)) ⊎ ((aim (within (λ x. x.dependencies) (module_at p m)) n ≡ None) × ((i : ℕ) (d : Dependency) → slice_get (within (λ x. x.dependencies) (module_at p m)) i ≡ Some d → d.specifier ≡ n → ⊥)) → TargetOf p m n (target p m n)
      by_case (inl found) = led_lawful m n (aim (within (λ x. x.dependencies) (module_at p m)) n) record { place = found.0; dependency = found.1; there = found.2; named = found.3; aims = found.4 }
      by_case (inr none) = subst (λ o. TargetOf p m n (led p o)) (sym none.0) (lacking (λ aimed a. none.1 a.place a.dependency a.there a.named))

  -- the step that is taken, if any
  entered_lawful : (m : ModuleId) (o : Option ModuleId) → types_of (module_at p m) ≡ o → ((t : ModuleId) × (entered p o ≡ Some t) × Steps p m t) ⊎ ((entered p o ≡ None) × ((t : ModuleId) → Steps p m t → ⊥))
  entered_lawful m None is = inr (refl, λ t s. true≢false (ap is_some (sym s.types ∙ is)))
  entered_lawful m (Some t) is = by_kind (is_inside (kind_of (module_at p t))) refl
    where
      by_kind : (b : Bool) → is_inside (kind_of (module_at p t)) ≡ b → ((u : ModuleId) × (cond b (Some t) None ≡ Some u) × Steps p m u) ⊎ ((cond b (Some t) None ≡ None) × ((u : ModuleId) → Steps p m u → ⊥))
      by_kind true inside = inl (t, refl, record { types = is; inside = inside })
      by_kind false outside = inr (refl, λ u s. never u s)
        where
          never : (u : ModuleId) → Steps p m u → ⊥
          never u s =
              let both : Some t ≡ Some u = sym is ∙ s.types in
              let same : t ≡ u = cc in
              true≢false (sym s.inside ∙ sym (ap (λ x. is_inside (kind_of (module_at p x))) same) ∙ outside)

  standing_lawful : (n : ℕ) (m : ModuleId) → (k : ℕ) × Way p k m (standing p n m) × (k ≤ n) × ((k ≡ n) ⊎ ((t : ModuleId) → Steps p (standing p n m) t → ⊥))
  standing_lawful zero m = (zero, subst (λ e. Way p zero m e) (sym (standing_none p m)) stay, omega arith, inl refl)
  standing_lawful (suc n) m = by_step (entered_lawful m (types_of (module_at p m)) refl) (standing_lawful n)
    where
      by_step : ((t : ModuleId) × (entered p (types_of (module_at p m)) ≡ Some t) × Steps p m t) ⊎ ((entered p (types_of (module_at p m)) ≡ None) × ((t : ModuleId) → Steps p m t → ⊥)) → ((x : ModuleId) → (k : ℕ) × Way p k x (standing p n x) × (k ≤ n) × ((k ≡ n) ⊎ ((t : ModuleId) → Steps p (standing p n x) t → ⊥))) → (k : ℕ) × Way p k m (standing p (suc n) m) × (k ≤ suc n) × ((k ≡ suc n) ⊎ ((t : ModuleId) → Steps p (standing p (suc n) m) t → ⊥))
      by_step (inl s) rest =
          let is : standing p (suc n) m ≡ standing p n s.0 = standing_more p n m ∙ ap (onward (standing p n) m) s.1 in
          let r = rest s.0 in
          (suc r.0, subst (λ e. Way p (suc r.0) m e) (sym is) (step s.2 r.1), omega (arith, r.2), elim r.3 [ inl e ↦ inl (ap suc e) | inr stops ↦ inr (subst (λ e. (t : ModuleId) → Steps p e t → ⊥) (sym is) stops) ])
      by_step (inr none) rest =
          let is : standing p (suc n) m ≡ m = standing_more p n m ∙ ap (onward (standing p n) m) none.0 in
          (zero, subst (λ e. Way p zero m e) (sym is) stay, omega arith, inr (subst (λ e. (t : ModuleId) → Steps p e t → ⊥) (sym is) none.1))

  pub stands_lawful : (m : ModuleId) → StandsFor p m (stands p m)
  stands_lawful m = let r = standing_lawful types_steps m in record { steps = r.0; way = r.1; few = r.2; last = r.3 }

  pub exports_lawful : (m : ModuleId) (f : NameId) → Decides (exports p m f) (HasExport p m f)
  exports_lawful m f = (λ h. let e = found (within (λ s. s.exports) (symbol_at p m module_symbol)) h in record { place = e.0; export = e.1; there = e.2; named = e.3 }, λ h. back (within (λ s. s.exports) (symbol_at p m module_symbol)) h.place h.export h.there h.named)
    where
      found : (es : List Export) → has_export es f ≡ true → (i : ℕ) × (e : Export) × (slice_get es i ≡ Some e) × (e.name ≡ f)
      found [] h = absurd (false≢true h)
      found (e ∷ es) h = by_case (or_cases (eqb e.name.0 f.0) (has_export es f) h) (found es)
        where
          by_case : (eqb e.name.0 f.0 ≡ true) ⊎ (has_export es f ≡ true) → (has_export es f ≡ true → (i : ℕ) × (x : Export) × (slice_get es i ≡ Some x) × (x.name ≡ f)) → (i : ℕ) × (x : Export) × (slice_get (e ∷ es) i ≡ Some x) × (x.name ≡ f)
          by_case (inl t) rest = (zero, e, refl, same_name e.name f (eqb-true e.name.0 f.0 t))
          by_case (inr t) rest = let r = rest t in (suc r.0, r.1, r.2, r.3)

      back : (es : List Export) (i : ℕ) (e : Export) → slice_get es i ≡ Some e → e.name ≡ f → has_export es f ≡ true
      back [] i e there named = absurd (true≢false (ap is_some (sym there)))
      back (x ∷ es) zero e there named =
          let same : x ≡ e = cc in
          or_left (eqb x.name.0 f.0) (has_export es f) (eq-eqb x.name.0 f.0 (ap (λ y. y.name.0) same ∙ ap (λ n. n.0) named))
      back (x ∷ es) (suc i) e there named = or_right (eqb x.name.0 f.0) (has_export es f) (back es i e there named)
