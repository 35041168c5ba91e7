-- The test that computes says who offers a name. Assumes nothing.
use Rattle.std.proofs.Common.{◌≡◌, ℕ, zero, suc, ◌+◌, ◌-◌, ◌<◌, ◌≤◌, Bool, true, false, cond, not, ◌&&◌, ◌||◌, eqb, ◌⊎◌, List, [], ◌∷◌, length, is_some, Some, None, Decides, Option, sym, refl, ap, ◌∙◌, subst, inl, inr, arith}
use Rattle.std.proofs.lemmas.Bool.{eqb-true, eq-eqb, ne_eqb, not-true, not_from_false, or_cases, or_left, or_right, and_parts, and_from, cases_lt, true≢false, false≢true}
use Rattle.std.specs.Option.{option_map}
use Rattle.std.specs.List.{slice_get}
use Rattle.ids.specs.declared.numbers.ModuleId.{ModuleId}
use Rattle.ids.specs.declared.numbers.NameId.{NameId}
use Rattle.host.specs.Program.{Program}
use Rattle.host.specs.declared.told.ReExportAll.{ReExportAll}
use Rattle.resolution.specs.Targets.{target, stands, exports}
use Rattle.offering.specs.Computed.{holds, some_passes, first_place, leads_to, offers_within, offers?, first_offer}
use Rattle.offering.specs.ExportedNames.{star_entries}
use Rattle.offering.specs.Offers.{Offers, own, passed, Passes, First}
use Rattle.resolution.specs.Laws.{Leads}
use Rattle.offering.proofs.Growth.{settles}
use Rattle.offering.proofs.Walking.{past_leads}

-- tests of lists

passes_at : {X : Type 0} (t : X → Bool) (xs : List X) → some_passes t xs ≡ true → (i : ℕ) × (x : X) × (slice_get xs i ≡ Some x) × (t x ≡ true)
passes_at t [] h = absurd (false≢true h)
passes_at {X = X} t (x ∷ xs) h = by_case (or_cases (t x) (some_passes t xs) h) (passes_at t xs)
  where
    by_case : (t x ≡ true) ⊎ (some_passes t xs ≡ true) → (some_passes t xs ≡ true → (i : ℕ) × (y : X) × (slice_get xs i ≡ Some y) × (t y ≡ true)) → (i : ℕ) × (y : X) × (slice_get (x ∷ xs) i ≡ Some y) × (t y ≡ true)
    by_case (inl e) rest = (zero, x, refl, e)
    by_case (inr e) rest = let r = rest e in (suc r.0, r.1, r.2, r.3)

at_passes : {X : Type 0} (t : X → Bool) (xs : List X) (i : ℕ) (x : X) → slice_get xs i ≡ Some x → t x ≡ true → some_passes t xs ≡ true
at_passes t [] i x there h = absurd (true≢false (ap is_some (sym there)))
at_passes t (y ∷ xs) zero x there h = let same : y ≡ x = cc in or_left (t y) (some_passes t xs) (ap t same ∙ h)
at_passes t (y ∷ xs) (suc i) x there h = or_right (t y) (some_passes t xs) (at_passes t xs i x there h)

-- the first place passes, and none before it; or none passes
abbrev IsFirst : {X : Type 0} → (X → Bool) → List X → Option ℕ → Type 0
IsFirst {X} t xs None = (j : ℕ) (x : X) → slice_get xs j ≡ Some x → t x ≡ false
IsFirst {X} t xs (Some i) = ((x : X) × (slice_get xs i ≡ Some x) × (t x ≡ true)) × ((j : ℕ) (x : X) → j < i → slice_get xs j ≡ Some x → t x ≡ false)

is_first : {X : Type 0} (t : X → Bool) (xs : List X) → IsFirst t xs (first_place t xs)
is_first t [] = λ j x there. absurd (true≢false (ap is_some (sym there)))
is_first {X = X} t (x ∷ xs) = by_test (t x) refl (first_place t xs) (is_first t xs)
  where
    by_test : (b : Bool) → t x ≡ b → (o : Option ℕ) → IsFirst t xs o → IsFirst t (x ∷ xs) (cond b (Some 0) (option_map suc o))
    by_test true h o rest = ((x, refl, h), λ j y less there. absurd (omega arith))
    by_test false h None rest = none
      where
        none : (j : ℕ) (y : X) → slice_get (x ∷ xs) j ≡ Some y → t y ≡ false
        none zero y there = let same : x ≡ y = cc in sym (ap t same) ∙ h
        none (suc j) y there = rest j y there
    by_test false h (Some i) rest = (rest.0, before)
      where
        before : (j : ℕ) (y : X) → j < suc i → slice_get (x ∷ xs) j ≡ Some y → t y ≡ false
        before zero y less there = let same : x ≡ y = cc in sym (ap t same) ∙ h
        before (suc j) y less there = rest.1 j y (omega arith) there

module _ (p : Program) (f : NameId) where
  more : (k : ℕ) (x : ModuleId) → offers_within p f (suc k) x ≡ (exports p x f || (not (eqb f.0 0) && some_passes (leads_to p f (offers_within p f k) x) (star_entries p x)))
  unfolding offers_within
  more k x = refl

  none : (x : ModuleId) → offers_within p f zero x ≡ exports p x f
  unfolding offers_within
  none x = refl

  -- an export-all that leads to what passes
  led_by : (t : ModuleId → Bool) (x : ModuleId) (e : ReExportAll) → leads_to p f t x e ≡ true → (y : ModuleId) × (target p x e.specifier ≡ Some y) × (t (stands p y) ≡ true)
  led_by t x e h = by_target (target p x e.specifier) refl h
    where
      by_target : (o : Option ModuleId) → target p x e.specifier ≡ o → holds (λ y. t (stands p y)) o ≡ true → (y : ModuleId) × (target p x e.specifier ≡ Some y) × (t (stands p y) ≡ true)
      by_target None is h' = absurd (false≢true h')
      by_target (Some y) is h' = (y, is, h')

  leads_by : (t : ModuleId → Bool) (x : ModuleId) (e : ReExportAll) (y : ModuleId) → target p x e.specifier ≡ Some y → t (stands p y) ≡ true → leads_to p f t x e ≡ true
  leads_by t x e y is h = ap (holds (λ z. t (stands p z))) is ∙ h

  not_default : not (eqb f.0 0) ≡ true → f.0 ≡ 0 → ⊥
  not_default h e = true≢false (sym (eq-eqb f.0 0 e) ∙ not-true (eqb f.0 0) h)

  pub sound : (k : ℕ) (x : ModuleId) → offers_within p f k x ≡ true → Offers p f x
  sound zero x h = own (sym (none x) ∙ h)
  sound (suc k) x h = by_case (or_cases (exports p x f) (not (eqb f.0 0) && some_passes (leads_to p f (offers_within p f k) x) (star_entries p x)) (sym (more k x) ∙ h)) (sound k)
    where
      by_case : (exports p x f ≡ true) ⊎ ((not (eqb f.0 0) && some_passes (leads_to p f (offers_within p f k) x) (star_entries p x)) ≡ true) → ((y : ModuleId) → offers_within p f k y ≡ true → Offers p f y) → Offers p f x
      by_case (inl e) below = own e
      by_case (inr both) below =
          let parts = and_parts (not (eqb f.0 0)) (some_passes (leads_to p f (offers_within p f k) x) (star_entries p x)) both in
          let at = passes_at (leads_to p f (offers_within p f k) x) (star_entries p x) parts.1 in
          let led = led_by (offers_within p f k) x at.1 at.3 in
          passed {i = at.0} (not_default parts.0) record { re_export_all = at.1; there = at.2; leads = led.1 } (below (stands p led.0) led.2)

  own_within : (k : ℕ) (x : ModuleId) → exports p x f ≡ true → offers_within p f k x ≡ true
  own_within zero x e = none x ∙ e
  own_within (suc k) x e = more k x ∙ or_left (exports p x f) _ e

  passed_within : (k : ℕ) (x : ModuleId) (i : ℕ) (y : ModuleId) → (f.0 ≡ 0 → ⊥) → Leads p x i y → offers_within p f k (stands p y) ≡ true → offers_within p f (suc k) x ≡ true
  passed_within k x i y apart leads h =
      more k x ∙ or_right (exports p x f) _ (and_from (not (eqb f.0 0)) _ (not_from_false (eqb f.0 0) (ne_eqb f.0 0 apart)) (at_passes (leads_to p f (offers_within p f k) x) (star_entries p x) i leads.re_export_all leads.there (leads_by (offers_within p f k) x leads.re_export_all y leads.leads h)))

  grows : (k : ℕ) (x : ModuleId) → offers_within p f k x ≡ true → offers_within p f (suc k) x ≡ true
  grows zero x h = own_within 1 x (sym (none x) ∙ h)
  grows (suc k) x h = by_case (or_cases (exports p x f) (not (eqb f.0 0) && some_passes (leads_to p f (offers_within p f k) x) (star_entries p x)) (sym (more k x) ∙ h)) (grows k)
    where
      by_case : (exports p x f ≡ true) ⊎ ((not (eqb f.0 0) && some_passes (leads_to p f (offers_within p f k) x) (star_entries p x)) ≡ true) → ((y : ModuleId) → offers_within p f k y ≡ true → offers_within p f (suc k) y ≡ true) → offers_within p f (suc (suc k)) x ≡ true
      by_case (inl e) below = own_within (suc (suc k)) x e
      by_case (inr both) below =
          let parts = and_parts (not (eqb f.0 0)) (some_passes (leads_to p f (offers_within p f k) x) (star_entries p x)) both in
          let at = passes_at (leads_to p f (offers_within p f k) x) (star_entries p x) parts.1 in
          let led = led_by (offers_within p f k) x at.1 at.3 in
          passed_within (suc k) x at.0 led.0 (not_default parts.0) record { re_export_all = at.1; there = at.2; leads = led.1 } (below (stands p led.0) led.2)

  raised : (d k : ℕ) (x : ModuleId) → offers_within p f k x ≡ true → offers_within p f (d + k) x ≡ true
  raised zero k x h = subst (λ n. offers_within p f n x ≡ true) (omega arith) h
  raised (suc d) k x h = subst (λ n. offers_within p f n x ≡ true) (omega arith) (grows (d + k) x (raised d k x h))

  pub complete : (x : ModuleId) → Offers p f x → offers? p f x ≡ true
  complete x o =
      let n = length p.modules in
      let s = settles (λ k m. offers_within p f k (record { 0 = m })) n (λ k m _. grows k (record { 0 = m })) in
      subst (λ k. offers_within p f k x ≡ true) (omega (arith, s.1)) (raised (n - s.0) s.0 x (all s.0 s.2 x o))
    where
      all : (j : ℕ) → ((m : ℕ) → m < length p.modules → offers_within p f (suc j) (record { 0 = m }) ≡ true → offers_within p f j (record { 0 = m }) ≡ true) → (y : ModuleId) → Offers p f y → offers_within p f j y ≡ true
      all j settled y (own e) = own_within j y e
      all j settled y (passed {y = z} {i = i} apart leads o') = by_place (all j settled (stands p z) o') (cases_lt y.0 (length p.modules))
        where
          by_place : offers_within p f j (stands p z) ≡ true → (y.0 < length p.modules) ⊎ (length p.modules ≤ y.0) → offers_within p f j y ≡ true
          by_place below (inl inside) = settled y.0 inside (passed_within j y i z apart leads below)
          by_place below (inr past) = absurd (past_leads p y z i past leads)

  pub decides_offers : (x : ModuleId) → Decides (offers? p f x) (Offers p f x)
  decides_offers x = (sound (length p.modules) x, complete x)

  -- the computed place is the first that passes f on
  pub first_lawful : (x : ModuleId) → First p f x (first_offer p f x)
  first_lawful x = by_default (eqb f.0 0) refl (first_place (leads_to p f (offers? p f) x) (star_entries p x)) (is_first (leads_to p f (offers? p f) x) (star_entries p x))
    where
      refuses : (j : ℕ) → ((e : ReExportAll) → slice_get (star_entries p x) j ≡ Some e → leads_to p f (offers? p f) x e ≡ false) → Passes p f x j → ⊥
      refuses j fails h = true≢false (sym (leads_by (offers? p f) x h.leads.re_export_all h.to h.leads.leads (complete (stands p h.to) h.offers)) ∙ fails h.leads.re_export_all h.leads.there)

      by_default : (b : Bool) → eqb f.0 0 ≡ b → (o : Option ℕ) → IsFirst (leads_to p f (offers? p f) x) (star_entries p x) o → First p f x (cond b None o)
      by_default true is o first = λ j h. h.not_default (eqb-true f.0 0 is)
      by_default false is None first = λ j h. refuses j (first j) h
      by_default false is (Some i) first =
          let led = led_by (offers? p f) x first.0.0 first.0.2 in
          (record { not_default = λ e. true≢false (sym (eq-eqb f.0 0 e) ∙ is); to = led.0; leads = record { re_export_all = first.0.0; there = first.0.1; leads = led.1 }; offers = sound (length p.modules) (stands p led.0) led.2 }, λ j less h. refuses j (λ e there. first.1 j e less there) h)
