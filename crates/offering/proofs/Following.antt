-- Export-alls followed one after another. Assumes nothing.
use Rattle.std.proofs.Common.{◌≡◌, ℕ, ◌<◌, ◌≤◌, ◌⊎◌, List, length, get_or, set, sym, ap, ◌∙◌, subst, inl, inr, arith, length-set}
use Rattle.std.proofs.lemmas.List.{get_or-set_same, get_or-set_other}
use Rattle.std.proofs.lemmas.Bool.{cases_eq}
use Rattle.std.proofs.lemmas.Option.{slice_get_within}
use Rattle.ids.specs.declared.numbers.ModuleId.{ModuleId}
use Rattle.host.specs.Lookups.{within, module_at}
use Rattle.host.specs.Program.{Program}
use Rattle.offering.specs.Marks.{mark_of, Met, met}
use Rattle.resolution.specs.Laws.{Leads}
use Rattle.resolution.specs.Targets.{target, stands}
use Rattle.offering.specs.Walks.{Followed, Visited}
use Rattle.offering.proofs.Meeting.{met_length, met_mark, met_still, met_itself, met_done, met_undone, done_fewer}

module _ (p : Program) (x : ModuleId) where
  -- an export-all leads to one module
  pub leads_same : (i : ℕ) (y z : ModuleId) → Leads p x i y → Leads p x i z → y ≡ z
  leads_same i y z a b =
      let e : a.re_export_all ≡ b.re_export_all = let here = sym a.there ∙ b.there in cc in
      let t = sym a.leads ∙ ap (λ r. target p x r.specifier) e ∙ b.leads in
      cc

  -- one place is followed
  pub followed_one : (i : ℕ) (y : ModuleId) (marks : List ℕ) → Leads p x i y → Followed p x (λ j. j ≡ i) marks (met marks (stands p y))
  followed_one i y marks leads = record {
    long = met_length marks (stands p y);
    still_met = met_still marks (stands p y);
    none_done = met_done marks (stands p y);
    all_met = λ j z at other. subst (λ w. Met (met marks (stands p y)) (stands p w)) (same j z at other) (met_itself marks (stands p y));
    no_other = λ z within h. by_mark z h (met_mark marks (stands p y) z);
    as_many = met_undone marks (stands p y);
    still_small = λ h z. small z (h z) (met_mark marks (stands p y) z);
  }
    where
      small : (z : ModuleId) → mark_of marks z ≤ 2 → (mark_of (met marks (stands p y)) z ≡ mark_of marks z) ⊎ ((mark_of (met marks (stands p y)) z ≡ 1) × ((mark_of marks z ≡ 0) × (z.0 ≡ (stands p y).0))) → mark_of (met marks (stands p y)) z ≤ 2
      small z h (inl e') = omega (arith, e')
      small z h (inr one) = omega (arith, one.0)

      same : (j : ℕ) (z : ModuleId) → j ≡ i → Leads p x j z → y ≡ z
      same j z at other = leads_same i y z leads (subst (λ k. Leads p x k z) at other)

      by_mark : (z : ModuleId) → (mark_of (met marks (stands p y)) z ≡ 0 → ⊥) → (mark_of (met marks (stands p y)) z ≡ mark_of marks z) ⊎ ((mark_of (met marks (stands p y)) z ≡ 1) × ((mark_of marks z ≡ 0) × (z.0 ≡ (stands p y).0))) → (mark_of marks z ≡ 0 → ⊥) ⊎ ((j : ℕ) × (w : ModuleId) × Leads p x j w × (z.0 ≡ (stands p w).0))
      by_mark z h (inl e') = inl (λ zero'. h (e' ∙ zero'))
      by_mark z h (inr one) = inr (i, y, leads, one.1.1)

  -- places followed one after another
  pub followed_both : (P Q R : ℕ → Type 0) {a b c : List ℕ} → ((i : ℕ) → R i → P i ⊎ Q i) → Followed p x P a b → Followed p x Q b c → Followed p x R a c
  followed_both P Q R {a} {b} {c} split h k = record {
    long = k.long ∙ h.long;
    still_met = λ y m. k.still_met y (h.still_met y m);
    none_done = λ y m. h.none_done y (k.none_done y m);
    all_met = λ i y at leads. by_split i y leads (split i at);
    no_other = λ y within m. by_other y within (k.no_other y (omega (arith, h.long)) m);
    as_many = k.as_many ∙ h.as_many;
    still_small = λ s. k.still_small (h.still_small s);
  }
    where
      by_split : (i : ℕ) (y : ModuleId) → Leads p x i y → P i ⊎ Q i → Met c (stands p y)
      by_split i y leads (inl at) = k.still_met (stands p y) (h.all_met i y at leads)
      by_split i y leads (inr at) = k.all_met i y at leads

      by_other : (y : ModuleId) → y.0 < length a → (mark_of b y ≡ 0 → ⊥) ⊎ ((i : ℕ) × (z : ModuleId) × Leads p x i z × (y.0 ≡ (stands p z).0)) → (mark_of a y ≡ 0 → ⊥) ⊎ ((i : ℕ) × (z : ModuleId) × Leads p x i z × (y.0 ≡ (stands p z).0))
      by_other y within (inl m) = h.no_other y within m
      by_other y within (inr found) = inr found

  -- the same of places that lead nowhere else
  pub followed_wider : (P Q : ℕ → Type 0) {a b : List ℕ} → ((i : ℕ) (y : ModuleId) → Q i → Leads p x i y → P i) → Followed p x P a b → Followed p x Q a b
  followed_wider P Q more h = record {
    long = h.long;
    still_met = h.still_met;
    none_done = h.none_done;
    all_met = λ i y at leads. h.all_met i y (more i y at leads) leads;
    no_other = h.no_other;
    as_many = h.as_many;
    still_small = h.still_small;
  }

  -- a place that leads somewhere is within the list
  pub leads_within : (i : ℕ) (y : ModuleId) → Leads p x i y → i < length (within (λ m. m.re_export_alls) (module_at p x))
  leads_within i y leads = slice_get_within (within (λ m. m.re_export_alls) (module_at p x)) i leads.re_export_all leads.there

  -- x is done, and then all is followed
  pub visited : (before after : List ℕ) → x.0 < length before → mark_of before x ≡ 1 → Followed p x (λ i. Unit {0}) (set before x.0 2) after → Visited p x before after
  visited before after inside waits h = record {
    long = h.long ∙ length-set before x.0 2;
    still_met = λ y m. h.still_met y (kept y m);
    one_done = λ y two. by_done y (cases_eq y.0 x.0) (h.none_done y two);
    all_met = λ i y leads. h.all_met i y tt leads;
    no_other = λ y within m. by_other y (cases_eq y.0 x.0) (h.no_other y (omega (arith, length-set before x.0 2)) m);
    fewer = omega (arith, h.as_many, done_fewer before x.0 inside waits);
    still_small = λ s. h.still_small (λ y. small y (s y) (cases_eq y.0 x.0));
  }
    where
      small : (y : ModuleId) → mark_of before y ≤ 2 → (y.0 ≡ x.0) ⊎ (y.0 ≡ x.0 → ⊥) → mark_of (set before x.0 2) y ≤ 2
      small y h' (inl e) = let two = ap (λ k. get_or (set before x.0 2) k 0) e ∙ get_or-set_same before x.0 2 0 inside in omega (arith, two)
      small y h' (inr other) = omega (arith, get_or-set_other before x.0 y.0 2 0 other)

      kept : (y : ModuleId) → Met before y → Met (set before x.0 2) y
      kept y m within = by_same (cases_eq y.0 x.0)
        where
          by_same : (y.0 ≡ x.0) ⊎ (y.0 ≡ x.0 → ⊥) → mark_of (set before x.0 2) y ≡ 0 → ⊥
          by_same (inl e) z = let two = ap (λ k. get_or (set before x.0 2) k 0) e ∙ get_or-set_same before x.0 2 0 inside in omega (arith, two, z)
          by_same (inr other) z = m (omega (arith, length-set before x.0 2)) (sym (get_or-set_other before x.0 y.0 2 0 other) ∙ z)

      by_done : (y : ModuleId) → (y.0 ≡ x.0) ⊎ (y.0 ≡ x.0 → ⊥) → mark_of (set before x.0 2) y ≡ 2 → (mark_of before y ≡ 2) ⊎ (y.0 ≡ x.0)
      by_done y (inl e) two = inr e
      by_done y (inr other) two = inl (sym (get_or-set_other before x.0 y.0 2 0 other) ∙ two)

      by_other : (y : ModuleId) → (y.0 ≡ x.0) ⊎ (y.0 ≡ x.0 → ⊥) → (mark_of (set before x.0 2) y ≡ 0 → ⊥) ⊎ ((i : ℕ) × (z : ModuleId) × Leads p x i z × (y.0 ≡ (stands p z).0)) → (mark_of before y ≡ 0 → ⊥) ⊎ ((i : ℕ) × (z : ModuleId) × Leads p x i z × (y.0 ≡ (stands p z).0))
      by_other y same (inr found) = inr found
      by_other y (inl e) (inl m) = inl (λ z. let one = ap (λ k. get_or before k 0) e ∙ waits in omega (arith, one, z))
      by_other y (inr other) (inl m) = inl (λ z. m (get_or-set_other before x.0 y.0 2 0 other ∙ z))
