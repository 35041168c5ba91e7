-- A walk that meets everything and finds nothing has shown that nothing is there. Assumes nothing.
use Rattle.std.proofs.Common.{◌≡◌, ℕ, zero, suc, ◌<◌, ◌≤◌, true, false, ◌⊎◌, List, [], ◌∷◌, length, get_or, replicate, is_some, None, sym, refl, ap, ◌∙◌, subst, inl, inr, arith}
use lib.ListN.{length-replicate}
use Rattle.std.proofs.lemmas.Option.{slice_get_past}
use Rattle.std.proofs.lemmas.Bool.{cases_eq, cases_lt, true≢false}
use Rattle.std.specs.List.{slice_get}
use Rattle.ids.specs.declared.numbers.ModuleId.{ModuleId}
use Rattle.ids.specs.declared.numbers.NameId.{NameId}
use Rattle.host.specs.Lookups.{within, module_at}
use Rattle.host.specs.Program.{Program}
use Rattle.offering.specs.Marks.{mark_of, Met, met}
use Rattle.offering.specs.Offers.{Offers, own, passed}
use Rattle.resolution.specs.Laws.{Leads}
use Rattle.resolution.specs.Targets.{stands, exports, has_export, module_symbol}
use Rattle.offering.specs.Walks.{Visited, Walked}
use Rattle.offering.proofs.Meeting.{met_length, met_mark, met_itself, met_done}

same_module : (x y : ModuleId) → x.0 ≡ y.0 → x ≡ y
same_module x y e = ap (λ n. record { 0 = n }) e

blank_mark : (n k : ℕ) → ◌≡◌ {A = ℕ} (get_or (replicate n 0) k 0) 0
blank_mark zero k = refl
blank_mark (suc n) zero = refl
blank_mark (suc n) (suc k) = blank_mark n k

-- past the last module there is nothing

past_module : (p : Program) (x : ModuleId) → length p.modules ≤ x.0 → module_at p x ≡ None
past_module p x past = slice_get_past p.modules x.0 past

pub past_exports : (p : Program) (f : NameId) (x : ModuleId) → length p.modules ≤ x.0 → exports p x f ≡ false
past_exports p f x past = ap (λ o. has_export (within (λ s. s.exports) (slice_get (within (λ m. m.symbols) o) module_symbol.0)) f) (past_module p x past)

pub past_leads : (p : Program) (x y : ModuleId) (i : ℕ) → length p.modules ≤ x.0 → Leads p x i y → ⊥
past_leads p x y i past leads =
    let none = ap (λ o. slice_get (within (λ m. m.re_export_alls) o) i) (past_module p x past) in
    true≢false (sym (ap is_some (sym none ∙ leads.there)))

module _ (p : Program) (f : NameId) (start : ModuleId) where
  -- the start alone is met
  pub walk_begins : (marks : List ℕ) → marks ≡ met (replicate (length p.modules) 0) start → Walked p f start marks
  walk_begins marks is =
      let n = length p.modules in
      subst (λ l. Walked p f start l) (sym is) record {
        long = met_length (replicate n 0) start ∙ length-replicate n 0;
        small = λ y. small y (met_mark (replicate n 0) start y);
        begun = met_itself (replicate n 0) start;
        sound = λ y within h. sound y h (met_mark (replicate n 0) start y);
        closed = λ y within two. absurd (let z = met_done (replicate n 0) start y two in omega (arith, z, blank_mark n y.0));
      }
    where
      small : (y : ModuleId) → (mark_of (met (replicate (length p.modules) 0) start) y ≡ mark_of (replicate (length p.modules) 0) y) ⊎ ((mark_of (met (replicate (length p.modules) 0) start) y ≡ 1) × ((mark_of (replicate (length p.modules) 0) y ≡ 0) × (y.0 ≡ start.0))) → mark_of (met (replicate (length p.modules) 0) start) y ≤ 2
      small y (inl e) = omega (arith, e, blank_mark (length p.modules) y.0)
      small y (inr one) = omega (arith, one.0)

      sound : (y : ModuleId) → (mark_of (met (replicate (length p.modules) 0) start) y ≡ 0 → ⊥) → (mark_of (met (replicate (length p.modules) 0) start) y ≡ mark_of (replicate (length p.modules) 0) y) ⊎ ((mark_of (met (replicate (length p.modules) 0) start) y ≡ 1) × ((mark_of (replicate (length p.modules) 0) y ≡ 0) × (y.0 ≡ start.0))) → Offers p f y → Offers p f start
      sound y h (inl e) o = absurd (h (e ∙ blank_mark (length p.modules) y.0))
      sound y h (inr one) o = subst (λ z. Offers p f z) (same_module y start one.1.1) o

  -- a module that was met and exports f
  pub walk_finds : {marks : List ℕ} (x : ModuleId) → Walked p f start marks → x.0 < length marks → mark_of marks x ≡ 1 → exports p x f ≡ true → Offers p f start
  walk_finds x w within waits h = w.sound x within (λ z. omega (arith, waits, z)) (own h)

  -- one module more is visited
  pub walk_goes_on : {before after : List ℕ} (x : ModuleId) → (f.0 ≡ 0 → ⊥) → Walked p f start before → x.0 < length before → mark_of before x ≡ 1 → exports p x f ≡ false → Visited p x before after → Walked p f start after
  walk_goes_on {before} {after} x not_default w within waits lacks v = record {
    long = v.long ∙ w.long;
    small = v.still_small w.small;
    begun = v.still_met start w.begun;
    sound = λ y inside h o. sound y h o (v.no_other y (omega (arith, v.long)) h);
    closed = λ y inside two. closed y inside (v.one_done y two);
  }
    where
      sound : (y : ModuleId) → (mark_of after y ≡ 0 → ⊥) → Offers p f y → (mark_of before y ≡ 0 → ⊥) ⊎ ((i : ℕ) × (z : ModuleId) × Leads p x i z × (y.0 ≡ (stands p z).0)) → Offers p f start
      sound y h o (inl old) = w.sound y (omega (arith, v.long, within_of y old)) old o
        where
          within_of : (u : ModuleId) → (mark_of before u ≡ 0 → ⊥) → u.0 < length before
          within_of u m = by_place (cases_lt u.0 (length before))
            where
              by_place : (u.0 < length before) ⊎ (length before ≤ u.0) → u.0 < length before
              by_place (inl l) = l
              by_place (inr g) = absurd (m (past_mark before u.0 g))
                where
                  past_mark : (marks : List ℕ) (k : ℕ) → length marks ≤ k → get_or marks k 0 ≡ 0
                  past_mark [] k g' = refl
                  past_mark (a ∷ marks) zero g' = absurd (omega arith)
                  past_mark (a ∷ marks) (suc k) g' = past_mark marks k (omega arith)
      sound y h o (inr new) =
          w.sound x within (λ z. omega (arith, waits, z)) (passed not_default new.2 (subst (λ z. Offers p f z) (same_module y (stands p new.1) new.3) o))

      closed : (y : ModuleId) → y.0 < length after → (mark_of before y ≡ 2) ⊎ (y.0 ≡ x.0) → (exports p y f ≡ false) × ((i : ℕ) (z : ModuleId) → Leads p y i z → Met after (stands p z))
      closed y inside (inl old) =
          let c = w.closed y (omega (arith, v.long)) old in
          (c.0, λ i z leads. v.still_met (stands p z) (c.1 i z leads))
      closed y inside (inr e) =
          subst (λ u. (exports p u f ≡ false) × ((i : ℕ) (z : ModuleId) → Leads p u i z → Met after (stands p z))) (sym (same_module y x e)) (lacks, v.all_met)

  -- nothing waits any more, and nothing was found
  pub walk_ends : {marks : List ℕ} → Walked p f start marks → ((x : ModuleId) → x.0 < length marks → mark_of marks x ≡ 1 → ⊥) → Offers p f start → ⊥
  walk_ends {marks} w over o = none start w.begun o
    where
      done : (x : ModuleId) → x.0 < length marks → Met marks x → mark_of marks x ≡ 2
      done x within m = by_mark (cases_eq (mark_of marks x) 0) (cases_eq (mark_of marks x) 1)
        where
          by_mark : (mark_of marks x ≡ 0) ⊎ (mark_of marks x ≡ 0 → ⊥) → (mark_of marks x ≡ 1) ⊎ (mark_of marks x ≡ 1 → ⊥) → mark_of marks x ≡ 2
          by_mark (inl e) b = absurd (m within e)
          by_mark (inr a) (inl e) = absurd (over x within e)
          by_mark (inr a) (inr b) = omega (arith, w.small x)

      none : (x : ModuleId) → Met marks x → Offers p f x → ⊥
      none x m (own h) = by_place (cases_lt x.0 (length marks))
        where
          by_place : (x.0 < length marks) ⊎ (length marks ≤ x.0) → ⊥
          by_place (inl within) = true≢false (sym h ∙ (w.closed x within (done x within m)).0)
          by_place (inr past) = true≢false (sym h ∙ past_exports p f x (omega (arith, w.long)))
      none x m (passed {y = y} {i = i} not_default leads o') = by_place (λ there. none (stands p y) there o') (cases_lt x.0 (length marks))
        where
          by_place : (Met marks (stands p y) → ⊥) → (x.0 < length marks) ⊎ (length marks ≤ x.0) → ⊥
          by_place below (inl within) = below ((w.closed x within (done x within m)).1 i y leads)
          by_place below (inr past) = past_leads p x y i (omega (arith, w.long)) leads
