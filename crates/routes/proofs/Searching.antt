-- A search goes on, and what it means that it ends. Assumes nothing.
use Rattle.std.proofs.Common.{◌≡◌, ℕ, zero, suc, ◌+◌, ◌<◌, ◌≤◌, true, false, eqb, leb, ◌⊎◌, List, [], ◌∷◌, ◌++◌, length, is_some, Some, sym, refl, ap, ◌∙◌, subst, inl, inr, append_assoc, append-nil, arith}
use Rattle.std.proofs.lemmas.Bool.{cases_Bool, eqb-true, eq-eqb, leb-true, le-leb, or_cases, or_left, or_right, cases_lt, true≢false, false≢true}
use Rattle.std.proofs.lemmas.List.{map_push}
use Rattle.std.proofs.lemmas.Option.{slice_get_within}
use Rattle.std.specs.List.{AllByRecursion, slice_get}
use Rattle.ids.specs.declared.numbers.ModuleId.{ModuleId}
use Rattle.ids.specs.declared.numbers.NameId.{NameId}
use Rattle.host.specs.Program.{Program}
use Rattle.resolution.specs.Targets.{stands, exports}
use Rattle.offering.proofs.Ending.{missing, missing_less}
use Rattle.offering.proofs.Names.{same_module}
use Rattle.offering.proofs.Walking.{past_exports, past_leads}
use Rattle.offering.specs.ExportedNames.{contains}
use Rattle.offering.specs.Offers.{Offers, own, passed}
use Rattle.resolution.specs.Laws.{Leads}
use Rattle.routes.proofs.Spreads.{known_more}
use Rattle.routes.specs.Reach.{modules_in, known, Led, Fresh, Spread}
use Rattle.routes.specs.Routes.{Route, start_of, Trail, here, on, Searching}
use Rattle.routes.specs.declared.reached.Reached.{Reached}
use Rattle.routes.specs.declared.steps.Step.{Step}

-- places of a list that grows

pub nth_kept : {X : Type 0} (xs new : List X) (k : ℕ) (x : X) → slice_get xs k ≡ Some x → slice_get (xs ++ new) k ≡ Some x
nth_kept [] new k x h = absurd (true≢false (sym (ap is_some h)))
nth_kept (y ∷ xs) new zero x h = h
nth_kept (y ∷ xs) new (suc k) x h = nth_kept xs new k x h

-- what stands at a place of both lists stood there before, or is new and stands behind
nth_either : {X : Type 0} (P : X → Type 0) (xs new : List X) (k : ℕ) (x : X) → AllByRecursion P new → slice_get (xs ++ new) k ≡ Some x → (slice_get xs k ≡ Some x) ⊎ ((length xs ≤ k) × P x)
nth_either {X = X} P [] new k x all h = inr (omega arith, at new k all h)
  where
    at : (ys : List X) (j : ℕ) → AllByRecursion P ys → slice_get ys j ≡ Some x → P x
    at [] j all' e = absurd (true≢false (sym (ap is_some e)))
    at (y ∷ ys) zero all' e = let same : y ≡ x = cc in subst P same all'.0
    at (y ∷ ys) (suc j) all' e = at ys j all'.1 e
nth_either P (y ∷ xs) new zero x all h = inl h
nth_either P (y ∷ xs) new (suc k) x all h = elim (nth_either P xs new k x all h) [ inl old ↦ inl old | inr last ↦ inr (omega (arith, last.0), last.1) ]

nth_same : {X : Type 0} (xs : List X) (k : ℕ) (x y : X) → slice_get xs k ≡ Some x → slice_get xs k ≡ Some y → x ≡ y
nth_same xs k x y a b = cc

-- a module that was reached stands at a place
reached_at : (rs : List Reached) (y : ModuleId) → contains (modules_in rs) y ≡ true → (k : ℕ) × (r : Reached) × (slice_get rs k ≡ Some r) × (r.«module» ≡ y)
reached_at [] y h = absurd (false≢true h)
reached_at (r ∷ rs) y h = by_case (or_cases (eqb r.«module».0 y.0) (contains (modules_in rs) y) h) (reached_at rs y)
  where
    by_case : (eqb r.«module».0 y.0 ≡ true) ⊎ (contains (modules_in rs) y ≡ true) → (contains (modules_in rs) y ≡ true → (k : ℕ) × (q : Reached) × (slice_get rs k ≡ Some q) × (q.«module» ≡ y)) → (k : ℕ) × (q : Reached) × (slice_get (r ∷ rs) k ≡ Some q) × (q.«module» ≡ y)
    by_case (inl e) rest = (zero, r, refl, same_module r.«module» y (eqb-true r.«module».0 y.0 e))
    by_case (inr there) rest = let found = rest there in (suc found.0, found.1, found.2, found.3)

-- each new one makes the missing ones fewer
pub fresh_fewer : (p : Program) (rs new : List Reached) → Fresh p rs new → missing (length p.modules) (modules_in (rs ++ new)) + length new ≤ missing (length p.modules) (modules_in rs)
fresh_fewer p rs [] fresh = let e = ap (λ l. missing (length p.modules) (modules_in l)) (append-nil rs) in omega (arith, e)
fresh_fewer p rs (r ∷ new) fresh =
    let n = length p.modules in
    let rest = fresh_fewer p (rs ++ r ∷ []) new fresh.1 in
    let e = ap (λ l. missing n (modules_in l)) (append_assoc rs (r ∷ []) new) in
    let f = ap (missing n) (map_push (λ q. q.«module») rs r) in
    let less = missing_less n (modules_in rs) r.«module» inside apart in
    omega (arith, rest, e, f, less)
  where
    apart : contains (modules_in rs) r.«module» ≡ false
    apart = elim (cases_Bool (contains (modules_in rs) r.«module»)) [ inl t ↦ absurd (true≢false (sym (or_right (leb (length p.modules) r.«module».0) (contains (modules_in rs) r.«module») t) ∙ fresh.0)) | inr f ↦ f ]

    inside : r.«module».0 < length p.modules
    inside = elim (cases_lt r.«module».0 (length p.modules)) [ inl l ↦ l | inr past ↦ absurd (true≢false (sym (or_left (leb (length p.modules) r.«module».0) (contains (modules_in rs) r.«module») (le-leb (length p.modules) r.«module».0 past)) ∙ fresh.0)) ]

module _ (p : Program) (f : NameId) (start : ModuleId) where
  pub search_goes_on : (rs after : List Reached) (turn : ℕ) (q : Reached) → Searching p f start rs turn → slice_get rs turn ≡ Some q → exports p q.«module» f ≡ false → Spread p q.«module» turn (λ i. Unit {0}) rs after → Searching p f start after (turn + 1)
  search_goes_on rs after turn q s at lacks spread = subst (λ l. Searching p f start l (turn + 1)) (sym spread.grown) record {
    first = nth_kept rs spread.new 0 (start_of start) s.first;
    down = λ k r above there. by_down k r above (nth_either (Led p q.«module» turn) rs spread.new k r spread.led there);
    linked = λ k r above there. by_link k r above (nth_either (Led p q.«module» turn) rs spread.new k r spread.led there);
    looked = λ k r before there. by_turn k r there (cases_lt k turn) before;
  }
    where
      in_turn : turn < length rs
      in_turn = slice_get_within rs turn q at

      by_down : (k : ℕ) (r : Reached) → 0 < k → (slice_get rs k ≡ Some r) ⊎ ((length rs ≤ k) × Led p q.«module» turn r) → r.from < k
      by_down k r above (inl old) = s.down k r above old
      by_down k r above (inr new) = omega (arith, new.0, new.1.0, in_turn)

      by_link : (k : ℕ) (r : Reached) → 0 < k → (slice_get rs k ≡ Some r) ⊎ ((length rs ≤ k) × Led p q.«module» turn r) → (u : Reached) × (slice_get (rs ++ spread.new) r.from ≡ Some u) × ((z : ModuleId) × Leads p u.«module» r.place z × (r.«module» ≡ stands p z))
      by_link k r above (inl old) = let l = s.linked k r above old in (l.0, nth_kept rs spread.new r.from l.0 l.1, l.2)
      by_link k r above (inr new) = (q, ap (λ i. slice_get (rs ++ spread.new) i) new.1.0 ∙ nth_kept rs spread.new turn q at, new.1.1)

      kept : (r : Reached) → ((i : ℕ) (z : ModuleId) → Leads p r.«module» i z → known p rs (stands p z) ≡ true) → (i : ℕ) (z : ModuleId) → Leads p r.«module» i z → known p (rs ++ spread.new) (stands p z) ≡ true
      kept r old i z leads = known_more p rs spread.new (stands p z) (old i z leads)

      before_new : (k : ℕ) (r : Reached) → k < length rs → slice_get (rs ++ spread.new) k ≡ Some r → slice_get rs k ≡ Some r
      before_new k r inside there = elim (nth_either (Led p q.«module» turn) rs spread.new k r spread.led there) [ inl old ↦ old | inr new ↦ absurd (omega (arith, new.0)) ]

      by_turn : (k : ℕ) (r : Reached) → slice_get (rs ++ spread.new) k ≡ Some r → (k < turn) ⊎ (turn ≤ k) → k < turn + 1 → (exports p r.«module» f ≡ false) × ((i : ℕ) (z : ModuleId) → Leads p r.«module» i z → known p (rs ++ spread.new) (stands p z) ≡ true)
      by_turn k r there (inl earlier) before =
          let l = s.looked k r earlier (before_new k r (omega (arith, in_turn)) there) in
          (l.0, kept r l.1)
      by_turn k r there (inr later) before =
          let here' : slice_get rs k ≡ Some r = before_new k r (omega (arith, in_turn)) there in
          let place : k ≡ turn = omega arith in
          let is : q ≡ r = nth_same rs turn q r at (sym (ap (slice_get rs) place) ∙ here') in
          subst (λ u. (exports p u.«module» f ≡ false) × ((i : ℕ) (z : ModuleId) → Leads p u.«module» i z → known p (rs ++ spread.new) (stands p z) ≡ true)) is (lacks, λ i z leads. sym (ap (λ l. known p l (stands p z)) spread.grown) ∙ spread.all_known i z tt leads)

  -- all that was reached was looked at, and f was not found
  pub nothing_offered : (rs : List Reached) (turn : ℕ) → (f.0 ≡ 0 → ⊥) → Searching p f start rs turn → length rs ≤ turn → Offers p f start → ⊥
  nothing_offered rs turn not_default s over o = none start (or_right (leb (length p.modules) start.0) (contains (modules_in rs) start) (begins rs s.first)) o
    where
      begins : (l : List Reached) → slice_get l 0 ≡ Some (start_of start) → contains (modules_in l) start ≡ true
      begins [] e = absurd (true≢false (sym (ap is_some e)))
      begins (r ∷ l) e =
          let same : r ≡ start_of start = cc in
          or_left (eqb r.«module».0 start.0) (contains (modules_in l) start) (ap (λ u. eqb u.«module».0 start.0) same ∙ eq-eqb start.0 start.0 refl)

      none : (y : ModuleId) → known p rs y ≡ true → Offers p f y → ⊥
      none y h (own e) = by_known (or_cases (leb (length p.modules) y.0) (contains (modules_in rs) y) h)
        where
          by_known : (leb (length p.modules) y.0 ≡ true) ⊎ (contains (modules_in rs) y ≡ true) → ⊥
          by_known (inl past) = true≢false (sym e ∙ past_exports p f y (leb-true (length p.modules) y.0 past))
          by_known (inr there) =
              let r = reached_at rs y there in
              let l = s.looked r.0 r.1 (omega (arith, over, slice_get_within rs r.0 r.1 r.2)) r.2 in
              true≢false (sym e ∙ sym (ap (λ u. exports p u f) r.3) ∙ l.0)
      none y h (passed {y = z} {i = i} _ leads o') = by_known (λ k. none (stands p z) k o') (or_cases (leb (length p.modules) y.0) (contains (modules_in rs) y) h)
        where
          by_known : (known p rs (stands p z) ≡ true → ⊥) → (leb (length p.modules) y.0 ≡ true) ⊎ (contains (modules_in rs) y ≡ true) → ⊥
          by_known below (inl past) = past_leads p y z i (leb-true (length p.modules) y.0 past) leads
          by_known below (inr there) =
              let r = reached_at rs y there in
              let l = s.looked r.0 r.1 (omega (arith, over, slice_get_within rs r.0 r.1 r.2)) r.2 in
              below (l.1 i z (subst (λ u. Leads p u i z) (sym r.3) leads))

  -- the steps back from one that exports f are a route
  pub trail_route : (rs : List Reached) (turn end k : ℕ) (last q : Reached) (steps : List Step) → (f.0 ≡ 0 → ⊥) → Searching p f start rs turn → slice_get rs end ≡ Some last → exports p last.«module» f ≡ true → Trail rs end k steps → slice_get rs k ≡ Some q → Route p f q.«module» steps
  trail_route rs turn end k last q [] not_default s at found (here e) there =
      let same = nth_same rs end last q at (sym (ap (slice_get rs) e) ∙ there) in
      sym (ap (λ u. exports p u.«module» f) same) ∙ found
  trail_route rs turn end k last q (st ∷ steps) not_default s at found (on {k = j} {r = r} above reached is more) there =
      let l = s.linked j r above reached in
      let same = nth_same rs k l.0 q (ap (slice_get rs) (sym is) ∙ l.1) there in
      (not_default, (l.2.0, subst (λ u. Leads p u.«module» r.place l.2.0) same l.2.1, l.2.2), trail_route rs turn end j last r steps not_default s at found more reached)
