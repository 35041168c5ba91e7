-- What meeting a module and being done with one change. Assumes nothing.
use Rattle.std.proofs.Common.{◌≡◌, ℕ, zero, suc, ◌+◌, ◌<◌, ◌≤◌, Bool, true, false, cond, eqb, ◌⊎◌, List, [], ◌∷◌, length, get_or, set, sym, refl, ap, ◌∙◌, inl, inr, arith, length-set}
use Rattle.std.proofs.lemmas.List.{get_or-set_same, get_or-set_other, set_past}
use Rattle.std.proofs.lemmas.Bool.{ne_eqb, cases_eq, cases_lt}
use Rattle.ids.specs.declared.numbers.ModuleId.{ModuleId}
use Rattle.offering.specs.Marks.{mark_of, Met, met, undone}

abbrev one_unless : Bool → ℕ
one_unless true = 0
one_unless false = 1

-- the marks after a set at a place

set_undone : (marks : List ℕ) (k n : ℕ) → k < length marks → undone (set marks k n) + one_unless (eqb (get_or marks k 0) 2) ≡ undone marks + one_unless (eqb n 2)
set_undone [] k n h = absurd (omega arith)
set_undone (m ∷ marks) zero n h = by_tests (eqb m 2) (eqb n 2)
  where
    by_tests : (a b : Bool) → cond b (undone marks) (suc (undone marks)) + one_unless a ≡ cond a (undone marks) (suc (undone marks)) + one_unless b
    by_tests true true = refl
    by_tests true false = omega arith
    by_tests false true = omega arith
    by_tests false false = refl
set_undone (m ∷ marks) (suc k) n h = by_test (set_undone marks k n (omega arith)) (eqb m 2)
  where
    by_test : undone (set marks k n) + one_unless (eqb (get_or marks k 0) 2) ≡ undone marks + one_unless (eqb n 2) → (a : Bool) → cond a (undone (set marks k n)) (suc (undone (set marks k n))) + one_unless (eqb (get_or marks k 0) 2) ≡ cond a (undone marks) (suc (undone marks)) + one_unless (eqb n 2)
    by_test rest true = rest
    by_test rest false = omega arith

pub done_fewer : (marks : List ℕ) (k : ℕ) → k < length marks → get_or marks k 0 ≡ 1 → undone (set marks k 2) + 1 ≡ undone marks
done_fewer marks k h is =
    let e = set_undone marks k 2 h in
    let f : one_unless (eqb (get_or marks k 0) 2) ≡ 1 = ap (λ n. one_unless (eqb n 2)) is in
    omega (arith, e, f)

-- meeting x

module _ (marks : List ℕ) (x : ModuleId) where
  was_blank : mark_of marks x ≡ 0 → met marks x ≡ set marks x.0 1
  was_blank e = ap (λ n. cond (eqb n 0) (set marks x.0 1) marks) e

  was_met : (mark_of marks x ≡ 0 → ⊥) → met marks x ≡ marks
  was_met h = ap (λ b. cond b (set marks x.0 1) marks) (ne_eqb (mark_of marks x) 0 h)

  pub met_length : length (met marks x) ≡ length marks
  met_length = by_mark (cases_eq (mark_of marks x) 0)
    where
      by_mark : (mark_of marks x ≡ 0) ⊎ (mark_of marks x ≡ 0 → ⊥) → length (met marks x) ≡ length marks
      by_mark (inl e) = ap length (was_blank e) ∙ length-set marks x.0 1
      by_mark (inr h) = ap length (was_met h)

  -- the mark of any module after it
  pub met_mark : (y : ModuleId) → (mark_of (met marks x) y ≡ mark_of marks y) ⊎ ((mark_of (met marks x) y ≡ 1) × ((mark_of marks y ≡ 0) × (y.0 ≡ x.0)))
  met_mark y = by_mark (cases_eq (mark_of marks x) 0) (cases_eq y.0 x.0) (cases_lt x.0 (length marks))
    where
      by_mark : (mark_of marks x ≡ 0) ⊎ (mark_of marks x ≡ 0 → ⊥) → (y.0 ≡ x.0) ⊎ (y.0 ≡ x.0 → ⊥) → (x.0 < length marks) ⊎ (length marks ≤ x.0) → (mark_of (met marks x) y ≡ mark_of marks y) ⊎ ((mark_of (met marks x) y ≡ 1) × ((mark_of marks y ≡ 0) × (y.0 ≡ x.0)))
      by_mark (inr h) same within = inl (ap (λ l. mark_of l y) (was_met h))
      by_mark (inl e) (inr other) within = inl (ap (λ l. mark_of l y) (was_blank e) ∙ get_or-set_other marks x.0 y.0 1 0 other)
      by_mark (inl e) (inl same) (inl within) = inr (ap (λ l. mark_of l y) (was_blank e) ∙ ap (λ k. get_or (set marks x.0 1) k 0) same ∙ get_or-set_same marks x.0 1 0 within, (ap (λ k. get_or marks k 0) same ∙ e, same))
      by_mark (inl e) (inl same) (inr past) = inl (ap (λ l. mark_of l y) (was_blank e ∙ set_past marks x.0 1 past))

  pub met_still : (y : ModuleId) → Met marks y → Met (met marks x) y
  met_still y h within = by_mark (met_mark y)
    where
      by_mark : (mark_of (met marks x) y ≡ mark_of marks y) ⊎ ((mark_of (met marks x) y ≡ 1) × ((mark_of marks y ≡ 0) × (y.0 ≡ x.0))) → mark_of (met marks x) y ≡ 0 → ⊥
      by_mark (inl same) e = h (omega (arith, met_length)) (sym same ∙ e)
      by_mark (inr one) e = omega (arith, one.0)

  pub met_itself : Met (met marks x) x
  met_itself within = by_mark (cases_eq (mark_of marks x) 0)
    where
      by_mark : (mark_of marks x ≡ 0) ⊎ (mark_of marks x ≡ 0 → ⊥) → mark_of (met marks x) x ≡ 0 → ⊥
      by_mark (inl e) z = let one = ap (λ l. mark_of l x) (was_blank e) ∙ get_or-set_same marks x.0 1 0 (omega (arith, met_length)) in omega (arith, one, z)
      by_mark (inr h) z = h (sym (ap (λ l. mark_of l x) (was_met h)) ∙ z)

  pub met_done : (y : ModuleId) → mark_of (met marks x) y ≡ 2 → mark_of marks y ≡ 2
  met_done y two = by_mark (met_mark y)
    where
      by_mark : (mark_of (met marks x) y ≡ mark_of marks y) ⊎ ((mark_of (met marks x) y ≡ 1) × ((mark_of marks y ≡ 0) × (y.0 ≡ x.0))) → mark_of marks y ≡ 2
      by_mark (inl same) = sym same ∙ two
      by_mark (inr one) = absurd (omega (arith, one.0, two))

  pub met_undone : undone (met marks x) ≡ undone marks
  met_undone = by_mark (cases_eq (mark_of marks x) 0) (cases_lt x.0 (length marks))
    where
      by_mark : (mark_of marks x ≡ 0) ⊎ (mark_of marks x ≡ 0 → ⊥) → (x.0 < length marks) ⊎ (length marks ≤ x.0) → undone (met marks x) ≡ undone marks
      by_mark (inr h) within = ap undone (was_met h)
      by_mark (inl e) (inr past) = ap undone (was_blank e ∙ set_past marks x.0 1 past)
      by_mark (inl e) (inl within) =
          let a = set_undone marks x.0 1 within in
          let b : one_unless (eqb (get_or marks x.0 0) 2) ≡ 1 = ap (λ n. one_unless (eqb n 2)) e in
          let c = ap undone (was_blank e) in
          omega (arith, a, b, c)
