-- A test that holds of more and more numbers below n stops growing after at most n steps. Assumes nothing.
use Rattle.std.proofs.Common.{◌≡◌, ℕ, zero, suc, ◌+◌, ◌<◌, ◌≤◌, Bool, true, false, cond, ◌⊎◌, sym, refl, ◌∙◌, inl, inr, arith}
use Rattle.std.proofs.lemmas.Bool.{true≢false, cases_eq}

-- of how many numbers below n a test does not hold
failing : (ℕ → Bool) → ℕ → ℕ
failing t zero = 0
failing t (suc n) = cond (t n) (failing t n) (suc (failing t n))

failing_few : (t : ℕ → Bool) (n : ℕ) → failing t n ≤ n
unfolding failing
failing_few t zero = omega arith
failing_few t (suc n) = by_test (failing_few t n) (t n)
  where
    by_test : failing t n ≤ n → (b : Bool) → cond b (failing t n) (suc (failing t n)) ≤ suc n
    by_test h true = omega arith
    by_test h false = omega arith

failing_fewer : (t u : ℕ → Bool) (n : ℕ) → ((x : ℕ) → x < n → t x ≡ true → u x ≡ true) → failing u n ≤ failing t n
unfolding failing
failing_fewer t u zero grows = omega arith
failing_fewer t u (suc n) grows = by_tests (failing_fewer t u n (λ x h. grows x (omega arith))) (t n) (u n) (grows n (omega arith))
  where
    by_tests : failing u n ≤ failing t n → (a b : Bool) → (a ≡ true → b ≡ true) → cond b (failing u n) (suc (failing u n)) ≤ cond a (failing t n) (suc (failing t n))
    by_tests rest true true h = rest
    by_tests rest true false h = absurd (true≢false (sym (h refl)))
    by_tests rest false true h = omega arith
    by_tests rest false false h = omega arith

-- where the test comes to hold of one more, fewer fail
failing_less : (t u : ℕ → Bool) (n x : ℕ) → ((y : ℕ) → y < n → t y ≡ true → u y ≡ true) → x < n → t x ≡ false → u x ≡ true → failing u n < failing t n
unfolding failing
failing_less t u zero x grows inside was is = absurd (omega arith)
failing_less t u (suc n) x grows inside was is = by_place (cases_eq x n) (failing_less t u n x (λ y h. grows y (omega arith)))
  where
    grown : failing u n ≤ failing t n
    grown = failing_fewer t u n (λ y h. grows y (omega arith))

    last : (a b : Bool) → a ≡ false → b ≡ true → cond b (failing u n) (suc (failing u n)) < cond a (failing t n) (suc (failing t n))
    last true b w i = absurd (true≢false w)
    last false true w i = omega (arith, grown)
    last false false w i = absurd (true≢false (sym i))

    earlier : failing u n < failing t n → (a b : Bool) → (a ≡ true → b ≡ true) → cond b (failing u n) (suc (failing u n)) < cond a (failing t n) (suc (failing t n))
    earlier rest true true h = rest
    earlier rest true false h = absurd (true≢false (sym (h refl)))
    earlier rest false true h = omega arith
    earlier rest false false h = omega arith

    by_place : (x ≡ n) ⊎ (x ≡ n → ⊥) → (x < n → t x ≡ false → u x ≡ true → failing u n < failing t n) → cond (u n) (failing u n) (suc (failing u n)) < cond (t n) (failing t n) (suc (failing t n))
    by_place (inl e) rest = last (t n) (u n) (sym (ap' t e) ∙ was) (sym (ap' u e) ∙ is)
      where
        ap' : (g : ℕ → Bool) → {a b : ℕ} → a ≡ b → g a ≡ g b
        ap' g {a} {b} e' = cc
    by_place (inr other) rest = earlier (rest (omega arith) was is) (t n) (u n) (grows n (omega arith))

-- nothing below n is new, or something is
abbrev Settled : (ℕ → Bool) → (ℕ → Bool) → ℕ → Type 0
Settled t u n = (x : ℕ) → x < n → u x ≡ true → t x ≡ true

settled_or : (t u : ℕ → Bool) (n : ℕ) → Settled t u n ⊎ ((x : ℕ) × (x < n) × (t x ≡ false) × (u x ≡ true))
settled_or t u zero = inl (λ x h e. absurd (omega arith))
settled_or t u (suc n) = by_rest (settled_or t u n)
  where
    by_last : Settled t u n → (a b : Bool) → t n ≡ a → u n ≡ b → Settled t u (suc n) ⊎ ((x : ℕ) × (x < suc n) × (t x ≡ false) × (u x ≡ true))
    by_last below true b ta ub = inl (λ x h e. elim (cases_eq x n) [ inl s ↦ cc | inr other ↦ below x (omega arith) e ])
    by_last below false true ta ub = inr (n, omega arith, ta, ub)
    by_last below false false ta ub = inl (λ x h e. elim (cases_eq x n) [ inl s ↦ absurd (true≢false (let z : u x ≡ false = cc in sym e ∙ z)) | inr other ↦ below x (omega arith) e ])

    by_rest : Settled t u n ⊎ ((x : ℕ) × (x < n) × (t x ≡ false) × (u x ≡ true)) → Settled t u (suc n) ⊎ ((x : ℕ) × (x < suc n) × (t x ≡ false) × (u x ≡ true))
    by_rest (inl below) = by_last below (t n) (u n) refl refl
    by_rest (inr new) = inr (new.0, omega (arith, new.1), new.2, new.3)

-- a growing family of tests settles
module _ (t : ℕ → ℕ → Bool) (n : ℕ) (grows : (k x : ℕ) → x < n → t k x ≡ true → t (suc k) x ≡ true) where
  settles_from : (g k : ℕ) → failing (t k) n ≤ g → (j : ℕ) × (j ≤ k + g) × Settled (t j) (t (suc j)) n
  settles_from zero k few = (k, omega arith, elim (settled_or (t k) (t (suc k)) n) [ inl s ↦ s | inr new ↦ absurd (omega (arith, failing_less (t k) (t (suc k)) n new.0 (grows k) new.1 new.2 new.3)) ])
  settles_from (suc g) k few = by_case (settled_or (t k) (t (suc k)) n) (settles_from g (suc k))
    where
      by_case : Settled (t k) (t (suc k)) n ⊎ ((x : ℕ) × (x < n) × (t k x ≡ false) × (t (suc k) x ≡ true)) → (failing (t (suc k)) n ≤ g → (j : ℕ) × (j ≤ suc k + g) × Settled (t j) (t (suc j)) n) → (j : ℕ) × (j ≤ k + suc g) × Settled (t j) (t (suc j)) n
      by_case (inl s) rest = (k, omega arith, s)
      by_case (inr new) rest =
          let r = rest (omega (arith, failing_less (t k) (t (suc k)) n new.0 (grows k) new.1 new.2 new.3)) in
          (r.0, omega (arith, r.1), r.2)

  pub settles : (j : ℕ) × (j ≤ n) × Settled (t j) (t (suc j)) n
  settles = let r = settles_from n 0 (failing_few (t 0) n) in (r.0, omega (arith, r.1), r.2)
