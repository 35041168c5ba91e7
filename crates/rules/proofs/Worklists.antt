-- A list that was worked off has exactly what is reached. Assumes nothing.
use Rattle.std.proofs.Common.{◌≡◌, ℕ, zero, suc, ◌<◌, ◌≤◌, Bool, true, false, cond, ◌⊎◌, List, [], ◌∷◌, ◌++◌, length, is_some, Some, Decides, sym, refl, ap, ◌∙◌, subst, inl, inr, append_assoc, append-nil, arith, length-append}
use Rattle.std.proofs.lemmas.Bool.{or_cases, or_left, or_right, true≢false, false≢true}
use Rattle.std.specs.List.{slice_get, flat_map}
use Rattle.rules.specs.Members.{In, first, later}
use Rattle.rules.specs.Rules.{Among}
use Rattle.rules.specs.Worklist.{Reach, from_start, from_one, among, added, distinct, Supported, Apart, Collected}
use Rattle.rules.proofs.Membership.{in_left, in_right, in_either, in_one, to_each}

in_place : {A : Type 0} {x : A} {xs : List A} → In x xs → Among xs x
in_place (first e) = (zero, ap Some (sym e))
in_place (later h) = let r = in_place h in (suc r.0, r.1)

place_in : {A : Type 0} (xs : List A) (i : ℕ) (x : A) → slice_get xs i ≡ Some x → In x xs
place_in [] i x h = absurd (true≢false (ap is_some (sym h)))
place_in (y ∷ xs) zero x h = let e : x ≡ y = cc in first e
place_in (y ∷ xs) (suc i) x h = later (place_in xs i x h)

nth_front : {A : Type 0} (xs ys : List A) (i : ℕ) (x : A) → slice_get xs i ≡ Some x → slice_get (xs ++ ys) i ≡ Some x
nth_front [] ys i x h = absurd (true≢false (ap is_some (sym h)))
nth_front (y ∷ xs) ys zero x h = h
nth_front (y ∷ xs) ys (suc i) x h = nth_front xs ys i x h

-- what stands at a place of a list with one more at its end
nth_last : {A : Type 0} (xs : List A) (z : A) (i : ℕ) (x : A) → slice_get (xs ++ z ∷ []) i ≡ Some x → (slice_get xs i ≡ Some x) ⊎ ((i ≡ length xs) × (x ≡ z))
nth_last [] z zero x h = let e : x ≡ z = cc in inr (refl, e)
nth_last [] z (suc i) x h = absurd (true≢false (ap is_some (sym h)))
nth_last (y ∷ xs) z zero x h = inl h
nth_last (y ∷ xs) z (suc i) x h = elim (nth_last xs z i x h) [ inl old ↦ inl old | inr new ↦ inr (ap suc new.0, new.1) ]

module _ {A : Type 0} (same : A → A → Bool) (lawful : (x y : A) → Decides (same x y) (x ≡ y)) where
  among_in : (rows : List A) (x : A) → among same rows x ≡ true → In x rows
  among_in [] x h = absurd (false≢true h)
  among_in (y ∷ rows) x h = by_case (or_cases (same y x) (among same rows x) h) (among_in rows x)
    where
      by_case : (same y x ≡ true) ⊎ (among same rows x ≡ true) → (among same rows x ≡ true → In x rows) → In x (y ∷ rows)
      by_case (inl e) rest = first (sym ((lawful y x).0 e))
      by_case (inr r) rest = later (rest r)

  in_among : (rows : List A) {x : A} → In x rows → among same rows x ≡ true
  in_among [] h = elim h [ ]
  in_among (y ∷ rows) {x} (first e) = or_left (same y x) (among same rows x) ((lawful y x).1 (sym e))
  in_among (y ∷ rows) {x} (later h) = or_right (same y x) (among same rows x) (in_among rows h)

  -- adding keeps the rows as they are, in front
  pub added_front : (rows xs : List A) → (more : List A) × (added same rows xs ≡ rows ++ more)
  added_front rows [] = ([], sym (append-nil rows))
  added_front rows (x ∷ xs) = by_test (among same rows x) (added_front rows xs) (added_front (rows ++ x ∷ []) xs)
    where
      by_test : (b : Bool) → (more : List A) × (added same rows xs ≡ rows ++ more) → (more : List A) × (added same (rows ++ x ∷ []) xs ≡ (rows ++ x ∷ []) ++ more) → (more : List A) × (added same (cond b rows (rows ++ x ∷ [])) xs ≡ rows ++ more)
      by_test true old new = old
      by_test false old new = (x ∷ new.0, new.1 ∙ append_assoc rows (x ∷ []) new.0)

  pub added_kept : (rows xs : List A) {x : A} → In x rows → In x (added same rows xs)
  added_kept rows xs {x} h = let f = added_front rows xs in subst (λ l. In x l) (sym f.1) (in_left f.0 h)

  pub added_has : (rows xs : List A) {x : A} → In x xs → In x (added same rows xs)
  added_has rows [] h = elim h [ ]
  added_has rows (y ∷ xs) {x} (first e) = added_kept (cond (among same rows y) rows (rows ++ y ∷ [])) xs (by_test (among same rows y) refl)
    where
      by_test : (b : Bool) → among same rows y ≡ b → In x (cond b rows (rows ++ y ∷ []))
      by_test true is = subst (λ u. In u rows) (sym e) (among_in rows y is)
      by_test false is = in_right rows (first e)
  added_has rows (y ∷ xs) (later h) = added_has (cond (among same rows y) rows (rows ++ y ∷ [])) xs h

  pub added_from : (rows xs : List A) {x : A} → In x (added same rows xs) → In x rows ⊎ In x xs
  added_from rows [] h = inl h
  added_from rows (y ∷ xs) {x} h = by_case (added_from (cond (among same rows y) rows (rows ++ y ∷ [])) xs h) (among same rows y) refl
    where
      by_case : In x (cond (among same rows y) rows (rows ++ y ∷ [])) ⊎ In x xs → (b : Bool) → among same rows y ≡ b → In x rows ⊎ In x (y ∷ xs)
      by_case (inr r) b is = inr (later r)
      by_case (inl l) b is = by_test b (subst (λ u. In x (cond u rows (rows ++ y ∷ []))) is l)
        where
          by_test : (c : Bool) → In x (cond c rows (rows ++ y ∷ [])) → In x rows ⊎ In x (y ∷ xs)
          by_test true k = inl k
          by_test false k = elim (in_either rows k) [ inl old ↦ inl old | inr new ↦ inr (first (in_one new)) ]

  pub added_both : (rows xs ys : List A) → added same rows (xs ++ ys) ≡ added same (added same rows xs) ys
  added_both rows [] ys = refl
  added_both rows (x ∷ xs) ys = added_both (cond (among same rows x) rows (rows ++ x ∷ [])) xs ys

  pub added_apart : (rows xs : List A) → Apart rows → Apart (added same rows xs)
  added_apart rows [] h = h
  added_apart rows (x ∷ xs) h = added_apart (cond (among same rows x) rows (rows ++ x ∷ [])) xs (by_test (among same rows x) refl)
    where
      new_apart : among same rows x ≡ false → Apart (rows ++ x ∷ [])
      new_apart is i j y a b = by_places (nth_last rows x i y a) (nth_last rows x j y b)
        where
          by_places : (slice_get rows i ≡ Some y) ⊎ ((i ≡ length rows) × (y ≡ x)) → (slice_get rows j ≡ Some y) ⊎ ((j ≡ length rows) × (y ≡ x)) → i ≡ j
          by_places (inl p) (inl q) = h i j y p q
          by_places (inl p) (inr q) = absurd (true≢false (sym (in_among rows (subst (λ u. In u rows) q.1 (place_in rows i y p))) ∙ is))
          by_places (inr p) (inl q) = absurd (true≢false (sym (in_among rows (subst (λ u. In u rows) p.1 (place_in rows j y q))) ∙ is))
          by_places (inr p) (inr q) = p.0 ∙ sym q.0

      by_test : (b : Bool) → among same rows x ≡ b → Apart (cond b rows (rows ++ x ∷ []))
      by_test true is = h
      by_test false is = new_apart is

  -- adding what has a reason keeps reasons
  pub added_reasons : (R : ℕ → A → Type 0) (rows xs : List A) → ((i : ℕ) (x : A) → slice_get rows i ≡ Some x → R i x) → ((i : ℕ) (x : A) → length rows ≤ i → In x xs → R i x) → (i : ℕ) (x : A) → slice_get (added same rows xs) i ≡ Some x → R i x
  added_reasons R rows [] old new = old
  added_reasons R rows (y ∷ xs) old new = by_test (among same rows y) (added_reasons R rows xs old (λ i x far h. new i x far (later h))) (added_reasons R (rows ++ y ∷ []) xs with_last (λ i x far h. new i x (omega (arith, far, length-append rows (y ∷ []))) (later h)))
    where
      with_last : (i : ℕ) (x : A) → slice_get (rows ++ y ∷ []) i ≡ Some x → R i x
      with_last i x h = elim (nth_last rows y i x h) [ inl p ↦ old i x p | inr q ↦ new i x (omega (arith, q.0)) (first q.1) ]

      by_test : (b : Bool) → ((i : ℕ) (x : A) → slice_get (added same rows xs) i ≡ Some x → R i x) → ((i : ℕ) (x : A) → slice_get (added same (rows ++ y ∷ []) xs) i ≡ Some x → R i x) → (i : ℕ) (x : A) → slice_get (added same (cond b rows (rows ++ y ∷ [])) xs) i ≡ Some x → R i x
      by_test true a b = a
      by_test false a b = b

  module _ (start : List A) (gives : A → List A) where
    sound_at : (rows : List A) → Supported start gives rows → (g i : ℕ) (x : A) → i ≤ g → slice_get rows i ≡ Some x → Reach start gives x
    sound_at rows why zero i x few at = elim (why i x at) [ inl s ↦ from_start s | inr e ↦ absurd (omega (arith, e.2)) ]
    sound_at rows why (suc g) i x few at = by_why (why i x at) (sound_at rows why g)
      where
        by_why : In x start ⊎ ((j : ℕ) × (y : A) × (j < i) × (slice_get rows j ≡ Some y) × In x (gives y)) → ((j : ℕ) (y : A) → j ≤ g → slice_get rows j ≡ Some y → Reach start gives y) → Reach start gives x
        by_why (inl s) below = from_start s
        by_why (inr e) below = from_one (below e.0 e.1 (omega (arith, e.2)) e.3) e.4

    complete_by : (rows : List A) → rows ≡ distinct same (start ++ flat_map gives rows) → {x : A} → Reach start gives x → In x rows
    complete_by rows turn {x} (from_start h) = subst (λ l. In x l) (sym turn) (added_has [] (start ++ flat_map gives rows) (in_left (flat_map gives rows) h))
    complete_by rows turn {x} (from_one {y = y} r h) = subst (λ l. In x l) (sym turn) (added_has [] (start ++ flat_map gives rows) (in_right start (to_each gives rows y (in_place (complete_by rows turn r)) h)))

    -- rows in turn, each with its reason, are exactly what is reached
    pub collected : (rows : List A) → rows ≡ distinct same (start ++ flat_map gives rows) → Supported start gives rows → Collected same start gives rows
    collected rows turn why = record {
      in_turn = turn;
      supported = why;
      apart = subst Apart (sym turn) (added_apart [] (start ++ flat_map gives rows) (λ i j x a b. absurd (true≢false (ap is_some (sym a)))));
      sound = λ x h. let at = in_place h in sound_at rows why at.0 at.0 x (omega arith) at.1;
      complete = λ x r. complete_by rows turn r;
    }
