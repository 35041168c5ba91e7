-- Lists of outcomes that go into a sink part by part. Assumes nothing.
use Rattle.std.proofs.Common.{◌≡◌, ℕ, ◌+◌, ◌≤◌, Bool, true, false, List, [], ◌∷◌, ◌++◌, length, drop, is_ok, is_err, Some, Ok, Err, Result, sym, refl, ap, ◌∙◌}
use Rattle.std.proofs.lemmas.List.{drop_all}
use Rattle.std.specs.List.{slice_get, flat_map}
use Rattle.resolution.proofs.Places.{drop_nth}
use Rattle.rules.specs.Feeding.{onward, feed}

-- a result that is an error is not an answer
pub failed : {X Y : Type 0} (r : Result X Y) → is_err r ≡ true → is_ok r ≡ false
failed (Ok x) h = sym h
failed (Err y) h = refl

module _ {S O : Type 0} (after : S → O → S × Bool) where
  pub feed_append : (s : S) (xs ys : List O) → feed after s (xs ++ ys) ≡ onward (λ u. feed after u ys) (feed after s xs)
  feed_append s [] ys = refl
  feed_append s (x ∷ xs) ys = by_state (after s x) (λ u. feed_append u xs ys)
    where
      by_state : (a : S × Bool) → ((u : S) → feed after u (xs ++ ys) ≡ onward (λ v. feed after v ys) (feed after u xs)) → onward (λ u. feed after u (xs ++ ys)) a ≡ onward (λ v. feed after v ys) (onward (λ u. feed after u xs) a)
      by_state (u, true) rest = rest u
      by_state (u, false) rest = refl

  -- a part stops the sink
  pub feed_stops : (s u : S) (xs ys : List O) → (u, false) ≡ feed after s xs → (u, false) ≡ feed after s (xs ++ ys)
  feed_stops s u xs ys h = sym (feed_append s xs ys ∙ ap (onward (λ v. feed after v ys)) (sym h))

  -- a part goes in, and the rest goes on from there
  pub feed_goes : (s u : S) (xs ys : List O) → (u, true) ≡ feed after s xs → feed after u ys ≡ feed after s (xs ++ ys)
  feed_goes s u xs ys h = sym (feed_append s xs ys ∙ ap (onward (λ v. feed after v ys)) (sym h))

  -- the same of the elements of a list, one after another

  module _ {X : Type 0} (f : X → List O) (xs : List X) where
    pub each_stops : (s u : S) (i : ℕ) (x : X) → slice_get xs i ≡ Some x → (u, false) ≡ feed after s (f x) → (u, false) ≡ feed after s (flat_map f (drop i xs))
    each_stops s u i x at h = feed_stops s u (f x) (flat_map f (drop (i + 1) xs)) h ∙ sym (ap (λ l. feed after s (flat_map f l)) (drop_nth xs i x at))

    pub each_goes : (s u : S) (i : ℕ) (x : X) → slice_get xs i ≡ Some x → (u, true) ≡ feed after s (f x) → feed after u (flat_map f (drop (i + 1) xs)) ≡ feed after s (flat_map f (drop i xs))
    each_goes s u i x at h = feed_goes s u (f x) (flat_map f (drop (i + 1) xs)) h ∙ sym (ap (λ l. feed after s (flat_map f l)) (drop_nth xs i x at))

    pub each_ends : (s : S) (i : ℕ) → length xs ≤ i → feed after s (flat_map f (drop i xs)) ≡ (s, true)
    each_ends s i past = ap (λ l. feed after s (flat_map f l)) (drop_all i xs past)
