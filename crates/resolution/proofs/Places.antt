-- Lists by place, and searches through them. Assumes nothing.
use Rattle.std.proofs.Common.{◌≡◌, ℕ, zero, suc, ◌+◌, ◌<◌, ◌≤◌, Bool, ◌||◌, List, [], ◌∷◌, length, drop, is_some, Option, Some, None, sym, refl, ap, ◌∙◌, add-one, arith}
use Rattle.std.proofs.lemmas.List.{drop_all}
use Rattle.std.proofs.lemmas.Bool.{false≢true}
use Rattle.std.specs.List.{slice_get, list_any, range_with_len}

-- the element at a place is the first of what is left there
pub drop_nth : {X : Type 0} (xs : List X) (i : ℕ) (x : X) → slice_get xs i ≡ Some x → drop i xs ≡ x ∷ drop (i + 1) xs
drop_nth [] i x h = absurd (false≢true (ap is_some h))
drop_nth (y ∷ xs) zero x h = let e : y ≡ x = cc in ap (λ z. z ∷ xs) e
drop_nth (y ∷ xs) (suc i) x h = rw add-one (rw add-one at (drop_nth xs i x h))

pub nth_none : {X : Type 0} (xs : List X) (i : ℕ) → slice_get xs i ≡ None → length xs ≤ i
nth_none [] i h = omega arith
nth_none (y ∷ xs) zero h = absurd (false≢true (sym (ap is_some h)))
nth_none (y ∷ xs) (suc i) h = let k = nth_none xs i h in omega arith

pub at : {X : Type 0} (i : ℕ) (xs : List X) → i < length xs → (x : X) × (slice_get xs i ≡ Some x)
at i [] h = absurd (omega arith)
at zero (x ∷ xs) h = (x, refl)
at (suc i) (x ∷ xs) h = at i xs (omega arith)

-- of each place of the list, and past it, the test is of what is there
pub any_place : {X : Type 0} (t : Option X → Bool) (xs : List X) (a k : ℕ) → a + k ≡ length xs → list_any (λ i. t (slice_get xs i)) (range_with_len a k) ≡ list_any (λ x. t (Some x)) (drop a xs)
any_place t xs a zero all = sym (ap (list_any (λ x. t (Some x))) (drop_all a xs (omega (arith, all))))
any_place t xs a (suc k) all =
    let here = at a xs (omega arith) in
    let rest = any_place t xs (a + 1) k (omega arith) in
    let cut = drop_nth xs a here.0 here.1 in
    ap (λ o. t o || list_any (λ i. t (slice_get xs i)) (range_with_len (a + 1) k)) here.1 ∙ ap (λ b. t (Some here.0) || b) rest ∙ sym (ap (list_any (λ x. t (Some x))) cut)
