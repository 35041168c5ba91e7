-- Lemmas on the last element of a list.
use Rattle.std.proofs.Common.{◌≡◌, ℕ, ◌+◌, ◌-◌, ◌<◌, List, [], ◌∷◌, ◌++◌, map, length, get_or, take, set, Some, None, Ok, Err, Option, Result, sym, refl, ap, ◌∙◌, subst, ⊎_elim, arith}
use Rattle.std.specs.Option.{option_map}
use Rattle.std.proofs.lemmas.List.{take_all, take_more, take_more_set, length-set, map_push}
use Rattle.words.specs.declared.faults.Unread.TheVariants.{Of, NoMemory}
use Rattle.record_text.specs.Faults.{Unplaced}
use Rattle.record_text.specs.declared.faults.Expected.{Expected}
use Rattle.record_text.specs.Placing.{on_last, Adds, LastChanged}

-- the change of the last element
on_last_push : {X : Type 0} (f : X → Option X) (xs : List X) (x : X) → on_last f (xs ++ x ∷ []) ≡ option_map (λ y. xs ++ y ∷ []) (f x)
on_last_push f [] x = refl
on_last_push f (w ∷ []) x = elim (f x) as (λ o. option_map (λ zs. w ∷ zs) (option_map (λ y. y ∷ []) o) ≡ option_map (λ y. w ∷ y ∷ []) o) [ None ↦ refl | Some y ↦ refl ]
on_last_push f (w ∷ v ∷ xs) x =
    ap (option_map (λ zs. w ∷ zs)) (on_last_push f (v ∷ xs) x)
    ∙ elim (f x) as (λ o. option_map (λ zs. w ∷ zs) (option_map (λ y. v ∷ (xs ++ y ∷ [])) o) ≡ option_map (λ y. w ∷ v ∷ (xs ++ y ∷ [])) o) [ None ↦ refl | Some y ↦ refl ]

-- a list with its last element apart
pub last_apart : {X : Type 0} (xs : List X) (n : ℕ) (x : X) → n ≡ length xs → 0 < n → x ≡ get_or xs (n - 1) x → xs ≡ take (n - 1) xs ++ x ∷ []
last_apart xs n x len some e =
    sym (take_all (n - 1 + 1) xs (omega arith)) ∙ take_more xs (n - 1) x (omega arith) ∙ ap (λ y. take (n - 1) xs ++ y ∷ []) (sym e)

pub last_set : {X : Type 0} (xs : List X) (n : ℕ) (y : X) → n ≡ length xs → 0 < n → set xs (n - 1) y ≡ take (n - 1) xs ++ y ∷ []
last_set xs n y len some =
    sym (take_all (n - 1 + 1) (set xs (n - 1) y) (omega (arith, length-set xs (n - 1) y))) ∙ take_more_set xs (n - 1) y (omega arith)

adds_last : {X Y : Type 0} (of : X → Y) (f : Y → Option Y) (front : List X) (x y : X) (r : Result (Unit {0}) Unplaced) → Adds f (of x) (of y) r → Adds (on_last f) (map of (front ++ x ∷ [])) (map of (front ++ y ∷ [])) r
adds_last of f front x y (Ok u) h =
    ap (on_last f) (map_push of front x) ∙ on_last_push f (map of front) (of x) ∙ ap (option_map (λ z. map of front ++ z ∷ [])) h ∙ ap Some (sym (map_push of front y))
adds_last of f front x y (Err (Of e)) h = ap (on_last f) (map_push of front x) ∙ on_last_push f (map of front) (of x) ∙ ap (option_map (λ z. map of front ++ z ∷ [])) h
adds_last of f front x y (Err NoMemory) h = tt

-- what comes of the change of the last element is what comes of the change of the list
pub adds_on_last : {X Y : Type 0} (of : X → Y) (f : Y → Option Y) (C : X → Result (Unit {0}) Unplaced → X → Type 0) (xs ys : List X) (r : Result (Unit {0}) Unplaced) → LastChanged C xs ys r → ((x : X) (s : Result (Unit {0}) Unplaced) (y : X) → C x s y → Adds f (of x) (of y) s) → Adds (on_last f) (map of xs) (map of ys) r
adds_on_last {X} {Y} of f C xs ys r changed each =
    ⊎_elim
    (λ (h : (xs ≡ []) × (ys ≡ []) × ((e : Expected) × (r ≡ Err (Of e)))). subst (Adds (on_last f) (map of xs) (map of ys)) (sym h.2.1) (ap (λ zs. on_last f (map of zs)) h.0))
    (λ (h : (front : List X) × (x : X) × (y : X) × (xs ≡ front ++ x ∷ []) × (ys ≡ front ++ y ∷ []) × C x r y).
    subst (λ (zs : List X). Adds (on_last f) (map of zs) (map of ys) r) (sym h.3)
    (subst (λ (zs : List X). Adds (on_last f) (map of (h.0 ++ h.1 ∷ [])) (map of zs) r) (sym h.4) (adds_last of f h.0 h.1 h.2 r (each h.1 r h.2 h.5))))
    changed.outcome
