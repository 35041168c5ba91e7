-- A list that is worked off while it grows: what it has at last. Assumes nothing.
use Rattle.std.specs.Prelude.{◌≡◌, ℕ, ◌<◌, Bool, false, cond, ◌||◌, ◌⊎◌, List, [], ◌∷◌, ◌++◌, Some}
use Rattle.std.specs.List.{slice_get, flat_map}
use Rattle.rules.specs.Members.{In}

-- what is reached from a start by giving
pub data Reach {A : Type 0} (start : List A) (gives : A → List A) : A → Type 0 where
  from_start : {x : A} → In x start → Reach start gives x
  from_one : {x y : A} → Reach start gives y → In x (gives y) → Reach start gives x

module _ {A : Type 0} (same : A → A → Bool) where
  abbrev pub among : List A → A → Bool
  among [] x = false
  among (y ∷ ys) x = same y x || among ys x

  -- what is not there is put last, one after another
  abbrev pub added : List A → List A → List A
  added rows [] = rows
  added rows (x ∷ xs) = added (cond (among rows x) rows (rows ++ x ∷ [])) xs

  -- the distinct elements of a list, in the order in which they first stand there
  abbrev pub distinct : List A → List A
  distinct xs = added [] xs

-- each row is in the start, or given by an earlier one
abbrev pub Supported : {A : Type 0} → List A → (A → List A) → List A → Type 0
Supported {A} start gives rows = (i : ℕ) (x : A) → slice_get rows i ≡ Some x → In x start ⊎ ((j : ℕ) × (y : A) × (j < i) × (slice_get rows j ≡ Some y) × In x (gives y))

-- no two rows are the same
abbrev pub Apart : {A : Type 0} → List A → Type 0
Apart {A} rows = (i j : ℕ) (x : A) → slice_get rows i ≡ Some x → slice_get rows j ≡ Some x → i ≡ j

-- the rows of a list that was worked off: the distinct elements of what the start and then the rows give, in turn, each
-- with its reason; they are distinct, and exactly what is reached
pub record Collected {A : Type 0} (same : A → A → Bool) (start : List A) (gives : A → List A) (rows : List A) : Type 0 where
  pub in_turn : rows ≡ distinct same (start ++ flat_map gives rows)
  pub supported : Supported start gives rows
  pub apart : Apart rows
  pub sound : (x : A) → In x rows → Reach start gives x
  pub complete : (x : A) → Reach start gives x → In x rows
