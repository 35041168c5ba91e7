-- Facts on the rows of a table. Assumes nothing.
use Rattle.std.proofs.Common.{◌≡◌, ℕ, zero, suc, ◌+◌, ◌<◌, ◌≤◌, Bool, true, false, cond, not, ◌&&◌, ◌||◌, List, [], ◌∷◌, ◌++◌, length, get_or, take, drop, map, filter, refl, ap, arith}
use Rattle.std.proofs.lemmas.List.{drop_more, take_more, map-append}
use Rattle.std.proofs.lemmas.List.Elements.{filter-append}
use Rattle.std.proofs.lemmas.List.Filters.{length-filter_both}
use Rattle.std.specs.List.{list_any}
use Rattle.std.proofs.lemmas.Bool.Decides.{nat_tests}
use Rattle.std.specs.List.{slice_get}
use Rattle.ids.specs.declared.numbers.ModuleId.{ModuleId}
use Rattle.ids.specs.declared.numbers.NameId.{NameId}
use Rattle.ids.specs.declared.path_struct.Path.{Path}
use Rattle.ids.specs.Paths.{names_of}
use Rattle.joining.specs.Joining.{some_covers, uncovered}
use Rattle.joining.specs.Rows.{of_module, paths_of, stays, clash, alone, apart, keeps_paths, tidy, Antichain}
use Rattle.joining.specs.declared.rows.Extent.{Extent}
use Rattle.joining.specs.declared.rows.Row.{Row}

-- a search through the paths of rows is one through the rows
pub any_paths : (P : Path → Bool) (rows : List Row) → list_any (λ row. P row.path) rows ≡ list_any P (map (λ row. row.path) rows)
any_paths P [] = refl
any_paths P (row ∷ rows) = ap (λ b. P row.path || b) (any_paths P rows)

-- one row on

pub length_row : (m : ModuleId) (row : Row) (rows : List Row) → length (paths_of m (row ∷ rows)) ≡ cond (of_module m row) 1 0 + length (paths_of m rows)
length_row m row rows = grind arith

pub length_more : (m : ModuleId) (rows : List Row) (i : ℕ) (row : Row) → i < length rows → row ≡ get_or rows i row → length (paths_of m (drop i rows)) ≡ cond (of_module m row) 1 0 + length (paths_of m (drop (i + 1) rows))
length_more m rows i row within read = rw (drop_more rows i row within, ← read) (length_row m row (drop (i + 1) rows))

pub paths_append : (m : ModuleId) (rows more : List Row) → paths_of m (rows ++ more) ≡ paths_of m rows ++ paths_of m more
paths_append m rows more = simp (filter-append, map-append)

pub paths_more : (m : ModuleId) (rows : List Row) (i : ℕ) (row : Row) → i < length rows → row ≡ get_or rows i row → paths_of m (take (i + 1) rows) ≡ paths_of m (take i rows) ++ paths_of m (row ∷ [])
paths_more m rows i row within read = rw (take_more rows i row within, ← read) (paths_append m (take i rows) (row ∷ []))

-- the removal of what a front covers

pub removed_here : (m : ModuleId) (front : List NameId) (rows : List Row) → paths_of m (filter (stays m front) rows) ≡ uncovered front (paths_of m rows)
removed_here m front [] = refl
removed_here m front (row ∷ rows) = grind (arith, removed_here m front rows)

pub removed_others : (m n : ModuleId) (front : List NameId) (rows : List Row) → (n.0 ≡ m.0 → ⊥) → paths_of n (filter (stays m front) rows) ≡ paths_of n rows
removed_others m n front [] other = refl
removed_others m n front (row ∷ rows) other = grind (arith, nat_tests, removed_others m n front rows other)

pub removed_length : (m : ModuleId) (front : List NameId) (rows : List Row) → length (filter (stays m front) rows) + length (paths_of m rows) ≡ length rows + length (paths_of m (filter (stays m front) rows))
removed_length m front [] = refl
removed_length m front (row ∷ rows) = grind (arith, removed_length m front rows)

pub kept_shorter : {X : Type 0} (f : X → Bool) (xs : List X) → length (filter f xs) ≤ length xs
kept_shorter f xs = omega (arith, length-filter_both f (λ x. not (f x)) (λ x. refl) xs)

-- rows that are taken away leave the others apart and tidy

alone_kept : (f : Row → Bool) (row : Row) (rows : List Row) → alone row rows ≡ true → alone row (filter f rows) ≡ true
alone_kept f row [] h = refl
alone_kept f row (other ∷ rows) h = grind (arith, alone_kept f row rows)

pub apart_kept : (f : Row → Bool) (rows : List Row) → apart rows ≡ true → apart (filter f rows) ≡ true
apart_kept f [] h = refl
apart_kept f (row ∷ rows) h = grind (arith, alone_kept f row rows, apart_kept f rows)

pub tidy_kept : (f : Row → Bool) (extents : List Extent) (rows : List Row) → tidy extents rows ≡ true → tidy extents (filter f rows) ≡ true
tidy_kept f extents [] h = refl
tidy_kept f extents (row ∷ rows) h = grind (arith, tidy_kept f extents rows)

-- one row more

pub tidy_push : (extents : List Extent) (rows : List Row) (row : Row) → tidy extents rows ≡ true → keeps_paths (slice_get extents row.module.0) ≡ true → tidy extents (rows ++ (row ∷ [])) ≡ true
tidy_push extents [] row h k = grind arith
tidy_push extents (other ∷ rows) row h k = grind (arith, tidy_push extents rows row)

-- whether none of the rows clashes with a new one
abbrev pub clear_of : List Row → Row → Bool
clear_of [] row = true
clear_of (other ∷ rows) row = not (clash other row) && clear_of rows row

alone_push : (first : Row) (rows : List Row) (row : Row) → alone first rows ≡ true → not (clash first row) ≡ true → alone first (rows ++ (row ∷ [])) ≡ true
alone_push first [] row h k = grind arith
alone_push first (other ∷ rows) row h k = grind (arith, alone_push first rows row)

pub apart_push : (rows : List Row) (row : Row) → apart rows ≡ true → clear_of rows row ≡ true → apart (rows ++ (row ∷ [])) ≡ true
apart_push [] row h k = refl
apart_push (first ∷ rows) row h k = grind (arith, alone_push first rows row, apart_push rows row)

-- a path that no kept one covers clashes with none of those that it does not cover
pub clear_uncovered : (m : ModuleId) (p : Path) (rows : List Row) → some_covers (paths_of m rows) (names_of p) ≡ false → clear_of (filter (stays m (names_of p)) rows) record { «module» = m; path = p } ≡ true
clear_uncovered m p [] none = refl
clear_uncovered m p (row ∷ rows) none = grind (arith, clear_uncovered m p rows)

-- rows that are apart, by place

alone_place : (row : Row) (rows : List Row) (i : ℕ) (d : Row) → alone row rows ≡ true → i < length rows → clash row (get_or rows i d) ≡ false
alone_place row [] i d h within = absurd (omega arith)
alone_place row (other ∷ rows) zero d h within = grind arith
alone_place row (other ∷ rows) (suc i) d h within = grind (arith, alone_place row rows i d)

pub antichain : (rows : List Row) → apart rows ≡ true → Antichain rows
antichain [] h i j d wi wj other same = absurd (omega arith)
antichain (row ∷ rows) h zero zero d wi wj other same = absurd (other refl)
antichain (row ∷ rows) h zero (suc j) d wi wj other same = grind (arith, nat_tests, alone_place row rows j d)
antichain (row ∷ rows) h (suc i) zero d wi wj other same = grind (arith, nat_tests, alone_place row rows i d)
antichain (row ∷ rows) h (suc i) (suc j) d wi wj other same = antichain rows (grind arith) i j d (omega arith) (omega arith) (λ e. other (ap suc e)) same
