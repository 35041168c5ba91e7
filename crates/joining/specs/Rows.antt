-- The rows of a table of records, and which record they tell of each module. Assumes nothing.
use Rattle.std.specs.Prelude.{◌≡◌, ℕ, ◌<◌, Bool, true, false, not, ◌&&◌, ◌||◌, List, [], ◌∷◌, length, get_or, map, filter, Some, None, Option, ◌==◌, ◌≢◌, slice_index_or}
use Rattle.std.specs.List.{slice_get}
use Rattle.ids.specs.declared.numbers.ModuleId.{ModuleId}
use Rattle.ids.specs.declared.numbers.NameId.{NameId}
use Rattle.ids.specs.declared.path_struct.Path.{Path}
use Rattle.ids.specs.Paths.{names_of}
use Rattle.joining.specs.Covering.{covers}
use Rattle.joining.specs.Joining.{Record, star, full, kept}
use Rattle.joining.specs.declared.rows.Extent.{Extent}
use Rattle.joining.specs.declared.rows.Extent.TheVariants.{Paths, Star, Full}
use Rattle.joining.specs.declared.rows.Row.{Row}

abbrev pub of_module : ModuleId → Row → Bool
of_module m row = row.module.0 == m.0

-- the paths of a module's rows, in their order
abbrev pub paths_of : ModuleId → List Row → List Path
paths_of m rows = map (λ row. row.path) (filter (of_module m) rows)

-- whether a row outlasts the removal of what `front` covers of a module
abbrev pub stays : ModuleId → List NameId → Row → Bool
stays m front row = not (of_module m row && covers front (names_of row.path))

-- whether two rows are of one module, and the path of one covers that of the other
abbrev pub clash : Row → Row → Bool
clash a b = a.module.0 == b.module.0 && (covers (names_of a.path) (names_of b.path) || covers (names_of b.path) (names_of a.path))

abbrev pub alone : Row → List Row → Bool
alone row [] = true
alone row (other ∷ rows) = not (clash row other) && alone row rows

-- whether no two rows clash
abbrev pub apart : List Row → Bool
apart [] = true
apart (row ∷ rows) = alone row rows && apart rows

abbrev pub keeps_paths : Option Extent → Bool
keeps_paths None = false
keeps_paths (Some Paths) = true
keeps_paths (Some Star) = false
keeps_paths (Some Full) = false

-- whether each row is of a module of the table whose record is kept paths
abbrev pub tidy : List Extent → List Row → Bool
tidy extents [] = true
tidy extents (row ∷ rows) = keeps_paths (slice_get extents row.module.0) && tidy extents rows

abbrev pub shaped : Extent → List Path → Record
shaped Paths ps = kept ps
shaped Star ps = star
shaped Full ps = full

-- the record of a module; past the last module it is that no path is kept
abbrev pub record_at : List Extent → List Row → ModuleId → Record
record_at extents rows m = shaped (slice_index_or extents m.0 Paths) (paths_of m rows)

-- no kept path of a module covers another one of it, whichever way round
abbrev pub Antichain : List Row → Type 0
Antichain rows =
    (i j : ℕ) (d : Row) → i < length rows → j < length rows → (i ≢ j) → (get_or rows i d).module.0 ≡ (get_or rows j d).module.0 → covers (names_of (get_or rows i d).path) (names_of (get_or rows j d).path) ≡ false
