-- What a table of records tells, and how a call changes it. Assumes nothing.
use Rattle.std.specs.Prelude.{◌≡◌, ℕ, ◌+◌, ◌-◌, cond, length, Some, None, Ok, Err, vec_items, vec_len, Option, Result, ◌≢◌, nat_le, nat_lt, slice_index_or}
use Rattle.ids.specs.declared.numbers.ModuleId.{ModuleId}
use Rattle.joining.specs.Joining.{Record, joined, handed, joined_record, nothing, rows_in}
use Rattle.joining.specs.Laws.{Lawful, CoversBoth}
use Rattle.joining.specs.Refusals.{number}
use Rattle.joining.specs.Rows.{paths_of, record_at, Antichain}
use Rattle.joining.specs.Wanted.{rows_wanted}
use Rattle.joining.specs.declared.records_struct.Records.{Records}
use Rattle.joining.specs.declared.refusals.Refusal.{Refusal}
use Rattle.joining.specs.declared.rows.Extent.{Extent}
use Rattle.joining.specs.declared.rows.Extent.TheVariants.{Paths}
use Rattle.joining.specs.declared.requests.Request.{Request}

-- how many modules the table has records for
abbrev pub modules : Records → ℕ
modules t = vec_len t.extents

-- how many of its rows are used
abbrev pub used : Records → ℕ
used t = vec_len t.rows

-- how far the record of a module goes; past the last module no path is kept
abbrev pub extent_of : Records → ModuleId → Extent
extent_of t m = slice_index_or (vec_items t.extents) m.0 Paths

-- the record of a module
abbrev pub record_of : Records → ModuleId → Record
record_of t m = record_at (vec_items t.extents) (vec_items t.rows) m

-- a new table: nothing has been asked of any module, and no row is used
pub record Fresh (size limit : ℕ) (t : Records) : Type 0 where
  pub modules_are : modules t ≡ size
  pub limit_is : t.limit ≡ limit
  pub none_used : used t ≡ 0
  pub nothing_asked : (m : ModuleId) → record_of t m ≡ nothing

-- how many rows are used for a module
abbrev pub kept_rows : Records → ModuleId → ℕ
kept_rows t m = length (paths_of m (vec_items t.rows))

-- after is before, but that the record of m is now rec
pub record Changes (before after : Records) (m : ModuleId) (rec : Record) : Type 0 where
  pub here : record_of after m ≡ rec
  pub others : (n : ModuleId) → (n.0 ≢ m.0) → record_of after n ≡ record_of before n
  pub modules_stay : modules after ≡ modules before
  pub limit_stays : after.limit ≡ before.limit
  -- the rows of the old record are free, and those of the new one are used
  pub rows_follow : used after + rows_in (record_of before m) ≡ used before + rows_in rec

-- the number of the refusal that a wish for rows of module m meets, if any
abbrev pub refusal : Records → ModuleId → ℕ → Option ℕ
refusal t m rows = cond (nat_lt m.0 (modules t)) (cond (nat_le rows (t.limit - used t)) None (Some 9)) (Some 1)

-- what comes of joining r to the record of m: what is new of it is handed out, and kept paths never cover one another
abbrev pub Joins : Records → Records → ModuleId → Request → Result (Option Request) Refusal → Type 0
Joins before after m r (Ok out) =
    (refusal before m (rows_wanted r) ≡ None) × (out ≡ handed (record_of before m) r) × Changes before after m (joined (record_of before m) r) × Lawful (record_of before m) r × Antichain (vec_items after.rows)
Joins before after m r (Err e) = (refusal before m (rows_wanted r) ≡ Some (number e)) × (after ≡ before)

-- what comes of joining the record that `from` has of m
abbrev pub JoinsRecord : Records → Records → ModuleId → Records → Result Unit Refusal → Type 0
JoinsRecord before after m from (Ok done) =
    (refusal before m (kept_rows from m) ≡ None) × Changes before after m (joined_record (record_of before m) (record_of from m)) × CoversBoth (record_of before m) (record_of from m) × Antichain (vec_items after.rows)
JoinsRecord before after m from (Err e) = (refusal before m (kept_rows from m) ≡ Some (number e)) × (after ≡ before)

-- what comes of forgetting what was asked of m
abbrev pub Clears : Records → Records → ModuleId → Result Unit Refusal → Type 0
Clears before after m (Ok done) = (refusal before m 0 ≡ None) × Changes before after m nothing
Clears before after m (Err e) = (refusal before m 0 ≡ Some (number e)) × (after ≡ before)
