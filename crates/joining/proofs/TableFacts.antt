-- How the rows and extents of a table tell its records, and what a change of them does. Assumes nothing.
use Rattle.std.proofs.Common.{◌≡◌, ℕ, ◌+◌, ◌<◌, ◌≤◌, true, false, not, List, [], ◌∷◌, ◌++◌, length, get_or, set, None, Ok, vec_items, vec_len, filter, Option, refl, ap, ◌∙◌, subst, arith, length-set}
use Rattle.std.proofs.lemmas.Bool.Decides.{nat_tests}
use Rattle.std.proofs.lemmas.Grind.{common_steps}
use Rattle.std.proofs.lemmas.Option.{gets, get_or_from_slice_get}
use Rattle.std.proofs.lemmas.List.{get_or-set_same, get_or-set_other, append-nil, length_push}
use Rattle.std.specs.List.{slice_get}
use Rattle.ids.specs.declared.numbers.ModuleId.{ModuleId}
use Rattle.ids.specs.declared.path_struct.Path.{Path}
use Rattle.ids.specs.Paths.{names_of}
use Rattle.joining.specs.Covering.{covers}
use Rattle.joining.specs.Joining.{Record, star, full, kept, some_covers, uncovered, joined, handed, joined_paths, joined_record, rows_in}
use Rattle.joining.specs.Rows.{paths_of, stays, tidy, shaped, record_at}
use Rattle.joining.specs.Tables.{modules, used, record_of, kept_rows, refusal, Changes, Joins, JoinsRecord}
use Rattle.joining.specs.Wanted.{rows_wanted}
use Rattle.joining.specs.declared.requests.Request.{Request}
use Rattle.joining.proofs.Lawfully.{lawful, covers_both}
use Rattle.joining.specs.declared.records_struct.Records.{Records}
use Rattle.joining.specs.declared.requests.Request.TheVariants.{Path as Ask}
use Rattle.joining.specs.declared.rows.Extent.{Extent}
use Rattle.joining.specs.declared.rows.Extent.TheVariants.{Paths}
use Rattle.joining.specs.declared.rows.Row.{Row}
use Rattle.joining.proofs.RowFacts.{antichain, paths_append, removed_here, removed_others, removed_length, kept_shorter}

-- a write leaves the other places of a list
nth_set_other : {X : Type 0} (xs : List X) (i j : ℕ) (x : X) → (j ≡ i → ⊥) → slice_get (set xs i x) j ≡ slice_get xs j
nth_set_other xs i j x other = grind (arith, common_steps, gets)

-- a module whose record is not kept paths has no rows

no_rows : (extents : List Extent) (rows : List Row) (m : ModuleId) → tidy extents rows ≡ true → (get_or extents m.0 Paths ≡ Paths → ⊥) → paths_of m rows ≡ []
no_rows extents [] m h other = refl
no_rows extents (row ∷ rows) m h other = grind (arith, nat_tests, no_rows extents rows m, get_or_from_slice_get extents row.module.0 Paths Paths)

pub rows_in_length : (extents : List Extent) (rows : List Row) (m : ModuleId) → tidy extents rows ≡ true → rows_in (record_at extents rows m) ≡ length (paths_of m rows)
rows_in_length extents rows m h = grind (arith, no_rows extents rows m h)

pub tidy_set : (extents : List Extent) (rows : List Row) (m : ModuleId) (to : Extent) → tidy extents rows ≡ true → paths_of m rows ≡ [] → tidy (set extents m.0 to) rows ≡ true
tidy_set extents [] m to h none = refl
tidy_set extents (row ∷ rows) m to h none = grind (arith, nat_tests, tidy_set extents rows m to, nth_set_other extents m.0 row.module.0 to)

-- all rows of a module are taken away

pub nothing_left : (ps : List Path) → uncovered [] ps ≡ []
nothing_left [] = refl
nothing_left (p ∷ ps) = nothing_left ps

module _ (extents : List Extent) (rows : List Row) (m : ModuleId) where
  abbrev cleared : List Row
  cleared = filter (stays m []) rows

  pub cleared_here : paths_of m cleared ≡ []
  cleared_here = removed_here m [] rows ∙ nothing_left (paths_of m rows)

  module _ (to : Extent) (within : m.0 < length extents) where
    pub reset_here : record_at (set extents m.0 to) cleared m ≡ shaped to []
    reset_here = grind (arith, cleared_here, get_or-set_same extents m.0 to Paths within)

    pub reset_others : (n : ModuleId) → (n.0 ≡ m.0 → ⊥) → record_at (set extents m.0 to) cleared n ≡ record_at extents rows n
    reset_others n other = grind (arith, removed_others m n [] rows other, get_or-set_other extents m.0 n.0 to Paths other)

    pub reset_rows : tidy extents rows ≡ true → length cleared + rows_in (record_at extents rows m) ≡ length rows + rows_in (shaped to [])
    reset_rows h = grind (arith, removed_length m [] rows, cleared_here, rows_in_length extents rows m h)

-- a path takes the place of those that it covers

module _ (extents : List Extent) (rows : List Row) (m : ModuleId) (p : Path) where
  abbrev pub new_row : Row
  new_row = record { «module» = m; path = p }

  abbrev pub replaced_rows : List Row
  replaced_rows = filter (stays m (names_of p)) rows ++ (new_row ∷ [])

  paths_here : paths_of m replaced_rows ≡ uncovered (names_of p) (paths_of m rows) ++ (p ∷ [])
  paths_here = grind (arith, nat_tests, paths_append m (filter (stays m (names_of p)) rows) (new_row ∷ []), removed_here m (names_of p) rows)

  paths_others : (n : ModuleId) → (n.0 ≡ m.0 → ⊥) → paths_of n replaced_rows ≡ paths_of n rows
  paths_others n other = grind (arith, nat_tests, append-nil, paths_append n (filter (stays m (names_of p)) rows) (new_row ∷ []), removed_others m n (names_of p) rows other)

  pub keep_others : (n : ModuleId) → (n.0 ≡ m.0 → ⊥) → record_at extents replaced_rows n ≡ record_at extents rows n
  keep_others n other = ap (λ ps. shaped (get_or extents n.0 Paths) ps) (paths_others n other)

  module _ (paths : get_or extents m.0 Paths ≡ Paths) (none : some_covers (paths_of m rows) (names_of p) ≡ false) where
    pub keep_here : record_at extents replaced_rows m ≡ joined (record_at extents rows m) (Ask p)
    keep_here = grind (arith, paths_here)

    pub keep_rows : length replaced_rows + rows_in (record_at extents rows m) ≡ length rows + rows_in (joined (record_at extents rows m) (Ask p))
    keep_rows = grind (arith, removed_length m (names_of p) rows, removed_here m (names_of p) rows, length_push (filter (stays m (names_of p)) rows) new_row, length_push (uncovered (names_of p) (paths_of m rows)) p)

-- the same of whole tables

within_extents : (t : Records) (m : ModuleId) → m.0 < modules t → m.0 < length (vec_items t.extents)
within_extents t m h = omega (arith, t.extents.ok.0)

pub reset_changes : (before after : Records) (m : ModuleId) (to : Extent) → m.0 < modules before → vec_items after.rows ≡ filter (stays m []) (vec_items before.rows) → vec_items after.extents ≡ set (vec_items before.extents) m.0 to → after.limit ≡ before.limit → Changes before after m (shaped to [])
reset_changes before after m to inside rows extents limit =
    let es = vec_items before.extents in
    let rs = vec_items before.rows in
    let within = within_extents before m inside in
    let same : (n : ModuleId) → record_of after n ≡ record_at (set es m.0 to) (filter (stays m []) rs) n = λ n. ap (λ e. record_at e (vec_items after.rows) n) extents ∙ ap (λ r. record_at (set es m.0 to) r n) rows in
    record {
      here = same m ∙ reset_here es rs m to within;
      others = λ n other. same n ∙ reset_others es rs m to within n other;
      modules_stay = omega (arith, after.extents.ok.0, before.extents.ok.0, ap length extents, length-set es m.0 to);
      limit_stays = limit;
      rows_follow = omega (arith, after.rows.ok.0, before.rows.ok.0, ap length rows, reset_rows es rs m to within before.tidy);
    }

pub keep_changes : (before after : Records) (m : ModuleId) (p : Path) → get_or (vec_items before.extents) m.0 Paths ≡ Paths → some_covers (paths_of m (vec_items before.rows)) (names_of p) ≡ false → vec_items after.rows ≡ replaced_rows (vec_items before.extents) (vec_items before.rows) m p → after.extents ≡ before.extents → after.limit ≡ before.limit → Changes before after m (joined (record_of before m) (Ask p))
keep_changes before after m p paths none rows extents limit =
    let es = vec_items before.extents in
    let rs = vec_items before.rows in
    let same : (n : ModuleId) → record_of after n ≡ record_at es (replaced_rows es rs m p) n = λ n. ap (λ e. record_at (vec_items e) (vec_items after.rows) n) extents ∙ ap (λ r. record_at es r n) rows in
    record {
      here = same m ∙ keep_here es rs m p paths none;
      others = λ n other. same n ∙ keep_others es rs m p n other;
      modules_stay = ap (λ e. vec_len e) extents;
      limit_stays = limit;
      rows_follow = omega (arith, after.rows.ok.0, before.rows.ok.0, ap length rows, keep_rows es rs m p paths none);
    }

-- one change after another
pub two_changes : {a b c : Records} {m : ModuleId} {first second : Record} → Changes a b m first → Changes b c m second → Changes a c m second
two_changes {a} {b} {c} {m} {first} {second} h k = record {
  here = k.here;
  others = λ n other. k.others n other ∙ h.others n other;
  modules_stay = k.modules_stay ∙ h.modules_stay;
  limit_stays = k.limit_stays ∙ h.limit_stays;
  rows_follow = omega (arith, h.rows_follow, k.rows_follow, ap rows_in h.here);
}

pub changes_to : {a b : Records} {m : ModuleId} {first second : Record} → first ≡ second → Changes a b m first → Changes a b m second
changes_to {a} {b} {m} same h = subst (λ r. Changes a b m r) same h

-- paths one after another

pub joined_push : (a : Record) (ps : List Path) (p : Path) → joined_paths a (ps ++ (p ∷ [])) ≡ joined (joined_paths a ps) (Ask p)
joined_push a [] p = refl
joined_push a (q ∷ ps) p = joined_push (joined a (Ask q)) ps p

-- a path takes one row at the most
pub one_row : (r : Record) (p : Path) → rows_in (joined r (Ask p)) ≤ rows_in r + 1
one_row star p = grind arith
one_row full p = omega arith
one_row (kept ps) p = grind (arith, length_push (uncovered (names_of p) ps) p, kept_shorter (λ q. not (covers (names_of p) (names_of q))) ps)

-- what the laws give of a call that is admitted

pub joins : (before after : Records) (m : ModuleId) (r : Request) (out : Option Request) → refusal before m (rows_wanted r) ≡ None → out ≡ handed (record_of before m) r → Changes before after m (joined (record_of before m) r) → Joins before after m r (Ok out)
joins before after m r out free is changes = (free, is, changes, lawful (record_of before m) r, antichain (vec_items after.rows) after.apart)

pub joins_record : (before after : Records) (m : ModuleId) (from : Records) → refusal before m (kept_rows from m) ≡ None → Changes before after m (joined_record (record_of before m) (record_of from m)) → JoinsRecord before after m from (Ok tt)
joins_record before after m from free changes = (free, changes, covers_both (record_of before m) (record_of from m), antichain (vec_items after.rows) after.apart)

-- what is not refused has its module and its rows
pub refusal_none : (t : Records) (m : ModuleId) (n : ℕ) → refusal t m n ≡ None → (m.0 < modules t) × (n + used t ≤ t.limit)
refusal_none t m n h = (grind (arith, nat_tests, h), grind (arith, nat_tests, h, t.few))
