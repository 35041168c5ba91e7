-- Requests, records, and what joining one to the other makes. Assumes nothing.
use Rattle.std.specs.Prelude.{ℕ, Bool, cond, not, ◌&&◌, List, [], ◌∷◌, ◌++◌, length, Some, None, filter, Option}
use Rattle.std.specs.List.{list_any}
use Rattle.ids.specs.declared.numbers.NameId.{NameId}
use Rattle.ids.specs.declared.path_struct.Path.{Path}
use Rattle.ids.specs.Names.{default_name}
use Rattle.ids.specs.Paths.{names_of, default_path}
use Rattle.joining.specs.Covering.{covers, of_default}
use Rattle.joining.specs.declared.requests.Request.{Request}
use Rattle.joining.specs.declared.requests.Request.TheVariants.{Path as Ask, Star, Full}

-- what has been asked of a module: everything but `default`, everything, or the paths that are kept
pub data Record : Type 0 where
  star : Record
  full : Record
  kept : List Path → Record

-- at first no path is kept
abbrev pub nothing : Record
nothing = kept []

-- whether one of the paths passes a test
abbrev pub any : (Path → Bool) → List Path → Bool
any = list_any

-- whether one of the kept paths covers q
abbrev pub some_covers : List Path → List NameId → Bool
some_covers ps q = any (λ p. covers (names_of p) q) ps

-- whether one of the kept paths begins with `default`
abbrev pub some_of_default : List Path → Bool
some_of_default ps = any (λ p. of_default (names_of p)) ps

-- the path `default` itself, which only itself covers
abbrev pub default_names : List NameId
default_names = default_name ∷ []

-- the kept paths that p does not cover
abbrev pub uncovered : List NameId → List Path → List Path
uncovered p ps = filter (λ q. not (covers p (names_of q))) ps

-- the record after a request has joined it
abbrev pub joined : Record → Request → Record
joined full r = full
joined star (Ask p) = cond (of_default (names_of p)) full star
joined star Star = star
joined star Full = full
joined (kept ps) (Ask p) = cond (some_covers ps (names_of p)) (kept ps) (kept (uncovered (names_of p) ps ++ p ∷ []))
joined (kept ps) Star = cond (some_of_default ps) full star
joined (kept ps) Full = full

-- what of a request is new to the record, and is handed out
abbrev pub handed : Record → Request → Option Request
handed full r = None
handed star (Ask p) = cond (of_default (names_of p)) (Some (Ask default_path)) None
handed star Star = None
handed star Full = Some (Ask default_path)
handed (kept ps) (Ask p) = cond (some_covers ps (names_of p)) None (Some (Ask p))
handed (kept ps) Star = cond (some_of_default ps && not (some_covers ps default_names)) (Some Full) (Some Star)
handed (kept ps) Full = Some Full

-- a record joined to another: its requests one after another, kept paths in their order
abbrev pub joined_paths : Record → List Path → Record
joined_paths a [] = a
joined_paths a (p ∷ ps) = joined_paths (joined a (Ask p)) ps

abbrev pub joined_record : Record → Record → Record
joined_record a star = joined a Star
joined_record a full = joined a Full
joined_record a (kept ps) = joined_paths a ps

-- how many rows a record takes: one for each kept path
abbrev pub rows_in : Record → ℕ
rows_in star = 0
rows_in full = 0
rows_in (kept ps) = length ps
