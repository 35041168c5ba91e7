-- The limit of a path's names, and what stands behind its last one. Assumes nothing.
use Rattle.std.specs.Prelude.{ℕ, Bool, true, ◌&&◌, List, [], ◌∷◌, ◌==◌}
use Rattle.ids.specs.declared.numbers.NameId.{NameId}

-- the most names that a path can have: PATH_LIMIT of the code is the same number
abbrev pub limit : ℕ
limit = 8

-- name 0 is `default`
abbrev pub default_name : NameId
default_name = record { 0 = 0 }

-- name 1 is `prototype`
abbrev pub prototype_name : NameId
prototype_name = record { 0 = 1 }

-- nothing but name 0
abbrev pub blank : List NameId → Bool
blank [] = true
blank (n ∷ ns) = n.0 == 0 && blank ns
