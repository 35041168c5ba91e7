-- Which paths a path covers. Assumes nothing.
use Rattle.std.specs.Prelude.{◌≡◌, Bool, true, false, ◌&&◌, List, [], ◌∷◌, ◌++◌, ◌==◌}
use Rattle.ids.specs.declared.numbers.NameId.{NameId}

-- whether the first path covers the second: equal first names, and then the rest covers the rest. No name at all covers everything
abbrev pub covers : List NameId → List NameId → Bool
covers [] q = true
covers (f ∷ p) [] = false
covers (f ∷ p) (g ∷ q) = f.0 == g.0 && covers p q

-- the second path is the first and something after it
abbrev pub Front : List NameId → List NameId → Type 0
Front p q = (rest : List NameId) × (q ≡ p ++ rest)

-- whether a path begins with the name `default`
abbrev pub of_default : List NameId → Bool
of_default [] = false
of_default (n ∷ ns) = n.0 == 0
