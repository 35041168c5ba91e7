-- A list of outcomes goes into a sink until it stops. Assumes nothing.
use Rattle.std.specs.Prelude.{Bool, true, cond, List, [], ◌∷◌}

-- the rest goes on from a state, unless it has stopped
abbrev pub onward : {S : Type 0} → (S → S × Bool) → S × Bool → S × Bool
onward f s = cond s.1 (f s.0) s

-- what a list makes of a sink, and whether it goes on
abbrev pub feed : {S O : Type 0} → (S → O → S × Bool) → S → List O → S × Bool
feed after s [] = (s, true)
feed after s (o ∷ os) = onward (λ u. feed after u os) (after s o)
