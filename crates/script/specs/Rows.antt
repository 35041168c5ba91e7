-- What a line holds. Assumes nothing.
use Rattle.std.specs.Prelude.{[], ◌∷◌, Some, None, Ok, Err, Option, Result}
use Rattle.std.specs.Borrow.{Bor}
use Rattle.script.specs.declared.faults.Problem.{Problem}
use Rattle.script.specs.declared.faults.Problem.TheVariants.{NoRequest, TooManyWords, EmptyName, TooManyNames, TooManyModules, TooManyDistinctNames}
use Rattle.words.specs.Texts.{Text}
use Rattle.words.specs.Words.{Says, Third}

abbrev pub Rowed : Text → Result (Option (Bor Text × Bor Text)) (Problem × Bor Text) → Type 0
Rowed l (Ok None) = Says l []
Rowed l (Ok (Some (m, w))) = Says l (m.now ∷ w.now ∷ [])
Rowed l (Err (NoRequest, m)) = Says l (m.now ∷ [])
Rowed l (Err (TooManyWords, x)) = Third l x.now
Rowed l (Err (EmptyName, x)) = ⊥
Rowed l (Err (TooManyNames n, x)) = ⊥
Rowed l (Err (TooManyModules, x)) = ⊥
Rowed l (Err (TooManyDistinctNames, x)) = ⊥
