-- Marks of modules, one byte each: 0 for one that was not met, 1 for one that waits, 2 for one that is done. Assumes nothing.
use Rattle.std.specs.Prelude.{ℕ, suc, ◌<◌, cond, List, [], ◌∷◌, ◌++◌, length, drop, replicate, ◌==◌, ◌≢◌, slice_index, slice_set}
use Rattle.ids.specs.declared.numbers.ModuleId.{ModuleId}

abbrev pub mark_of : List ℕ → ModuleId → ℕ
mark_of marks x = slice_index marks x.0

-- a module of the sheet that was met; one past the sheet counts as met
abbrev pub Met : List ℕ → ModuleId → Type 0
Met marks x = x.0 < length marks → mark_of marks x ≢ 0

-- the marks after a module was met
abbrev pub met : List ℕ → ModuleId → List ℕ
met marks x = cond (mark_of marks x == 0) (slice_set marks x.0 1) marks

-- how many modules are not done
abbrev pub undone : List ℕ → ℕ
undone [] = 0
undone (m ∷ marks) = cond (m == 2) (undone marks) (suc (undone marks))

-- the sheet after a walk over n modules: their bytes are blank, and the others as they were
abbrev pub blanked : ℕ → List ℕ → List ℕ
blanked n sheet = replicate n 0 ++ drop n sheet
