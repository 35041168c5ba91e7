use Rattle.std.proofs.Common.{◌≡◌, ◌+◌, ◌++◌, take}
use Rattle.ids.specs.Paths.{names_of}
use Rattle.ids.proofs.path_struct.Path.extended.Given as goal

abbrev pub invariant-loop-name : goal.invariant-loop-name
invariant-loop-name l = (names_of l.path ≡ names_of l.self ++ take l.name-index l.more) × (l.path.len ≡ l.self.len + l.name-index)
