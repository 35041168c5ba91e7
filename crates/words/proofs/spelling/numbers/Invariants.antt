use Rattle.std.proofs.Common.{map, take, vec_items}
use Rattle.words.specs.Interned.{texts}
use Rattle.words.specs.Spelled.{Numbers}
use Rattle.words.proofs.spelling.numbers.Given as goal

abbrev pub invariant-loop-piece : goal.invariant-loop-piece
invariant-loop-piece l = Numbers (texts l.initial.names) (map (λ x. x.now) (take l.piece-index l.pieces)) (texts l.names) (vec_items l.ids)
