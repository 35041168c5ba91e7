use Rattle.std.proofs.Common.{◌≡◌, ◌++◌, take, string_bytes}
use Rattle.words.specs.Interned.{texts}
use Rattle.script.proofs.Spelt.{after_dots}
use Rattle.script.proofs.rendering.path_text.Given as goal

abbrev pub invariant-loop-name : goal.invariant-loop-name
invariant-loop-name l = string_bytes l.text ≡ string_bytes l.initial.text ++ after_dots (texts l.names) (take l.name-index l.rest)
