use Rattle.std.proofs.Common.{◌<◌, [], ◌∷◌, ◌++◌, length, string_bytes, ap, ◌∙◌, arith, ltb-false}
use lib.Utf8.{encode}
use Rattle.std.specs.List.{join_with_byte}
use Rattle.std.proofs.lemmas.List.{take_all, take_rest}
use Rattle.ids.specs.Names.{default_name}
use Rattle.words.specs.Interned.{texts}
use Rattle.words.specs.Spelled.{dot, texts_of}
use Rattle.script.proofs.Spelt.{after_dots, after_dots_more, spelled_whole}
use Rattle.script.proofs.rendering.path_text.Goals as goal

pub loop-name-preserved : goal.loop-name-preserved
unfolding encode
loop-name-preserved c =
    let ts = texts c.args.names.now in
    let text = string_bytes c.loop-name.text in
    let dotted = c.in_ok-push.ensures.bytes in
    c.in_ok-push_str-2.ensures.bytes
    ∙ ap (λ x. x ++ c.name_text-in-loop-name.result.now) dotted
    ∙ ap (λ x. (text ++ dot ∷ []) ++ x) c.name_text-in-loop-name.ensures
    ∙ after_dots_more ts (string_bytes c.push_str.new.self) text _ c.loop-name.name-index default_name c.loop-name-test.true c.loop-name.invariant

pub returns : goal.returns
returns c =
    let ts = texts c.args.names.now in
    let ns = c.names.result.now in
    let front = string_bytes c.push_str.new.self in
    let some : 0 < length ns = omega (arith, ltb-false) in
    let first = c.in_ok-push_str.ensures.bytes ∙ ap (λ x. x ++ c.name_text.result.now) c.new-text.ensures.bytes ∙ c.name_text.ensures in
    let all = ap (λ xs. front ++ after_dots ts xs) (take_all c.loop-name.name-index _ c.loop-name-test.false ∙ take_rest ns 1) in
    spelled_whole ts ns default_name _ front some first (c.loop-name.invariant ∙ all) ∙ ap (λ xs. join_with_byte dot (texts_of ts xs)) c.names.ensures
