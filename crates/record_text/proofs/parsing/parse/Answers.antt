use Rattle.std.proofs.Common.{◌≡◌, [], ◌∷◌, map, length, arith, Bor, ltb-false, ltb-true}
use Rattle.words.specs.Texts.{Text}
use Rattle.std.proofs.lemmas.List.{length-map}
use Rattle.record_text.specs.Forms.{shelf}
use Rattle.record_text.proofs.Refusing.{blame}
use Rattle.record_text.proofs.Shapes.{no_count}
use Rattle.record_text.proofs.Dispatch.{counted, one_word, two_words, three_words, four_words, five_words}
use Rattle.record_text.proofs.parsing.parse.Goals as goal
use Rattle.record_text.proofs.parsing.parse.Goals.{in_default-via-then-rest-lt1, in_default-via-else-rest-lt1+else-rest-lt2+else-rest-lt3+else-rest-lt4+else-rest-lt5+else-rest-lt6}

-- what a read past the end would give
abbrev blank : Bor Text
blank = record { ref_ptr = (0, 0); now = [] }

pub returns-in-len1 : goal.returns-in-len1
returns-in-len1 c =
    let many : length c.args.rest.now ≡ 1 = omega (arith, ltb-true, ltb-false) in
    counted c.args.texts.now c.parse_one.new.texts _ _ _ c.parse_one.result (one_word blank c.args.rest.now many) c.parse_one.ensures

pub returns-in-len2 : goal.returns-in-len2
returns-in-len2 c =
    let many : length c.args.rest.now ≡ 2 = omega (arith, ltb-true, ltb-false) in
    counted c.args.texts.now c.parse_two.new.texts _ _ _ c.parse_two.result (two_words blank c.args.rest.now many) c.parse_two.ensures

pub returns-in-len3 : goal.returns-in-len3
returns-in-len3 c =
    let many : length c.args.rest.now ≡ 3 = omega (arith, ltb-true, ltb-false) in
    counted c.args.texts.now c.parse_three.new.texts _ _ _ c.parse_three.result (three_words blank c.args.rest.now many) c.parse_three.ensures

pub returns-in-len4 : goal.returns-in-len4
returns-in-len4 c =
    let many : length c.args.rest.now ≡ 4 = omega (arith, ltb-true, ltb-false) in
    counted c.args.texts.now c.parse_four.new.texts _ _ _ c.parse_four.result (four_words blank c.args.rest.now many) c.parse_four.ensures

pub returns-in-len5 : goal.returns-in-len5
returns-in-len5 c =
    let many : length c.args.rest.now ≡ 5 = omega (arith, ltb-true, ltb-false) in
    counted c.args.texts.now c.parse_five.new.texts _ _ _ c.parse_five.result (five_words blank c.args.rest.now many) c.parse_five.ensures

pub returns-in_default : goal.returns-in_default
returns-in_default c =
    let many = length-map c.args.rest.now (λ (x : Bor Text). x.now) in
    blame (shelf c.args.texts.now) (c.args.keyword.now ∷ map (λ (x : Bor Text). x.now) c.args.rest.now) _ 0 c.misfit.result (omega arith)
    (λ _. no_count (shelf c.args.texts.now) c.args.keyword.now (map (λ (x : Bor Text). x.now) c.args.rest.now) (λ low high. elim c.in_default.branch [ in_default-via-then-rest-lt1 w ↦ omega (arith, ltb-true, ltb-false, many, low) | in_default-via-else-rest-lt1+else-rest-lt2+else-rest-lt3+else-rest-lt4+else-rest-lt5+else-rest-lt6 w ↦ omega (arith, ltb-true, ltb-false, many, high) ])) c.misfit.ensures
