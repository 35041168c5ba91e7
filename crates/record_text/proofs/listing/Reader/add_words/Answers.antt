use Rattle.std.proofs.Common.{◌∷◌, map, rules}
use Rattle.record_text.proofs.Faulting.{formed_item, words_placed}
use Rattle.record_text.proofs.listing.Reader.add_words.Goals as goal

pub returns : goal.returns
returns c =
    let formed = formed_item c.args.self.now.texts (c.in-Some.keyword.now.now ∷ map (λ y. y.now) c.in-Some.rest.now) c.parse.new.texts c.parse.result c.in_ok-item.item c.parse.ensures c.in_ok-item.ensures.cases in
    words_placed c.args.self.now (record { texts = c.parse.new.texts; draft = c.place.new.draft }) c.args.number c.args.words.now c.in-Some.keyword.now c.in-Some.rest.now c.in_ok-item.item c.place.result _ c.in-Some.ensures.cases.0 formed c.place.ensures c.map_err-2.ensures.cases (λ v f h. search rules)
