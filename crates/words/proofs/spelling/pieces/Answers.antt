use Rattle.words.proofs.Cuts.{pieces_collected}
use Rattle.words.proofs.spelling.pieces.Goals as goal

pub returns : goal.returns
returns c =
    pieces_collected c.args.mark c.split.result c.args.word.now
    (λ u seen from.
    let run = c.split.ensures.runs u seen from in
    let cut = run.2 c.requires (λ q h. h, λ w o h. h) in
    (run.0, cut.0, cut.1))
    c.collect.result c.collect.ensures.runs
