use Rattle.std.proofs.Common.{◌≡◌, ◌<◌, length, get_or, string_bytes, sym, ap, ◌∙◌, arith, below_more}
use Rattle.std.proofs.lemmas.List.{length-map}
use Rattle.std.proofs.lemmas.Bool.{both_ways}
use Rattle.std.proofs.lemmas.Bool.Decides.{Decides-eqb}
use Rattle.std.proofs.lemmas.Slice.Eq.{slice_eq-Decides}
use Rattle.words.specs.Interned.{texts}
use Rattle.words.specs.Texts.{text_at}
use Rattle.words.proofs.Tables.{read_text}
use Rattle.words.proofs.interner_struct.Names.find.Goals as goal
use Rattle.words.proofs.interner_struct.Names.find.Goals.{After-eq}

-- the text that the loop compares is the one at its number
compared : (c : After-eq) → text_at (texts c.args.self.now) c.loop-number.number ≡ c.as_str.result.now
compared c =
    let same = c.as_slice-items.ensures.value in
    let item = c.index-items-number.result in
    let number = c.loop-number.number in
    let inside : number < length c.args.self.now.items.items = omega (arith, ap length same, c.loop-number-test.true) in
    read_text _ number item inside (c.index-items-number.is ∙ ap (λ xs. get_or xs number item) same) ∙ sym c.as_str.ensures.value

pub returns-then-eq : goal.returns-then-eq
returns-then-eq c =
    let names = c.args.self.now in
    record {
      within = omega (arith, length-map names.items.items string_bytes, ap length c.as_slice-items.ensures.value, c.loop-number-test.true);
      same = compared (goal.at.returns-then-eq c).After-eq ∙ (slice_eq-Decides Decides-eqb _ _ _ c.eq.ensures).0 c.if-eq.true;
    }

pub loop-number-preserved : goal.loop-number-preserved
loop-number-preserved c =
    below_more _ _ c.loop-number.invariant
    (λ e. let ne = (slice_eq-Decides Decides-eqb _ _ _ c.eq.ensures).1 (sym (compared (goal.at.loop-number-preserved c).After-eq) ∙ e) in both_ways _ c.if-eq.false ne)
