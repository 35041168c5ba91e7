use Rattle.std.proofs.Common.{rules, List, map, vec_items, sym, subst, Bor}
use Rattle.std.proofs.lemmas.Result.{err_from_is_err_and}
use Rattle.ids.specs.declared.numbers.NameId.{NameId}
use Rattle.ids.specs.Paths.{Makes}
use Rattle.words.specs.Spelled.{dot, Pieces}
use Rattle.words.specs.Texts.{Text}
use Rattle.words.proofs.Numbering.{path_made, unspelled}
use Rattle.words.proofs.spelling.read_path.Goals as goal
use Rattle.words.proofs.spelling.read_path.Goals.{After-as_slice}

-- the slice that is passed on holds the pieces of the word
cut : (c : After-as_slice) → Pieces dot c.args.word.now (map (λ x. x.now) c.as_slice.result.now)
cut c = subst (λ (xs : List (Bor Text)). Pieces dot c.args.word.now (map (λ x. x.now) xs)) (sym c.as_slice.ensures.value) c.in_ok-pieces.ensures

pub returns-in_err-ids : goal.returns-in_err-ids
returns-in_err-ids c =
    let p = err_from_is_err_and c.from_residual-in_err-ids.result c.from_residual-in_err-ids.ensures.1 in
    rw (p.1, p.2) (unspelled _ _ c.in_err-ids.field-0.0 (cut (goal.at.returns-in_err-ids c).After-as_slice) c.in_err-ids.ensures)

pub returns : goal.returns
returns c =
    let ids = c.in_ok-ids.ids in
    path_made _ _ _ _ (vec_items ids) c.from_names.result c.map_err.result _ (λ e f q. search rules) (cut (goal.at.returns c).After-as_slice) c.in_ok-ids.ensures
    (subst (λ (ns : List NameId). Makes ns c.from_names.result) c.as_slice-2.ensures.value c.from_names.ensures)
    c.map_err.ensures.cases
