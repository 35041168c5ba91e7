use Rattle.std.proofs.Common.{◌≡◌, refl, ap, ◌∙◌, lit<}
use Rattle.std.proofs.lemmas.Str.Pattern.{strip_prefix_char}
use Rattle.std.proofs.lemmas.Result.{err_from_is_err_and}
use Rattle.script.specs.Spelled.{bare}
use Rattle.words.specs.Interned.{texts}
use Rattle.words.specs.Spelled.{dot}
use Rattle.script.proofs.Spelt.{bare_is, path_read, path_refused}
use Rattle.script.proofs.spelling.read_request.Goals as goal
use Rattle.script.proofs.spelling.read_request.Goals.{After-unwrap_or-bare}

-- what is left of the word
stripped : (c : After-unwrap_or-bare) → c.unwrap_or-bare.result.now ≡ bare c.args.word.now
stripped c = ap (λ x. x.now) c.unwrap_or-bare.ensures ∙ bare_is c.args.word.now c.strip_prefix.result c.args.word (strip_prefix_char dot _ _ c.strip_prefix.ensures.cases (lit< tt)) refl

pub returns-in_err-path-in_default : goal.returns-in_err-path-in_default
returns-in_err-path-in_default c =
    let p = err_from_is_err_and c.from_residual.result c.from_residual.ensures.1 in
    let read = rw (stripped (goal.at.returns-in_err-path-in_default c).After-unwrap_or-bare) at c.read_path.ensures in
    rw (p.1, p.2) (path_refused (texts c.args.names.now) _ c.args.word.now c.read_path.result c.map_err.result _ read c.map_err.ensures.cases c.in_err-path-in_default.was)

pub returns-in_ok-path-in_default : goal.returns-in_ok-path-in_default
returns-in_ok-path-in_default c =
    let asked = rw (stripped (goal.at.returns-in_ok-path-in_default c).After-unwrap_or-bare) at c.read_path.ensures in
    let read = path_read (texts c.args.names.now) _ c.args.word.now c.read_path.result c.map_err.result _ asked c.map_err.ensures.cases c.in_ok-path-in_default.was in
    ((read.0, c.in_default.not-star, c.in_default.not-full), read.1)
