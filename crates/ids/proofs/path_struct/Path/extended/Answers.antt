use Rattle.std.proofs.Common.{[], ◌∷◌, ◌++◌, get_or, take, sym, ap, ◌∙◌, arith, length-append, take_all}
use Rattle.std.proofs.lemmas.List.{take_more, append_assoc}
use Rattle.ids.specs.Names.{default_name}
use Rattle.ids.specs.Paths.{names_of}
use Rattle.ids.proofs.Padding.{length_names}
use Rattle.ids.proofs.path_struct.Path.extended.Goals as goal

pub returns-then-more-self : goal.returns-then-more-self
returns-then-more-self c =
    let p = c.args.self.now in
    omega (arith, length-append (names_of p) c.args.more.now, length_names p, p.few)

pub loop-name-preserved : goal.loop-name-preserved
loop-name-preserved c =
    let more = c.args.more.now in
    let i = c.loop-name.name-index in
    let own = names_of c.args.self.now in
    let x = get_or more i default_name in
    let pushed = c.push.ensures.names ∙ ap (λ ns. ns ++ (x ∷ [])) c.loop-name.invariant.0 in
    (pushed ∙ append_assoc own (take i more) (x ∷ []) ∙ ap (λ ns. own ++ ns) (sym (take_more more i default_name c.loop-name-test.true)), omega arith)

pub returns : goal.returns
returns c =
    c.loop-name.invariant.0 ∙ ap (λ ns. names_of c.args.self.now ++ ns) (take_all _ _ c.loop-name-test.false)
