use Rattle.std.proofs.Common.{◌≡◌, subst, sym, Decides}
use Rattle.ids.specs.Paths.{names_of}
use Rattle.ids.proofs.Padding.{names_decide, paths_decide}
use Rattle.ids.proofs.paths.PathPartialEq.eq.Goals as goal

pub returns-clause-computes : goal.returns-clause-computes
returns-clause-computes c = rw (c.names.ensures, c.names-2.ensures) at c.eq.ensures

pub returns-clause-names : goal.returns-clause-names
returns-clause-names c =
    let p = c.args.self.now in
    let q = c.args.other.now in
    subst (λ r. Decides r (names_of p ≡ names_of q)) (sym (returns-clause-computes c)) (names_decide (names_of p) (names_of q))

pub returns-clause-value : goal.returns-clause-value
returns-clause-value c = paths_decide c.args.self.now c.args.other.now c.eq.result (returns-clause-names c)
