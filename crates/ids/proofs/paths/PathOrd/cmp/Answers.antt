use Rattle.std.proofs.Common.{rules, ◌≡◌, sym, subst}
use Rattle.ids.specs.Paths.{InOrder, path_order}
use Rattle.ids.proofs.Ordered.{paths_in_order}
use Rattle.ids.proofs.paths.PathOrd.cmp.Goals as goal

pub returns-clause-order : goal.returns-clause-order
returns-clause-order c =
    let p = c.args.self.now in
    let q = c.args.other.now in
    let computed : c.cmp.result ≡ path_order p q = search rules in
    subst (InOrder p q) (sym computed) (paths_in_order p q)
