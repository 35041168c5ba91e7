use Rattle.std.proofs.Common.{◌≡◌, length, vec_items, sym, subst}
use Rattle.redirects.specs.Ends.{Ends}
use Rattle.redirects.specs.Following.{usable, followed}
use Rattle.redirects.proofs.Ended.{ends}
use Rattle.redirects.proofs.layer.Redirected.end.Goals as goal

pub returns-clause-ends : goal.returns-clause-ends
returns-clause-ends g c =
    let n = length (g.H.Host.program c.args.self.now.host).modules in
    let rs = vec_items c.args.self.now.redirects in
    let m = c.args.start in
    let is : c.follow.result ≡ followed (usable n rs) m = cc in
    subst (Ends (usable n rs) m) (sym is) (ends (usable n rs) m)
