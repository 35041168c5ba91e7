use Rattle.std.proofs.Common.{vec_items, refl}
use Rattle.std.proofs.lemmas.Result.{IfOk-weaker}
use Rattle.routes.proofs.Spreads.{spread_one}
use Rattle.routes.proofs.searches.Search.follow.Goals as goal

pub returns-clause-spread : goal.returns-clause-spread
returns-clause-spread g c =
    let p = g.H.Host.program c.args.self.now.host.now in
    IfOk-weaker c.add.result _ _ (λ _ added. spread_one p c.args.«module» c.args.from c.args.place c.in-Some.target _ (vec_items c.args.self.now.reached) (vec_items c.add.new.self.reached) c.in-Some.ensures.law c.standing_module.ensures.value refl refl added) c.add.ensures.added
