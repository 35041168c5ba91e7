use Rattle.std.proofs.Common.{Ok, Option, subst, Bor}
use Rattle.script.specs.Rows.{Rowed}
use Rattle.words.specs.Texts.{Text}
use Rattle.script.proofs.Scripted.{asked_adds, wrong_adds}
use Rattle.script.proofs.requests.Requests.add_line.Goals as goal

pub returns-in-Ok-Some : goal.returns-in-Ok-Some
returns-in-Ok-Some c =
    let row = subst (λ (o : Option (Bor Text × Bor Text)). Rowed c.args.line.now (Ok o)) c.in-Ok-Some.field-0-is c.in-Ok-Some.ensures in
    asked_adds c.args.self.now c.ask.new.self c.args.number c.args.line.now c.in-Ok-Some.module.now c.in-Ok-Some.word.now c.ask.result row c.ask.ensures

pub returns-in-Err : goal.returns-in-Err
returns-in-Err c = wrong_adds c.args.self.now c.args.self.now c.args.number c.args.line.now c.in-Err.problem c.in-Err.word c.at.result c.in-Err.ensures c.at.ensures
