use Rattle.std.proofs.Common.{◌≡◌, length, Some, None, vec_items}
use Rattle.redirects.specs.Refusals.{refusal}
use Rattle.redirects.proofs.Refused.{fits, says, all_usable}
use Rattle.redirects.proofs.Worked.{worked}
use Rattle.redirects.proofs.layer.Redirected.new.Goals as goal

pub returns-in-Ok-clause-why : goal.returns-in-Ok-clause-why
returns-in-Ok-clause-why g c =
    let n = length (g.H.Host.program c.args.host).modules in
    let rs = vec_items c.args.redirects in
    let is : refusal n rs ≡ None = cc (c.in-Ok.ensures) in
    fits n rs is

pub returns-in-Ok-clause-none_passed_over : goal.returns-in-Ok-clause-none_passed_over
returns-in-Ok-clause-none_passed_over g c =
    let n = length (g.H.Host.program c.args.host).modules in
    let rs = vec_items c.args.redirects in
    let is : refusal n rs ≡ None = cc (c.in-Ok.ensures) in
    all_usable n rs (fits n rs is).inside

pub returns-in-Ok-clause-examples : goal.returns-in-Ok-clause-examples
returns-in-Ok-clause-examples g c = worked

pub returns-in-Err-clause-why : goal.returns-in-Err-clause-why
returns-in-Err-clause-why g c =
    let n = length (g.H.Host.program c.args.host).modules in
    let rs = vec_items c.args.redirects in
    let is : refusal n rs ≡ Some c.in-Err.refusal = cc (c.in-Err.ensures) in
    says n rs c.in-Err.refusal is

pub returns-in-Err-clause-examples : goal.returns-in-Err-clause-examples
returns-in-Err-clause-examples g c = worked
