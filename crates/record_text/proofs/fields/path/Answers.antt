use Rattle.std.proofs.Common.{rules}
use Rattle.record_text.proofs.Refusing.{path_read}
use Rattle.record_text.proofs.fields.path.Goals as goal

pub returns : goal.returns
returns c = path_read _ c.args.word.now _ c.args.place c.read_path.result _ c.read_path.ensures c.map_err.ensures.cases (λ f u h. search rules)
