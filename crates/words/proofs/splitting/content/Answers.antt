use Rattle.std.proofs.Common.{rules}
use Rattle.words.proofs.Worded.{content_is}
use Rattle.words.proofs.splitting.content.Goals as goal

pub returns : goal.returns
returns c = content_is c.args.line c.map_or.result c.split_once.result _ (λ x q. search rules) c.split_once.ensures.cases c.map_or.ensures
