use Rattle.std.proofs.Common.{rules, tests}
use Rattle.std.proofs.lemmas.Iterator.{YieldsList-from_slice}
use Rattle.std.proofs.lemmas.Iterator.Consumers.{YieldsList-from_enumerate}
use Rattle.std.proofs.lemmas.Iterator.Search.{all_from_yields_List}
use Rattle.table_rules.proofs.ListFacts.{all_at_pairs}
use Rattle.table_rules.proofs.rules.packages_kept.Goals as goal

pub returns : goal.returns
returns c = simp all_at_pairs (all_from_yields_List _ _ _ _ c.all.ensures.ran (YieldsList-from_enumerate (YieldsList-from_slice c.args.packages.now cc) cc) (λ x b q k. search (rules, tests)))
