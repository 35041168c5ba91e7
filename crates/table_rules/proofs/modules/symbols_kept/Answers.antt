use Rattle.std.proofs.Common.{rules, tests}
use Rattle.std.proofs.lemmas.Iterator.{YieldsList-from_slice}
use Rattle.std.proofs.lemmas.Iterator.Consumers.{YieldsList-from_enumerate}
use Rattle.std.proofs.lemmas.Iterator.Search.{all_from_yields_List}
use Rattle.std.proofs.lemmas.List.{length-map}
use Rattle.table_rules.specs.Meaning.{symbol_of}
use Rattle.table_rules.proofs.ListFacts.{all_at_pairs}
use Rattle.table_rules.proofs.modules.symbols_kept.Goals as goal

pub returns : goal.returns
returns c = rw (all_at_pairs, length-map c.args.symbols.now symbol_of) (all_from_yields_List _ _ _ _ c.all.ensures.ran (YieldsList-from_enumerate (YieldsList-from_slice c.args.symbols.now cc) cc) (λ x b q k. search (rules, tests)))
