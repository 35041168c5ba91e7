use Rattle.std.proofs.Common.{rules}
use Rattle.host.proofs.Decided.{decides_kept}
use Rattle.table_rules.proofs.TableFacts.{program_told, by_valid}
use Rattle.table_rules.proofs.rules.keeps_rules.Goals as goal

pub returns-then-packages_kept : goal.returns-then-packages_kept
returns-then-packages_kept c =
    let told = program_told c.args.table.now in
    record { valid = search rules; kept = by_valid _ _ (search rules); alike = decides_kept }

pub returns-else-packages_kept : goal.returns-else-packages_kept
returns-else-packages_kept c =
    let told = program_told c.args.table.now in
    record { valid = search rules; kept = by_valid _ _ (search rules); alike = decides_kept }
