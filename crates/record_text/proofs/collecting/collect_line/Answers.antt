use Rattle.std.proofs.Common.{◌≡◌, codes}
use Rattle.record_text.proofs.Collected.{begins, other_word, module_collected, not_package}
use Rattle.record_text.proofs.collecting.collect_line.Goals as goal

pub returns-in-module : goal.returns-in-module
returns-in-module c =
    let line = c.args.line.now in
    let word = c.in-Some.keyword.now in
    let is : word ≡ codes "module" = c.in-module.is in
    let two = begins _ line c.content.result.now word _ c.in-Some-first_word.name.now _ is c.content.ensures c.in-Some.ensures c.in-Some-first_word.ensures in
    let not = other_word (codes "package") line c.content.result.now word c.in-Some.rest.now (not_package word is) c.content.ensures c.in-Some.ensures in
    module_collected c.args.texts.now c.add.new.names line c.in-Some-first_word.name.now c.add.result two not c.add.ensures
