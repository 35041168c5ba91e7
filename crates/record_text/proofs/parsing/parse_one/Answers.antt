use Rattle.std.proofs.Common.{[], ◌∷◌, arith}
use Rattle.record_text.specs.Forms.{shelf}
use Rattle.record_text.proofs.Dispatch.{keyed}
use Rattle.record_text.proofs.Refusing.{blame}
use Rattle.record_text.proofs.Shapes.{no_keyword}
use Rattle.record_text.proofs.parsing.parse_one.Goals as goal

pub returns-in-package : goal.returns-in-package
returns-in-package c = keyed c.args.texts.now c.args.texts.now _ _ _ c.package_line.result c.in-package.is c.package_line.ensures

pub returns-in-entry : goal.returns-in-entry
returns-in-entry c = keyed c.args.texts.now c.args.texts.now _ _ _ c.entry.result c.in-entry.is c.entry.ensures

pub returns-in-symbol : goal.returns-in-symbol
returns-in-symbol c = keyed c.args.texts.now c.args.texts.now _ _ _ c.symbol_line.result c.in-symbol.is (c.symbol_line.ensures c.args.texts.now)

pub returns-in-member : goal.returns-in-member
returns-in-member c = keyed c.args.texts.now c.args.texts.now _ _ _ c.member.result c.in-member.is (c.member.ensures c.args.texts.now)

pub returns-in_default : goal.returns-in_default
returns-in_default c = blame (shelf c.args.texts.now) (c.args.keyword.now ∷ c.args.a.now ∷ []) _ 0 c.misfit.result (omega arith) (λ _. no_keyword (shelf c.args.texts.now) c.args.keyword.now (c.args.a.now ∷ []) (c.in_default.not-package, (c.in_default.not-entry, (c.in_default.not-symbol, (c.in_default.not-member, tt))))) c.misfit.ensures
