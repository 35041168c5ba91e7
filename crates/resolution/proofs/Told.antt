-- What the counts that a host tells are of. Assumes nothing.
use Rattle.std.proofs.Common.{◌≡◌, length, is_some, Some, None, Option, sym, refl, ap}
use Rattle.std.proofs.lemmas.Bool.{true≢false}
use Rattle.std.specs.Option.{option_map}
use Rattle.host.specs.Lookups.{within}
use Rattle.host.specs.Program.{Module, Symbol, told_module, told_symbol}
use Rattle.host.specs.declared.told.ModuleInfo.{ModuleInfo}
use Rattle.host.specs.declared.told.SymbolInfo.{SymbolInfo}

pub counts : (o : Option Module) (i : ModuleInfo) → option_map told_module o ≡ Some i → (i.dependencies ≡ length (within (λ x. x.dependencies) o)) × (i.re_export_alls ≡ length (within (λ x. x.re_export_alls) o)) × (i.symbols ≡ length (within (λ x. x.symbols) o))
counts None i e = absurd (true≢false (sym (ap is_some e)))
counts (Some m) i e =
    let is : told_module m ≡ i = cc in
    (ap (λ x. x.dependencies) (sym is), ap (λ x. x.re_export_alls) (sym is), ap (λ x. x.symbols) (sym is))

pub export_count : (o : Option Symbol) (i : SymbolInfo) → option_map told_symbol o ≡ Some i → i.exports ≡ length (within (λ x. x.exports) o)
export_count None i e = absurd (true≢false (sym (ap is_some e)))
export_count (Some s) i e =
    let is : told_symbol s ≡ i = cc in
    ap (λ x. x.exports) (sym is)

pub nothing_told : (o : Option Module) → option_map told_module o ≡ None → length (within (λ x. x.re_export_alls) o) ≡ 0
nothing_told None e = refl
nothing_told (Some m) e = absurd (true≢false (ap is_some e))
