use Rattle.std.proofs.Common.{◌≡◌, Bool, false, ◌==◌, ◌||◌, List, [], ◌∷◌, Option, Some, None, rules, tests, refl, ap, ◌∙◌, arith}
use Rattle.std.specs.List.{slice_get, list_any}
use Rattle.std.proofs.lemmas.Iterator.{YieldsList-from_range}
use Rattle.std.proofs.lemmas.Iterator.Search.{any_from_yields_List}
use Rattle.host.specs.Lookups.{within, symbol_at}
use Rattle.host.specs.declared.told.Export.{Export}
use Rattle.ids.specs.declared.numbers.NameId.{NameId}
use Rattle.resolution.proofs.Places.{any_place}
use Rattle.resolution.proofs.Told.{export_count}
use Rattle.resolution.proofs.targets.has_export.Goals as goal
use Rattle.resolution.specs.Targets.{has_export}

-- an export with the name is there
abbrev is_named : NameId → Option Export → Bool
is_named n None = false
is_named n (Some e) = e.name.0 == n.0

some_named : (n : NameId) (es : List Export) → list_any (λ e. is_named n (Some e)) es ≡ has_export es n
some_named n [] = refl
some_named n (e ∷ es) = ap (λ b. is_named n (Some e) || b) (some_named n es)

pub returns : goal.returns
returns g c =
    let s = symbol_at (g.H.Host.program c.args.host.now) c.args.«module» c.args.symbol in
    let es = within (λ x. x.exports) s in
    let n = c.args.name in
    let many = export_count s c.in-Some.info (cc) in
    let found = any_from_yields_List (λ i. is_named n (slice_get es i)) _ _ c.any.result c.any.ensures.ran (YieldsList-from_range 0 c.in-Some.info.exports c.in-Some.info.exports (cc) (omega arith)) (λ x b q k. search (rules, tests)) in
    found ∙ any_place (is_named n) es 0 c.in-Some.info.exports (omega (arith, many)) ∙ some_named n es
