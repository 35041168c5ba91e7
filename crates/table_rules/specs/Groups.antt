-- The test of a module in two groups: what it says of itself, and what is inside. Assumes nothing.
use Rattle.std.specs.Prelude.{ℕ, Bool, ◌&&◌, map, length, nat_le, nat_lt}
use Rattle.std.specs.List.{list_all}
use Rattle.host.specs.Program.{Module}
use Rattle.host.specs.Rules.{list_limit, is_typed}
use Rattle.host.specs.Tests.{all_at, held, distinct, dependency_kept, re_export_all_kept, lists_kept, symbol_kept}

abbrev pub head_kept : ℕ → ℕ → Module → Bool
head_kept packages modules m =
    held m.«package» (λ p. nat_lt p.0 packages) && (held m.types (λ t. nat_lt t.0 modules) && (held m.types (λ t. is_typed m.kind) && lists_kept m.kind (length m.dependencies) (length m.re_export_alls) (length m.symbols)))

abbrev pub contents_kept : ℕ → ℕ → Module → Bool
contents_kept names modules m =
    nat_le (length m.dependencies) list_limit && (list_all (dependency_kept names modules) m.dependencies && (distinct (map (λ d. d.specifier.0) m.dependencies) && (nat_le (length m.re_export_alls) list_limit && (list_all (re_export_all_kept names) m.re_export_alls && (nat_le (length m.symbols) list_limit && all_at (symbol_kept names (length m.symbols)) 0 m.symbols)))))
