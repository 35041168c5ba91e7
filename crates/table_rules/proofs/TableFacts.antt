-- The tests of what tables tell, over the tables themselves. Assumes nothing.
use Rattle.std.proofs.Common.{◌≡◌, Bool, ◌&&◌, leb, List, map, length, vec_items, vec_len, Decides, sym, ap₂, ◌∙◌}
use Rattle.std.proofs.Math.Bool.{and_assoc}
use Rattle.std.proofs.lemmas.List.{length-map}
use Rattle.std.specs.List.{list_all}
use Rattle.host.proofs.Decided.{decides_kept}
use Rattle.host.specs.Program.{Module, Package, Program}
use Rattle.host.specs.Rules.{name_limit, package_limit, module_limit, Kept}
use Rattle.host.specs.Tests.{all_at, module_kept, package_kept, valid}
use Rattle.table_rules.specs.Meaning.{module_of, package_of, program_of}
use Rattle.table_rules.specs.declared.program_table.ProgramTable.{ProgramTable}

-- the parts of the test of a program, which the code asks in three groups
pub program_told : (t : ProgramTable) → ((leb 2 t.names && (leb t.names name_limit && (leb (vec_len t.packages) package_limit && leb (vec_len t.modules) module_limit))) && (all_at (package_kept (map module_of (vec_items t.modules))) 0 (map package_of (vec_items t.packages)) && list_all (module_kept t.names (vec_len t.packages) (vec_len t.modules)) (map module_of (vec_items t.modules)))) ≡ valid (program_of t)
unfolding valid
program_told t =
    ap₂ (λ p m. (leb 2 t.names && (leb t.names name_limit && (leb p package_limit && leb m module_limit))) && (all_at (package_kept ms) 0 ps && list_all (module_kept t.names p m) ms)) packages modules
    ∙ groups (leb 2 t.names) (leb t.names name_limit) (leb (length ps) package_limit) (leb (length ms) module_limit) _
  where
    ps : List Package
    ps = map package_of (vec_items t.packages)

    ms : List Module
    ms = map module_of (vec_items t.modules)

    packages : vec_len t.packages ≡ length ps
    packages = t.packages.ok.0 ∙ sym (length-map (vec_items t.packages) package_of)

    modules : vec_len t.modules ≡ length ms
    modules = t.modules.ok.0 ∙ sym (length-map (vec_items t.modules) module_of)

    groups : (a b c d e : Bool) → ((a && (b && (c && d))) && e) ≡ (a && (b && (c && (d && e))))
    groups a b c d e = simp and_assoc

pub by_valid : (r : Bool) (p : Program) → r ≡ valid p → Decides r (Kept p)
by_valid r p e = rw e (decides_kept p)
