-- What redirects make of a program. Assumes nothing.
use Rattle.std.specs.Prelude.{List, map, length}
use Rattle.std.specs.Option.{option_map}
use Rattle.ids.specs.declared.numbers.ModuleId.{ModuleId}
use Rattle.host.specs.Program.{Module, Program}
use Rattle.host.specs.declared.told.Dependency.{Dependency}
use Rattle.redirects.specs.Following.{usable, followed}
use Rattle.redirects.specs.declared.redirect.Redirect.{Redirect}

-- the program with what its dependencies aim at, and where its modules have their types, sent on by f

abbrev pub sent_dependency : (ModuleId → ModuleId) → Dependency → Dependency
sent_dependency f d = record { specifier = d.specifier; target = option_map f d.target }

abbrev pub sent_module : (ModuleId → ModuleId) → Module → Module
sent_module f m = record {
  kind = m.kind;
  «package» = m.«package»;
  types = option_map f m.types;
  dependencies = map (sent_dependency f) m.dependencies;
  re_export_alls = m.re_export_alls;
  symbols = m.symbols;
}

abbrev pub sent : (ModuleId → ModuleId) → Program → Program
sent f p = record { names = p.names; packages = p.packages; modules = map (sent_module f) p.modules }

-- where redirects send a module of a program in the end. A redirect that goes past the last module is passed over, so that
-- whatever the redirects are, the program that comes of them keeps the rules; where they fit (Refusals.antt), none is
abbrev pub sends : List Redirect → Program → ModuleId → ModuleId
sends rs p = followed (usable (length p.modules) rs)

-- the program with redirects followed
abbrev pub redirected : List Redirect → Program → Program
redirected rs p = sent (sends rs p) p
