-- Offering agrees with GetExportedNames. Assumes nothing.
use Rattle.std.proofs.Common.{◌≡◌, Bool, true, false, Decides, sym, refl}
use Rattle.ids.specs.declared.numbers.ModuleId.{ModuleId}
use Rattle.ids.specs.declared.numbers.NameId.{NameId}
use Rattle.host.specs.Program.{Program}
use Rattle.resolution.specs.Targets.{exports}
use Rattle.offering.specs.ExportedNames.{has_name}
use Rattle.offering.specs.Offers.{Offers, own, passed, Offered}
use Rattle.offering.proofs.Ending.{ends}
use Rattle.offering.proofs.Exported.{returned, offered}

-- two tests that hold together are the same
same_tests : (a b : Bool) → (a ≡ true → b ≡ true) → (b ≡ true → a ≡ true) → a ≡ b
same_tests true true to from = refl
same_tests true false to from = sym (to refl)
same_tests false true to from = from refl
same_tests false false to from = refl

-- `default` is offered only by who exports it
pub own_default : (p : Program) (f : NameId) (x : ModuleId) → f.0 ≡ 0 → Offers p f x → exports p x f ≡ true
own_default p f x default (own h) = h
own_default p f x default (passed not_default leads o) = absurd (not_default default)

pub offered_all : (p : Program) (f : NameId) (x : ModuleId) (b : Bool) → Decides b (Offers p f x) → Offered p f x b
offered_all p f x b d = record {
  offers = d;
  standard = record {
    ends = ends p x;
    has = λ names after g. same_tests b (has_name names f) (λ t. offered p f x names after g (d.0 t)) (λ t. d.1 (returned p f g t));
  };
  default_own = λ default. same_tests b (exports p x f) (λ t. own_default p f x default (d.0 t)) (λ t. d.1 (own t));
}
