-- A module offers a name itself, or has it passed on. Assumes nothing.
use Rattle.std.proofs.Common.{◌≡◌, ℕ, Bool, true, false, is_some, Some, None, Decides, Option, sym, ◌∙◌}
use Rattle.std.proofs.lemmas.Bool.{true≢false, false≢true}
use Rattle.ids.specs.declared.numbers.ModuleId.{ModuleId}
use Rattle.ids.specs.declared.numbers.NameId.{NameId}
use Rattle.host.specs.Program.{Program}
use Rattle.offering.specs.Offers.{Offers, own, passed, Passes, First}
use Rattle.resolution.specs.Targets.{exports}

module _ (p : Program) (f : NameId) (x : ModuleId) where
  pub from_passes : (i : ℕ) → Passes p f x i → Offers p f x
  from_passes i h = passed h.not_default h.leads h.offers

  -- a first place was found
  pub found_offers : (r : Option ℕ) → First p f x r → is_some r ≡ true → Offers p f x
  found_offers None h some = absurd (false≢true some)
  found_offers (Some i) h some = from_passes i h.0

  -- no place was found: then only the module itself can offer it
  pub only_own : (r : Option ℕ) → First p f x r → is_some r ≡ false → (b : Bool) → b ≡ exports p x f → Decides b (Offers p f x)
  only_own (Some i) h none b is = absurd (true≢false none)
  only_own None h none b is = (λ e. own (sym is ∙ e), back)
    where
      back : Offers p f x → b ≡ true
      back (own e) = is ∙ e
      back (passed {y = y} {i = i} not_default leads o) = absurd (h i record { not_default = not_default; to = y; leads = leads; offers = o })
