-- Export-alls followed one after another. Assumes nothing.
use Rattle.std.proofs.Common.{◌≡◌, ◌==◌, ◌||◌, ℕ, Bool, true, false, cond, leb, ◌⊎◌, List, [], ◌∷◌, ◌++◌, length, sym, refl, ap, ◌∙◌, subst, inl, inr, append_assoc, append-nil}
use Rattle.std.proofs.ByRecursion.{All-append}
use Rattle.std.proofs.lemmas.List.{map_push}
use Rattle.std.specs.List.{list_any}
use Rattle.std.proofs.lemmas.Bool.{or_cases, or_left, or_right}
use Rattle.ids.specs.declared.numbers.ModuleId.{ModuleId}
use Rattle.host.specs.Program.{Program}
use Rattle.resolution.specs.Targets.{stands}
use Rattle.offering.proofs.Following.{leads_same}
use Rattle.offering.proofs.Names.{contains_kept, contains_last}
use Rattle.offering.specs.ExportedNames.{contains}
use Rattle.resolution.specs.Laws.{Leads}
use Rattle.routes.specs.Reach.{modules_in, known, Added, Led, Fresh, Spread}
use Rattle.routes.specs.declared.reached.Reached.{Reached}

-- the test of each element that was reached is the test of its module
pub contains_any : (rs : List Reached) (m : ModuleId) → list_any (λ r. r.«module».0 == m.0) rs ≡ contains (modules_in rs) m
contains_any [] m = refl
contains_any (r ∷ rs) m = ap (λ b. r.«module».0 == m.0 || b) (contains_any rs m)

module _ (p : Program) where
  -- one more leaves known what was, and is known
  known_kept : (rs : List Reached) (r : Reached) (y : ModuleId) → known p rs y ≡ true → known p (rs ++ r ∷ []) y ≡ true
  known_kept rs r y h = elim (or_cases (leb (length p.modules) y.0) (contains (modules_in rs) y) h) [
    | inl past ↦ or_left (leb (length p.modules) y.0) (contains (modules_in (rs ++ r ∷ [])) y) past
    | inr there ↦ or_right (leb (length p.modules) y.0) (contains (modules_in (rs ++ r ∷ [])) y) (ap (λ l. contains l y) (map_push (λ q. q.«module») rs r) ∙ contains_kept (modules_in rs) r.«module» y there)
  ]

  known_last : (rs : List Reached) (r : Reached) → known p (rs ++ r ∷ []) r.«module» ≡ true
  known_last rs r = or_right (leb (length p.modules) r.«module».0) (contains (modules_in (rs ++ r ∷ [])) r.«module») (ap (λ l. contains l r.«module») (map_push (λ q. q.«module») rs r) ∙ contains_last (modules_in rs) r.«module»)

  pub known_more : (rs new : List Reached) (y : ModuleId) → known p rs y ≡ true → known p (rs ++ new) y ≡ true
  known_more rs [] y h = ap (λ l. known p l y) (append-nil rs) ∙ h
  known_more rs (r ∷ new) y h = sym (ap (λ l. known p l y) (append_assoc rs (r ∷ []) new)) ∙ known_more (rs ++ r ∷ []) new y (known_kept rs r y h)

  fresh_append : (rs new more : List Reached) → Fresh p rs new → Fresh p (rs ++ new) more → Fresh p rs (new ++ more)
  fresh_append rs [] more a b = subst (λ l. Fresh p l more) (append-nil rs) b
  fresh_append rs (r ∷ new) more a b = (a.0, fresh_append (rs ++ r ∷ []) new more a.1 (subst (λ l. Fresh p l more) (sym (append_assoc rs (r ∷ []) new)) b))

  module _ (x : ModuleId) (from : ℕ) where
    -- where nothing is led to, nothing changes
    pub spread_none : (P : ℕ → Type 0) (rs : List Reached) → ((i : ℕ) (z : ModuleId) → P i → Leads p x i z → ⊥) → Spread p x from P rs rs
    spread_none P rs never = record { new = []; grown = sym (append-nil rs); led = tt; fresh = tt; all_known = λ i z at leads. absurd (never i z at leads) }

    -- one place is followed
    pub spread_one : (i : ℕ) (z : ModuleId) (r : Reached) (before after : List Reached) → Leads p x i z → r.«module» ≡ stands p z → r.from ≡ from → r.place ≡ i → Added p r before after → Spread p x from (λ j. j ≡ i) before after
    spread_one i z r before after leading is-module is-from is-place added = by_known (known p before r.«module») refl
      where
        led : Led p x from r
        led = (is-from, (z, subst (λ k. Leads p x k z) (sym is-place) leading, is-module))

        all_known : known p after r.«module» ≡ true → (j : ℕ) (y : ModuleId) → j ≡ i → Leads p x j y → known p after (stands p y) ≡ true
        all_known h j y at other =
            let same = leads_same p x i z y leading (subst (λ k. Leads p x k y) at other) in
            subst (λ w. known p after w ≡ true) (is-module ∙ ap (stands p) same) h

        by_known : (b : Bool) → known p before r.«module» ≡ b → Spread p x from (λ j. j ≡ i) before after
        by_known true h =
            let is = added ∙ ap (λ b. cond b before (before ++ r ∷ [])) h in
            record { new = []; grown = is ∙ sym (append-nil before); led = tt; fresh = tt; all_known = all_known (ap (λ l. known p l r.«module») is ∙ h) }
        by_known false h =
            let is = added ∙ ap (λ b. cond b before (before ++ r ∷ [])) h in
            record { new = r ∷ []; grown = is; led = (led, tt); fresh = (h, tt); all_known = all_known (ap (λ l. known p l r.«module») is ∙ known_last before r) }

    -- places followed one after another
    pub spread_both : (P Q R : ℕ → Type 0) {a b c : List Reached} → ((i : ℕ) → R i → P i ⊎ Q i) → Spread p x from P a b → Spread p x from Q b c → Spread p x from R a c
    spread_both P Q R {a} {b} {c} split h k = record {
      new = h.new ++ k.new;
      grown = k.grown ∙ ap (λ l. l ++ k.new) h.grown ∙ append_assoc a h.new k.new;
      led = All-append (Led p x from) h.new k.new h.led k.led;
      fresh = fresh_append a h.new k.new h.fresh (subst (λ l. Fresh p l k.new) h.grown k.fresh);
      all_known = λ i z at leads. by_split i z leads (split i at);
    }
      where
        by_split : (i : ℕ) (z : ModuleId) → Leads p x i z → P i ⊎ Q i → known p c (stands p z) ≡ true
        by_split i z leads (inl at) = ap (λ l. known p l (stands p z)) k.grown ∙ known_more b k.new (stands p z) (h.all_known i z at leads)
        by_split i z leads (inr at) = k.all_known i z at leads

    -- the same of places that lead nowhere else
    pub spread_wider : (P Q : ℕ → Type 0) {a b : List Reached} → ((i : ℕ) (z : ModuleId) → Q i → Leads p x i z → P i) → Spread p x from P a b → Spread p x from Q a b
    spread_wider P Q more h = record { new = h.new; grown = h.grown; led = h.led; fresh = h.fresh; all_known = λ i z at leads. h.all_known i z (more i z at leads) leads }
