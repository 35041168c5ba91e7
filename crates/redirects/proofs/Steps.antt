-- One step of a way, and of the search for the redirect that it takes. Assumes nothing.
use Rattle.std.specs.Prelude.{◌≡◌, ℕ, zero, suc, ◌<◌, Bool, true, false, cond, ◌&&◌, List, [], ◌∷◌, ◌++◌, length, Some, None, Option, Decides, ◌==◌, nat_eq, refl}
use Rattle.std.proofs.Common.{Bor, sym, ap, ◌∙◌, arith}
use Rattle.std.proofs.lemmas.Bool.{eqb-true, eqb-false, true≢false}
use Rattle.std.proofs.lemmas.Bool.Decides.{Decides-by_or, Decides-eqb, same_from_decides}
use Rattle.std.specs.Option.{option_map}
use Rattle.std.specs.List.{HoldsAt, IsAnyAnswer, find}
use Rattle.ids.specs.declared.numbers.ModuleId.{ModuleId}
use Rattle.redirects.specs.Following.{stays, usable, next, seen_before, walk}
use Rattle.redirects.specs.Steps.{onward, walk_more}
use Rattle.redirects.specs.declared.redirect.Redirect.{Redirect}

-- the search, one redirect on

next_usable : (n : ℕ) (r : Redirect) (rs : List Redirect) (m : ModuleId) → next (usable n (r ∷ rs)) m ≡ cond (r.from.0 == m.0 && stays n r) (Some r.to) (next (usable n rs) m)
next_usable n r rs m = by_case (stays n r) (r.from.0 == m.0) refl
  where
    by_case : (s e : Bool) → (r.from.0 == m.0) ≡ e → next (cond s (r ∷ usable n rs) (usable n rs)) m ≡ cond (e && s) (Some r.to) (next (usable n rs) m)
    by_case true true is = ap (λ b. cond b (Some r.to) (next (usable n rs) m)) is
    by_case true false is = ap (λ b. cond b (Some r.to) (next (usable n rs) m)) is
    by_case false true is = refl
    by_case false false is = refl

-- the redirect that `find` answers is the next one
next_as_found : (n : ℕ) (rs : List Redirect) (m : ModuleId) → next (usable n rs) m ≡ option_map (λ r. r.to) (find (λ r. r.from.0 == m.0 && stays n r) rs)
next_as_found n [] m = refl
next_as_found n (r ∷ rs) m = next_usable n r rs m ∙ by_case (r.from.0 == m.0 && stays n r) (next_as_found n rs m)
  where
    by_case : (b : Bool) → next (usable n rs) m ≡ option_map (λ r. r.to) (find (λ r. r.from.0 == m.0 && stays n r) rs) → cond b (Some r.to) (next (usable n rs) m) ≡ option_map (λ r. r.to) (cond b (Some r) (find (λ r. r.from.0 == m.0 && stays n r) rs))
    by_case true rest = refl
    by_case false rest = rest

pub next_found : (n : ℕ) (rs : List Redirect) (m : ModuleId) (o : Option (Bor Redirect)) (t : Option ModuleId) → option_map (λ x. x.now) o ≡ find (λ r. r.from.0 == m.0 && stays n r) rs → t ≡ option_map (λ x. x.now.to) o → t ≡ next (usable n rs) m
next_found n rs m o t is to = to ∙ by_case o ∙ ap (option_map (λ r. r.to)) is ∙ sym (next_as_found n rs m)
  where
    by_case : (o : Option (Bor Redirect)) → option_map (λ x. x.now.to) o ≡ option_map (λ r. r.to) (option_map (λ x. x.now) o)
    by_case None = refl
    by_case (Some x) = refl

-- whether a module has been seen, as `contains` answers it

pub contains_seen : (t : ModuleId) (seen : List ModuleId) (r : Bool) → IsAnyAnswer (λ s b. (s.0 == t.0) ≡ b) seen r → r ≡ seen_before t seen
contains_seen t seen r h = same_from_decides r (seen_before t seen) (found r h) (Decides-by_or (λ s. nat_eq s.0 t.0) (λ s. s.0 ≡ t.0) (seen_before t) (λ s. Decides-eqb s.0 t.0) refl (λ _ _. refl) seen)
  where
    found : (r : Bool) → IsAnyAnswer (λ s b. (s.0 == t.0) ≡ b) seen r → Decides r ((k : ℕ) × (k < length seen) × HoldsAt (λ s. s.0 ≡ t.0) seen k)
    found true h = (λ _. (h.0, h.1, λ d. eqb-true _ _ (h.2 d)), λ _. refl)
    found false h = (λ e. absurd (true≢false (sym e)), λ at. absurd (eqb-false _ _ (h at.0 t (omega arith) at.1) (at.2 t)))

-- the way, one module on

module _ (rs : List Redirect) (seen : List ModuleId) (m : ModuleId) where
  pub walk_none : (k : ℕ) → next rs m ≡ None → walk rs k seen m ≡ m
  walk_none zero none = refl
  walk_none (suc k) none = walk_more rs seen m k ∙ ap (onward rs seen m k) none

  pub walk_seen : (k : ℕ) (t : ModuleId) → next rs m ≡ Some t → seen_before t seen ≡ true → walk rs k seen m ≡ m
  walk_seen zero t to old = refl
  walk_seen (suc k) t to old = walk_more rs seen m k ∙ ap (onward rs seen m k) to ∙ ap (λ b. cond b m (walk rs k (seen ++ t ∷ []) t)) old

  pub walk_on : (k j : ℕ) (t : ModuleId) → k ≡ suc j → next rs m ≡ Some t → seen_before t seen ≡ false → walk rs k seen m ≡ walk rs j (seen ++ t ∷ []) t
  walk_on k j t is to new = ap (λ k. walk rs k seen m) is ∙ walk_more rs seen m j ∙ ap (onward rs seen m j) to ∙ ap (λ b. cond b m (walk rs j (seen ++ t ∷ []) t)) new
