-- Where the way is followed to is where it ends. Assumes nothing.
use Rattle.std.proofs.Common.{◌≡◌, ℕ, zero, suc, ◌+◌, ◌-◌, ◌≤◌, Bool, true, false, cond, eqb, List, [], ◌∷◌, ◌++◌, length, Some, None, Decides, Option, sym, refl, ap, ◌∙◌, subst, arith}
use Rattle.std.proofs.lemmas.List.{length_push}
use Rattle.std.proofs.lemmas.Bool.{ne_eqb}
use Rattle.std.proofs.lemmas.Bool.Decides.{Decides-by_or, Decides-eqb, not_from_Decides}
use Rattle.ids.specs.declared.numbers.ModuleId.{ModuleId}
use Rattle.redirects.specs.Ends.{Goes, NoneStarts, Seen, Way, stay, go, Stops, none_starts, comes_back, ten_seen, Ends}
use Rattle.redirects.specs.Following.{seen_limit, next, seen_before, walk, followed}
use Rattle.redirects.specs.declared.redirect.Redirect.{Redirect}
use Rattle.redirects.proofs.Steps.{walk_none, walk_seen, walk_on}

-- what a search for a redirect tells

abbrev Told : List Redirect → ModuleId → Option ModuleId → Type 0
Told rs m None = NoneStarts rs m
Told rs m (Some to) = Goes rs m to

later : (r : Redirect) (rs : List Redirect) (m : ModuleId) → (r.from.0 ≡ m.0 → ⊥) → (o : Option ModuleId) → Told rs m o → Told (r ∷ rs) m o
later r rs m other None h = (other, h)
later r rs m other (Some to) h = (suc h.0, omega (arith, h.1), h.2)

next_told : (rs : List Redirect) (m : ModuleId) → Told rs m (next rs m)
next_told [] m = tt
next_told (r ∷ rs) m = by_case (eqb r.from.0 m.0) (Decides-eqb r.from.0 m.0) (next_told rs m)
  where
    by_case : (b : Bool) → Decides b (r.from.0 ≡ m.0) → Told rs m (next rs m) → Told (r ∷ rs) m (cond b (Some r.to) (next rs m))
    by_case true d rest = (0, omega arith, λ _. (d.0 refl, refl))
    by_case false d rest = later r rs m (not_from_Decides false d refl) (next rs m) rest

none_next : (rs : List Redirect) (m : ModuleId) → NoneStarts rs m → next rs m ≡ None
none_next [] m h = refl
none_next (r ∷ rs) m h = ap (λ b. cond b (Some r.to) (next rs m)) (ne_eqb r.from.0 m.0 h.0) ∙ none_next rs m h.1

decides_seen : (m : ModuleId) (seen : List ModuleId) → Decides (seen_before m seen) (Seen m seen)
decides_seen m seen = Decides-by_or (λ s. eqb s.0 m.0) (λ s. s.0 ≡ m.0) (seen_before m) (λ s. Decides-eqb s.0 m.0) refl (λ _ _. refl) seen

-- the whole way

record Found (rs : List Redirect) (start end : ModuleId) : Type 0 where
  seen : List ModuleId
  way : Way rs start seen end
  few : length seen ≤ seen_limit
  why : Stops rs seen end

module _ (rs : List Redirect) (start : ModuleId) where
  walk_found : (k : ℕ) (seen : List ModuleId) (m : ModuleId) → Way rs start seen m → length seen + k ≡ seen_limit → Found rs start (walk rs k seen m)
  walk_found zero seen m way left = record { seen = seen; way = way; few = omega arith; why = ten_seen (omega arith) }
  walk_found (suc k) seen m way left = by_next (next rs m) refl (next_told rs m) (λ to. walk_found k (seen ++ to ∷ []) to)
    where
      by_seen : (to : ModuleId) → next rs m ≡ Some to → Goes rs m to → (Way rs start (seen ++ to ∷ []) to → length (seen ++ to ∷ []) + k ≡ seen_limit → Found rs start (walk rs k (seen ++ to ∷ []) to)) → (b : Bool) → seen_before to seen ≡ b → Found rs start (walk rs (suc k) seen m)
      by_seen to is goes on true old = subst (Found rs start) (sym (walk_seen rs seen m (suc k) to is old)) (record { seen = seen; way = way; few = omega arith; why = comes_back to goes ((decides_seen to seen).0 old) })
      by_seen to is goes on false new = subst (Found rs start) (sym (walk_on rs seen m (suc k) k to refl is new)) (on (go way goes (not_from_Decides (seen_before to seen) (decides_seen to seen) new)) (omega (arith, length_push seen to)))

      by_next : (o : Option ModuleId) → next rs m ≡ o → Told rs m o → ((to : ModuleId) → Way rs start (seen ++ to ∷ []) to → length (seen ++ to ∷ []) + k ≡ seen_limit → Found rs start (walk rs k (seen ++ to ∷ []) to)) → Found rs start (walk rs (suc k) seen m)
      by_next None is none on = subst (Found rs start) (sym (walk_none rs seen m (suc k) is)) (record { seen = seen; way = way; few = omega arith; why = none_starts none })
      by_next (Some to) is goes on = by_seen to is goes (on to) (seen_before to seen) refl

pub ends : (rs : List Redirect) (start : ModuleId) → Ends rs start (followed rs start)
unfolding followed
ends rs start =
    let all = walk_found rs start (seen_limit - 1) (start ∷ []) start stay refl in
    record { seen = all.seen; way = all.way; few = all.few; why = all.why; unmoved = λ none. walk_none rs (start ∷ []) start (seen_limit - 1) (none_next rs start none) }
