-- GetExportedNames ends: each call puts a module into the set, and there are only so many. Assumes nothing.
use Rattle.std.proofs.Common.{◌≡◌, ℕ, zero, suc, ◌<◌, ◌≤◌, Bool, true, false, cond, ◌⊎◌, List, [], ◌∷◌, ◌++◌, length, Some, None, Option, sym, refl, ap, ◌∙◌, subst, inl, inr, arith}
use Rattle.std.proofs.lemmas.Option.{slice_get_past}
use Rattle.std.proofs.lemmas.Bool.{cases_eq, cases_lt, true≢false}
use Rattle.ids.specs.declared.numbers.ModuleId.{ModuleId}
use Rattle.ids.specs.declared.numbers.NameId.{NameId}
use Rattle.host.specs.Lookups.{within}
use Rattle.host.specs.Program.{Program}
use Rattle.host.specs.declared.told.ReExportAll.{ReExportAll}
use Rattle.resolution.specs.Targets.{target, stands}
use Rattle.offering.specs.ExportedNames.{contains, own_names, star_entries, with_star_names, GetExportedNames, circular, collected, StarNames, over, lost, brought}
use Rattle.offering.proofs.Exported.{called}
use Rattle.offering.proofs.Names.{either, contains_kept, contains_last}

abbrev module_number : ℕ → ModuleId
module_number n = record { 0 = n }

-- how many of the first n modules are not in a set
pub missing : ℕ → List ModuleId → ℕ
missing zero set = 0
missing (suc n) set = cond (contains set (module_number n)) (missing n set) (suc (missing n set))

pub missing_fewer : (n : ℕ) (set after : List ModuleId) → ((y : ModuleId) → contains set y ≡ true → contains after y ≡ true) → missing n after ≤ missing n set
unfolding missing
missing_fewer zero set after kept = omega arith
missing_fewer (suc n) set after kept = by_tests (missing_fewer n set after kept) (contains set (module_number n)) (contains after (module_number n)) (kept (module_number n))
  where
    by_tests : missing n after ≤ missing n set → (b c : Bool) → (b ≡ true → c ≡ true) → cond c (missing n after) (suc (missing n after)) ≤ cond b (missing n set) (suc (missing n set))
    by_tests rest true true h = rest
    by_tests rest true false h = absurd (true≢false (sym (h refl)))
    by_tests rest false true h = omega arith
    by_tests rest false false h = omega arith

pub missing_less : (n : ℕ) (set : List ModuleId) (x : ModuleId) → x.0 < n → contains set x ≡ false → missing n (set ++ x ∷ []) < missing n set
unfolding missing
missing_less zero set x within new = absurd (omega arith)
missing_less (suc n) set x within new = by_place (missing_less n set x) (cases_eq x.0 n)
  where
    last : x.0 ≡ n → missing (suc n) (set ++ x ∷ []) < missing (suc n) set
    last e =
        let a : contains set (module_number n) ≡ false = sym (ap (λ k. contains set (module_number k)) e) ∙ new in
        let b : contains (set ++ x ∷ []) (module_number n) ≡ true = sym (ap (λ k. contains (set ++ x ∷ []) (module_number k)) e) ∙ contains_last set x in
        let l = ap (λ t. cond t (missing n (set ++ x ∷ [])) (suc (missing n (set ++ x ∷ [])))) b in
        let r = ap (λ t. cond t (missing n set) (suc (missing n set))) a in
        let m = missing_fewer n set (set ++ x ∷ []) (contains_kept set x) in
        omega (arith, l, r, m)

    earlier : missing n (set ++ x ∷ []) < missing n set → (b c : Bool) → (b ≡ true → c ≡ true) → cond c (missing n (set ++ x ∷ [])) (suc (missing n (set ++ x ∷ []))) < cond b (missing n set) (suc (missing n set))
    earlier rest true true h = rest
    earlier rest true false h = absurd (true≢false (sym (h refl)))
    earlier rest false true h = omega arith
    earlier rest false false h = omega arith

    by_place : (x.0 < n → contains set x ≡ false → missing n (set ++ x ∷ []) < missing n set) → (x.0 ≡ n) ⊎ (x.0 ≡ n → ⊥) → missing (suc n) (set ++ x ∷ []) < missing (suc n) set
    by_place rest (inl e) = last e
    by_place rest (inr other) = earlier (rest (omega arith) new) (contains set (module_number n)) (contains (set ++ x ∷ []) (module_number n)) (contains_kept set x (module_number n))

module _ (p : Program) where
  abbrev Ends : List ModuleId → ModuleId → Type 0
  Ends set x = (names : List NameId) × (after : List ModuleId) × GetExportedNames p set x names after

  abbrev StarsEnd : ModuleId → List ReExportAll → List ModuleId → List NameId → Type 0
  StarsEnd x es set so_far = (names : List NameId) × (after : List ModuleId) × StarNames p x es set so_far names after

  -- entries one after another, where each call ends as long as at most k modules are missing
  stars_end : (k : ℕ) → ((set : List ModuleId) (x : ModuleId) → missing (length p.modules) set ≤ k → Ends set x) → (x : ModuleId) (es : List ReExportAll) (set : List ModuleId) (so_far : List NameId) → missing (length p.modules) set ≤ k → StarsEnd x es set so_far
  stars_end k call x [] set so_far h = (so_far, set, over)
  stars_end k call x (e ∷ es) set so_far h = by_target (target p x e.specifier) refl (stars_end k call x es)
    where
      by_target : (t : Option ModuleId) → target p x e.specifier ≡ t → ((set' : List ModuleId) (so-far' : List NameId) → missing (length p.modules) set' ≤ k → StarsEnd x es set' so-far') → StarsEnd x (e ∷ es) set so_far
      by_target None nowhere rest = let r = rest set so_far h in (r.0, r.1, lost nowhere r.2)
      by_target (Some y) leads rest =
          let c = call set (stands p y) h in
          let fewer = missing_fewer (length p.modules) set c.1 (called p c.2).grown.kept in
          let r = rest c.1 (with_star_names so_far c.0) (omega (arith, fewer)) in
          (r.0, r.1, brought leads c.2 r.2)

  -- past the last module there is no entry
  past_entries : (x : ModuleId) → length p.modules ≤ x.0 → star_entries p x ≡ []
  past_entries x past = ap (within (λ m. m.re_export_alls)) (slice_get_past p.modules x.0 past)

  -- a call at a module in the set, or past the last
  ends_at_once : (set : List ModuleId) (x : ModuleId) → (contains set x ≡ true) ⊎ ((contains set x ≡ false) × (length p.modules ≤ x.0)) → Ends set x
  ends_at_once set x (inl in_set) = ([], set, circular in_set)
  ends_at_once set x (inr there) = (own_names p x, set ++ x ∷ [], collected there.0 (subst (λ es. StarNames p x es (set ++ x ∷ []) (own_names p x) (own_names p x) (set ++ x ∷ [])) (sym (past_entries x there.1)) over))

  call_ends : (k : ℕ) (set : List ModuleId) (x : ModuleId) → missing (length p.modules) set ≤ k → Ends set x
  call_ends zero set x h = by_case (either (contains set x)) (cases_lt x.0 (length p.modules))
    where
      by_case : (contains set x ≡ true) ⊎ (contains set x ≡ false) → (x.0 < length p.modules) ⊎ (length p.modules ≤ x.0) → Ends set x
      by_case (inl in_set) place = ends_at_once set x (inl in_set)
      by_case (inr new) (inl inside) = absurd (omega (arith, missing_less (length p.modules) set x inside new))
      by_case (inr new) (inr past) = ends_at_once set x (inr (new, past))
  call_ends (suc k) set x h = by_case (call_ends k) (either (contains set x)) (cases_lt x.0 (length p.modules))
    where
      by_case : ((set' : List ModuleId) (y : ModuleId) → missing (length p.modules) set' ≤ k → Ends set' y) → (contains set x ≡ true) ⊎ (contains set x ≡ false) → (x.0 < length p.modules) ⊎ (length p.modules ≤ x.0) → Ends set x
      by_case call (inl in_set) place = ends_at_once set x (inl in_set)
      by_case call (inr new) (inl inside) =
          let s = stars_end k call x (star_entries p x) (set ++ x ∷ []) (own_names p x) (omega (arith, missing_less (length p.modules) set x inside new)) in
          (s.0, s.1, collected new s.2)
      by_case call (inr new) (inr past) = ends_at_once set x (inr (new, past))

  pub ends : (x : ModuleId) → Ends [] x
  ends x = call_ends (missing (length p.modules) []) [] x (omega arith)
