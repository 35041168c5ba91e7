-- Lists of names and sets of modules. Assumes nothing.
use Rattle.std.proofs.Common.{◌≡◌, Bool, true, false, cond, ◌||◌, eqb, ◌⊎◌, List, [], ◌∷◌, ◌++◌, map, sym, refl, ap, ◌∙◌, inl, inr}
use Rattle.std.proofs.lemmas.Bool.{eqb-true, eq-eqb, false≢true, true≢false, or_cases, or_left, or_right}
use Rattle.ids.specs.declared.numbers.ModuleId.{ModuleId}
use Rattle.ids.specs.declared.numbers.NameId.{NameId}
use Rattle.host.specs.declared.told.Export.{Export}
use Rattle.resolution.specs.Targets.{has_export}
use Rattle.offering.specs.ExportedNames.{contains, has_name, with_new, with_star_names}

pub either : (b : Bool) → (b ≡ true) ⊎ (b ≡ false)
either true = inl refl
either false = inr refl

-- sets of modules

pub same_module : (x y : ModuleId) → x.0 ≡ y.0 → x ≡ y
same_module x y e = ap (λ n. record { 0 = n }) e

pub contains_append : (set : List ModuleId) (x y : ModuleId) → contains (set ++ x ∷ []) y ≡ true → (contains set y ≡ true) ⊎ (x ≡ y)
contains_append [] x y h = elim (or_cases (eqb x.0 y.0) false h) [ inl e ↦ inr (same_module x y (eqb-true x.0 y.0 e)) | inr f ↦ absurd (false≢true f) ]
contains_append (z ∷ set) x y h = by_case (or_cases (eqb z.0 y.0) (contains (set ++ x ∷ []) y) h) (contains_append set x y)
  where
    by_case : (eqb z.0 y.0 ≡ true) ⊎ (contains (set ++ x ∷ []) y ≡ true) → (contains (set ++ x ∷ []) y ≡ true → (contains set y ≡ true) ⊎ (x ≡ y)) → (contains (z ∷ set) y ≡ true) ⊎ (x ≡ y)
    by_case (inl e) rest = inl (or_left (eqb z.0 y.0) (contains set y) e)
    by_case (inr r) rest = elim (rest r) [ inl c ↦ inl (or_right (eqb z.0 y.0) (contains set y) c) | inr e ↦ inr e ]

pub contains_kept : (set : List ModuleId) (x y : ModuleId) → contains set y ≡ true → contains (set ++ x ∷ []) y ≡ true
contains_kept [] x y h = absurd (false≢true h)
contains_kept (z ∷ set) x y h = by_case (or_cases (eqb z.0 y.0) (contains set y) h) (contains_kept set x y)
  where
    by_case : (eqb z.0 y.0 ≡ true) ⊎ (contains set y ≡ true) → (contains set y ≡ true → contains (set ++ x ∷ []) y ≡ true) → contains (z ∷ (set ++ x ∷ [])) y ≡ true
    by_case (inl e) rest = or_left (eqb z.0 y.0) (contains (set ++ x ∷ []) y) e
    by_case (inr r) rest = or_right (eqb z.0 y.0) (contains (set ++ x ∷ []) y) (rest r)

pub contains_last : (set : List ModuleId) (x : ModuleId) → contains (set ++ x ∷ []) x ≡ true
contains_last [] x = or_left (eqb x.0 x.0) false (eq-eqb x.0 x.0 refl)
contains_last (z ∷ set) x = or_right (eqb z.0 x.0) (contains (set ++ x ∷ []) x) (contains_last set x)

-- lists of names

same_name : (n f : NameId) → n.0 ≡ f.0 → n ≡ f
same_name n f e = ap (λ k. record { 0 = k }) e

pub own_has : (es : List Export) (f : NameId) → has_name (map (λ e. e.name) es) f ≡ has_export es f
own_has [] f = refl
own_has (e ∷ es) f = ap (λ b. eqb e.name.0 f.0 || b) (own_has es f)

name_append : (names : List NameId) (n f : NameId) → has_name (names ++ n ∷ []) f ≡ true → (has_name names f ≡ true) ⊎ (n.0 ≡ f.0)
name_append [] n f h = elim (or_cases (eqb n.0 f.0) false h) [ inl e ↦ inr (eqb-true n.0 f.0 e) | inr g ↦ absurd (false≢true g) ]
name_append (m ∷ names) n f h = by_case (or_cases (eqb m.0 f.0) (has_name (names ++ n ∷ []) f) h) (name_append names n f)
  where
    by_case : (eqb m.0 f.0 ≡ true) ⊎ (has_name (names ++ n ∷ []) f ≡ true) → (has_name (names ++ n ∷ []) f ≡ true → (has_name names f ≡ true) ⊎ (n.0 ≡ f.0)) → (has_name (m ∷ names) f ≡ true) ⊎ (n.0 ≡ f.0)
    by_case (inl e) rest = inl (or_left (eqb m.0 f.0) (has_name names f) e)
    by_case (inr r) rest = elim (rest r) [ inl c ↦ inl (or_right (eqb m.0 f.0) (has_name names f) c) | inr e ↦ inr e ]

name_kept : (names : List NameId) (n f : NameId) → has_name names f ≡ true → has_name (names ++ n ∷ []) f ≡ true
name_kept [] n f h = absurd (false≢true h)
name_kept (m ∷ names) n f h = by_case (or_cases (eqb m.0 f.0) (has_name names f) h) (name_kept names n f)
  where
    by_case : (eqb m.0 f.0 ≡ true) ⊎ (has_name names f ≡ true) → (has_name names f ≡ true → has_name (names ++ n ∷ []) f ≡ true) → has_name (m ∷ (names ++ n ∷ [])) f ≡ true
    by_case (inl e) rest = or_left (eqb m.0 f.0) (has_name (names ++ n ∷ []) f) e
    by_case (inr r) rest = or_right (eqb m.0 f.0) (has_name (names ++ n ∷ []) f) (rest r)

name_last : (names : List NameId) (n f : NameId) → n.0 ≡ f.0 → has_name (names ++ n ∷ []) f ≡ true
name_last [] n f e = or_left (eqb n.0 f.0) false (eq-eqb n.0 f.0 e)
name_last (m ∷ names) n f e = or_right (eqb m.0 f.0) (has_name (names ++ n ∷ []) f) (name_last names n f e)

-- one name of a star export entry

abbrev passed_over : List NameId → NameId → Bool
passed_over names n = eqb n.0 0 || has_name names n

new_kept : (names : List NameId) (n f : NameId) → has_name names f ≡ true → has_name (with_new names n) f ≡ true
new_kept names n f h = by_test (passed_over names n)
  where
    by_test : (b : Bool) → has_name (cond b names (names ++ n ∷ [])) f ≡ true
    by_test true = h
    by_test false = name_kept names n f h

new_there : (names : List NameId) (n f : NameId) → n.0 ≡ f.0 → (f.0 ≡ 0 → ⊥) → has_name (with_new names n) f ≡ true
new_there names n f e not_default = by_test (passed_over names n) refl
  where
    there : passed_over names n ≡ true → has_name names f ≡ true
    there t = elim (or_cases (eqb n.0 0) (has_name names n) t) [ inl z ↦ absurd (not_default (sym e ∙ eqb-true n.0 0 z)) | inr h ↦ sym (ap (has_name names) (same_name n f e)) ∙ h ]

    by_test : (b : Bool) → passed_over names n ≡ b → has_name (cond b names (names ++ n ∷ [])) f ≡ true
    by_test true t = there t
    by_test false t = name_last names n f e

new_from : (names : List NameId) (n f : NameId) → has_name (with_new names n) f ≡ true → (has_name names f ≡ true) ⊎ ((n.0 ≡ f.0) × (f.0 ≡ 0 → ⊥))
new_from names n f h = by_test (passed_over names n) refl h
  where
    not_default : passed_over names n ≡ false → n.0 ≡ f.0 → f.0 ≡ 0 → ⊥
    not_default t e z = true≢false (sym (or_left (eqb n.0 0) (has_name names n) (eq-eqb n.0 0 (e ∙ z))) ∙ t)

    by_test : (b : Bool) → passed_over names n ≡ b → has_name (cond b names (names ++ n ∷ [])) f ≡ true → (has_name names f ≡ true) ⊎ ((n.0 ≡ f.0) × (f.0 ≡ 0 → ⊥))
    by_test true t k = inl k
    by_test false t k = elim (name_append names n f k) [ inl c ↦ inl c | inr e ↦ inr (e, not_default t e) ]

-- all names of a star export entry

pub stars_kept : (names ns : List NameId) (f : NameId) → has_name names f ≡ true → has_name (with_star_names names ns) f ≡ true
stars_kept names [] f h = h
stars_kept names (n ∷ ns) f h = stars_kept (with_new names n) ns f (new_kept names n f h)

pub stars_there : (names ns : List NameId) (f : NameId) → has_name ns f ≡ true → (f.0 ≡ 0 → ⊥) → has_name (with_star_names names ns) f ≡ true
stars_there names [] f h not_default = absurd (false≢true h)
stars_there names (n ∷ ns) f h not_default = by_case (or_cases (eqb n.0 f.0) (has_name ns f) h) (λ r. stars_there (with_new names n) ns f r not_default)
  where
    by_case : (eqb n.0 f.0 ≡ true) ⊎ (has_name ns f ≡ true) → (has_name ns f ≡ true → has_name (with_star_names (with_new names n) ns) f ≡ true) → has_name (with_star_names (with_new names n) ns) f ≡ true
    by_case (inl e) rest = stars_kept (with_new names n) ns f (new_there names n f (eqb-true n.0 f.0 e) not_default)
    by_case (inr r) rest = rest r

pub stars_from : (names ns : List NameId) (f : NameId) → has_name (with_star_names names ns) f ≡ true → (has_name names f ≡ true) ⊎ ((has_name ns f ≡ true) × (f.0 ≡ 0 → ⊥))
stars_from names [] f h = inl h
stars_from names (n ∷ ns) f h = by_case (stars_from (with_new names n) ns f h)
  where
    by_new : (has_name names f ≡ true) ⊎ ((n.0 ≡ f.0) × (f.0 ≡ 0 → ⊥)) → (has_name names f ≡ true) ⊎ ((has_name (n ∷ ns) f ≡ true) × (f.0 ≡ 0 → ⊥))
    by_new (inl old) = inl old
    by_new (inr new) = inr (or_left (eqb n.0 f.0) (has_name ns f) (eq-eqb n.0 f.0 new.0), new.1)

    by_case : (has_name (with_new names n) f ≡ true) ⊎ ((has_name ns f ≡ true) × (f.0 ≡ 0 → ⊥)) → (has_name names f ≡ true) ⊎ ((has_name (n ∷ ns) f ≡ true) × (f.0 ≡ 0 → ⊥))
    by_case (inl first) = by_new (new_from names n f first)
    by_case (inr later) = inr (or_right (eqb n.0 f.0) (has_name ns f) later.0, later.1)
