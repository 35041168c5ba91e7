-- What GetExportedNames returns is what is offered. Assumes nothing.
use Rattle.std.proofs.Common.{◌≡◌, ℕ, zero, suc, true, false, ◌⊎◌, List, [], ◌∷◌, ◌++◌, is_some, Some, None, sym, refl, ap, ◌∙◌, subst, inl, inr}
use Rattle.std.proofs.lemmas.Bool.{false≢true, true≢false}
use Rattle.std.specs.List.{slice_get}
use Rattle.ids.specs.declared.numbers.ModuleId.{ModuleId}
use Rattle.ids.specs.declared.numbers.NameId.{NameId}
use Rattle.host.specs.Lookups.{within, symbol_at}
use Rattle.host.specs.Program.{Program}
use Rattle.host.specs.declared.told.ReExportAll.{ReExportAll}
use Rattle.resolution.specs.Targets.{target, stands, exports, module_symbol}
use Rattle.offering.specs.ExportedNames.{contains, has_name, own_names, star_entries, with_star_names, GetExportedNames, circular, collected, StarNames, over, lost, brought}
use Rattle.offering.specs.Offers.{Offers, own, passed}
use Rattle.resolution.specs.Laws.{Leads}
use Rattle.offering.proofs.Names.{either, contains_append, contains_kept, contains_last, own_has, stars_kept, stars_there, stars_from}

module _ (p : Program) where
  -- these entries are among the star export entries of x
  abbrev Among : ModuleId → List ReExportAll → Type 0
  Among x es = (k : ℕ) (e : ReExportAll) → slice_get es k ≡ Some e → (i : ℕ) × (slice_get (star_entries p x) i ≡ Some e)

  pub own_is : (x : ModuleId) (f : NameId) → has_name (own_names p x) f ≡ exports p x f
  own_is x f = own_has (within (λ s. s.exports) (symbol_at p x module_symbol)) f

  -- what is returned is offered

  mutual
    pub returned : (f : NameId) {set : List ModuleId} {x : ModuleId} {names : List NameId} {after : List ModuleId} → GetExportedNames p set x names after → has_name names f ≡ true → Offers p f x
    returned f (circular in_set) h = absurd (false≢true h)
    returned f (collected {x = x} fresh stars) h = returned_stars f stars (λ k e there. (k, there)) (λ o. own (sym (own_is x f) ∙ o)) h

    returned_stars : (f : NameId) {x : ModuleId} {es : List ReExportAll} {set : List ModuleId} {so_far names : List NameId} {after : List ModuleId} → StarNames p x es set so_far names after → Among x es → (has_name so_far f ≡ true → Offers p f x) → has_name names f ≡ true → Offers p f x
    returned_stars f over among before h = before h
    returned_stars f (lost nowhere stars) among before h = returned_stars f stars (λ k e there. among (suc k) e there) before h
    returned_stars f (brought {x = x} {y = y} {e = e} {so_far = so_far} {star_names = ns} leads call stars) among before h =
        returned_stars f stars (λ k e' there. among (suc k) e' there) (λ new. by_case (returned f call) (stars_from so_far ns f new)) h
      where
        by_case : (has_name ns f ≡ true → Offers p f (stands p y)) → (has_name so_far f ≡ true) ⊎ ((has_name ns f ≡ true) × (f.0 ≡ 0 → ⊥)) → Offers p f x
        by_case star (inl old) = before old
        by_case star (inr new) = let here = among zero e refl in passed {i = here.0} new.1 record { re_export_all = e; there = here.1; leads = leads } (star new.0)

  -- what the set has more than before is closed: its own names are returned, and what its export-alls lead to is in the set

  pub record Closed (set : List ModuleId) (names : List NameId) (after : List ModuleId) (y : ModuleId) : Type 0 where
    pub named : (f : NameId) → (f.0 ≡ 0 → ⊥) → exports p y f ≡ true → has_name names f ≡ true
    pub led : (i : ℕ) (z : ModuleId) → Leads p y i z → contains after (stands p z) ≡ true

  pub record Grown (set : List ModuleId) (names : List NameId) (after : List ModuleId) : Type 0 where
    pub kept : (y : ModuleId) → contains set y ≡ true → contains after y ≡ true
    pub closed : (y : ModuleId) → contains set y ≡ false → contains after y ≡ true → Closed set names after y

  -- after a call
  pub record Called (set : List ModuleId) (x : ModuleId) (names : List NameId) (after : List ModuleId) : Type 0 where
    pub grown : Grown set names after
    pub in_set : contains after x ≡ true
    pub has_own : (f : NameId) → contains set x ≡ false → exports p x f ≡ true → has_name names f ≡ true

  -- after star export entries
  pub record Starred (x : ModuleId) (es : List ReExportAll) (set : List ModuleId) (so_far names : List NameId) (after : List ModuleId) : Type 0 where
    pub grown : Grown set names after
    pub has_so_far : (f : NameId) → has_name so_far f ≡ true → has_name names f ≡ true
    pub led : (k : ℕ) (e : ReExportAll) (y : ModuleId) → slice_get es k ≡ Some e → target p x e.specifier ≡ Some y → contains after (stands p y) ≡ true

  called_fresh : (set : List ModuleId) (x : ModuleId) (names : List NameId) (after : List ModuleId) → Starred x (star_entries p x) (set ++ x ∷ []) (own_names p x) names after → Called set x names after
  called_fresh set x names after s = record {
    grown = record {
      kept = λ y h. s.grown.kept y (contains_kept set x y h);
      closed = λ y new h. closed y new h (either (contains (set ++ x ∷ []) y));
    };
    in_set = s.grown.kept x (contains_last set x);
    has_own = λ f new o. named f o;
  }
    where
      named : (f : NameId) → exports p x f ≡ true → has_name names f ≡ true
      named f o = s.has_so_far f (own_is x f ∙ o)

      itself : Closed set names after x
      itself = record { named = λ f _ o. named f o; led = λ i z leads. s.led i leads.re_export_all z leads.there leads.leads }

      closed : (y : ModuleId) → contains set y ≡ false → contains after y ≡ true → (contains (set ++ x ∷ []) y ≡ true) ⊎ (contains (set ++ x ∷ []) y ≡ false) → Closed set names after y
      closed y new h (inr other) = let c = s.grown.closed y other h in record { named = c.named; led = c.led }
      closed y new h (inl old) = elim (contains_append set x y old) [ inl c ↦ absurd (true≢false (sym c ∙ new)) | inr e ↦ subst (λ z. Closed set names after z) e itself ]

  starred_lost : (x : ModuleId) (e : ReExportAll) (es : List ReExportAll) (set : List ModuleId) (so_far names : List NameId) (after : List ModuleId) → target p x e.specifier ≡ None → Starred x es set so_far names after → Starred x (e ∷ es) set so_far names after
  starred_lost x e es set so_far names after nowhere s = record { grown = s.grown; has_so_far = s.has_so_far; led = led }
    where
      led : (k : ℕ) (e' : ReExportAll) (y : ModuleId) → slice_get (e ∷ es) k ≡ Some e' → target p x e'.specifier ≡ Some y → contains after (stands p y) ≡ true
      led zero e' y there leads =
          let same : e ≡ e' = cc in
          absurd (true≢false (ap is_some (sym leads ∙ ap (λ r. target p x r.specifier) (sym same) ∙ nowhere)))
      led (suc k) e' y there leads = s.led k e' y there leads

  starred_brought : (x y : ModuleId) (e : ReExportAll) (es : List ReExportAll) (set between after : List ModuleId) (so_far ns names : List NameId) → target p x e.specifier ≡ Some y → Called set (stands p y) ns between → Starred x es between (with_star_names so_far ns) names after → Starred x (e ∷ es) set so_far names after
  starred_brought x y e es set between after so_far ns names leads call s = record {
    grown = record {
      kept = λ z h. s.grown.kept z (call.grown.kept z h);
      closed = λ z new h. closed z new h (either (contains between z));
    };
    has_so_far = λ f h. s.has_so_far f (stars_kept so_far ns f h);
    led = led;
  }
    where
      closed : (z : ModuleId) → contains set z ≡ false → contains after z ≡ true → (contains between z ≡ true) ⊎ (contains between z ≡ false) → Closed set names after z
      closed z new h (inl old) =
          let c = call.grown.closed z new old in
          record {
            named = λ f not_default o. s.has_so_far f (stars_there so_far ns f (c.named f not_default o) not_default);
            led = λ i u l. s.grown.kept (stands p u) (c.led i u l);
          }
      closed z new h (inr other) = let c = s.grown.closed z other h in record { named = c.named; led = c.led }

      led : (k : ℕ) (e' : ReExportAll) (z : ModuleId) → slice_get (e ∷ es) k ≡ Some e' → target p x e'.specifier ≡ Some z → contains after (stands p z) ≡ true
      led zero e' z there to =
          let same : e ≡ e' = cc in
          let at : Some y ≡ Some z = sym leads ∙ ap (λ r. target p x r.specifier) same ∙ to in
          let is : y ≡ z = cc in
          s.grown.kept (stands p z) (subst (λ u. contains between (stands p u) ≡ true) is call.in_set)
      led (suc k) e' z there to = s.led k e' z there to

  mutual
    pub called : {set : List ModuleId} {x : ModuleId} {names : List NameId} {after : List ModuleId} → GetExportedNames p set x names after → Called set x names after
    called (circular in_set) = record {
      grown = record { kept = λ y h. h; closed = λ y new h. absurd (true≢false (sym h ∙ new)) };
      in_set = in_set;
      has_own = λ f new o. absurd (true≢false (sym in_set ∙ new));
    }
    called (collected {set = set} {x = x} {names = names} {after = after} fresh stars) = called_fresh set x names after (starred stars)

    starred : {x : ModuleId} {es : List ReExportAll} {set : List ModuleId} {so_far names : List NameId} {after : List ModuleId} → StarNames p x es set so_far names after → Starred x es set so_far names after
    starred over = record {
      grown = record { kept = λ y h. h; closed = λ y new h. absurd (true≢false (sym h ∙ new)) };
      has_so_far = λ f h. h;
      led = λ k e y there leads. absurd (true≢false (ap is_some (sym there)));
    }
    starred (lost {x = x} {e = e} {es = es} {set = set} {so_far = so_far} {names = names} {after = after} nowhere stars) = starred_lost x e es set so_far names after nowhere (starred stars)
    starred (brought {x = x} {y = y} {e = e} {es = es} {set = set} {between = between} {after = after} {so_far = so_far} {star_names = ns} {names = names} leads call stars) = starred_brought x y e es set between after so_far ns names leads (called call) (starred stars)

  -- what is offered is returned

  offered_in : (f : NameId) (names : List NameId) (after : List ModuleId) → (f.0 ≡ 0 → ⊥) → ((y : ModuleId) → contains after y ≡ true → Closed [] names after y) → (y : ModuleId) → contains after y ≡ true → Offers p f y → has_name names f ≡ true
  offered_in f names after not_default closed y h (own o) = (closed y h).named f not_default o
  offered_in f names after not_default closed y h (passed {y = z} {i = i} _ leads o) = offered_in f names after not_default closed (stands p z) ((closed y h).led i z leads) o

  pub offered : (f : NameId) (x : ModuleId) (names : List NameId) (after : List ModuleId) → GetExportedNames p [] x names after → Offers p f x → has_name names f ≡ true
  offered f x names after g (own o) = (called g).has_own f refl o
  offered f x names after g (passed {y = z} {i = i} not_default leads o) =
      offered_in f names after not_default (λ y h. (called g).grown.closed y refl h) x (called g).in_set (passed not_default leads o)
