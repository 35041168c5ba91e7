-- A program with redirects followed keeps the rules. Assumes nothing.
use Rattle.std.specs.Prelude.{◌≡◌, ℕ, zero, suc, ◌-◌, ◌<◌, ◌≤◌, true, List, [], ◌∷◌, ◌++◌, map, length, IfSome, Some, None, Option, ◌==◌, refl}
use Rattle.std.proofs.Common.{sym, ap, subst, ◌∙◌}
use Rattle.std.proofs.ByRecursion.{All-map, All-weaker, kept_by_passes}
use Rattle.std.proofs.lemmas.List.{length-map}
use Rattle.std.proofs.lemmas.Bool.{cond_both, ltb-true}
use Rattle.std.specs.Option.{option_map}
use Rattle.std.specs.List.{AllByRecursion, slice_get}
use Rattle.ids.specs.declared.numbers.ModuleId.{ModuleId}
use Rattle.host.proofs.Decided.{decides_kept}
use Rattle.host.specs.Program.{Module, Package, Program}
use Rattle.host.specs.Rules.{list_limit, AllAt, Distinct, DependencyKept, ListsKept, is_typed, ModuleKept, owner_of, EntryKept, EntriesKept, PackageKept, Kept}
use Rattle.host.specs.Tests.{valid}
use Rattle.host.specs.declared.told.Dependency.{Dependency}
use Rattle.redirects.specs.Following.{seen_limit, stays, usable, next, seen_before, walk, followed}
use Rattle.redirects.specs.Layers.{sent_dependency, sent_module, sent, sends, redirected}
use Rattle.redirects.specs.declared.redirect.Redirect.{Redirect}
use Rattle.redirects.specs.Steps.{onward, walk_more}

-- a way stays below a number that every redirect stays below

module _ (n : ℕ) where
  abbrev Below : ModuleId → Type 0
  Below m = m.0 < n

  next_below : (rs : List Redirect) (m : ModuleId) → AllByRecursion (λ r. Below r.to) rs → IfSome (next rs m) Below
  next_below [] m h = tt
  next_below (r ∷ rs) m h = cond_both (r.from.0 == m.0) (Some r.to) (next rs m) (λ o. IfSome o Below) (λ _. h.0) (λ _. next_below rs m h.1)

  walk_below : (rs : List Redirect) → AllByRecursion (λ r. Below r.to) rs → (k : ℕ) (seen : List ModuleId) (m : ModuleId) → Below m → Below (walk rs k seen m)
  walk_below rs all_below zero seen m h = h
  walk_below rs all_below (suc k) seen m h = subst Below (sym (walk_more rs seen m k)) (onward_below (next rs m) (next_below rs m all_below) (λ t. walk_below rs all_below k (seen ++ t ∷ []) t))
    where
      onward_below : (o : Option ModuleId) → IfSome o Below → ((t : ModuleId) → Below t → Below (walk rs k (seen ++ t ∷ []) t)) → Below (onward rs seen m k o)
      onward_below None to on = h
      onward_below (Some t) to on = cond_both (seen_before t seen) m (walk rs k (seen ++ t ∷ []) t) Below (λ _. h) (λ _. on t to)

  followed_below : (rs : List Redirect) (m : ModuleId) → Below m → Below (followed (usable n rs) m)
  unfolding followed
  followed_below rs m h =
      let stay = All-weaker (λ r. stays n r ≡ true) (λ r. Below r.to) (λ r e. ltb-true r.to.0 n e) (usable n rs) (kept_by_passes (stays n) rs) in
      walk_below (usable n rs) stay (seen_limit - 1) (m ∷ []) m h

-- of any record

found_mapped : {X : Type 0} (f : X → X) (P Q : X → Type 0) → ((x : X) → P x → Q (f x)) → (o : Option X) → IfSome o P → IfSome (option_map f o) Q
found_mapped f P Q on None h = tt
found_mapped f P Q on (Some x) h = on x h

found_weaker : {X : Type 0} (P Q : X → Type 0) → ((x : X) → P x → Q x) → (o : Option X) → IfSome o P → IfSome o Q
found_weaker P Q on None h = tt
found_weaker P Q on (Some x) h = on x h

all_at_weaker : {X : Type 0} (P Q : ℕ → X → Type 0) → ((i : ℕ) (x : X) → P i x → Q i x) → (i : ℕ) (xs : List X) → AllAt P i xs → AllAt Q i xs
all_at_weaker P Q on i [] h = tt
all_at_weaker P Q on i (x ∷ xs) h = (on i x h.0, all_at_weaker P Q on (suc i) xs h.1)

pub nth_map : {X : Type 0} (f : X → X) (xs : List X) (i : ℕ) → slice_get (map f xs) i ≡ option_map f (slice_get xs i)
nth_map f [] i = refl
nth_map f (x ∷ xs) zero = refl
nth_map f (x ∷ xs) (suc i) = nth_map f xs i

-- the records, from the inside out

module _ (f : ModuleId → ModuleId) where
  specifiers : (ds : List Dependency) → map (λ d. d.specifier.0) (map (sent_dependency f) ds) ≡ map (λ d. d.specifier.0) ds
  specifiers [] = refl
  specifiers (d ∷ ds) = ap (λ ns. d.specifier.0 ∷ ns) (specifiers ds)

  owner_sent : (o : Option Module) → owner_of (option_map (sent_module f) o) ≡ owner_of o
  owner_sent None = refl
  owner_sent (Some m) = refl

  entry_sent : (ms : List Module) (i : ℕ) (e : ModuleId) → EntryKept ms i e → EntryKept (map (sent_module f) ms) i e
  entry_sent ms i e h = ap owner_of (nth_map (sent_module f) ms e.0) ∙ owner_sent (slice_get ms e.0) ∙ h

  package_sent : (ms : List Module) (i : ℕ) (p : Package) → PackageKept ms i p → PackageKept (map (sent_module f) ms) i p
  package_sent ms i p h = found_weaker (EntriesKept ms i) (EntriesKept (map (sent_module f) ms) i) (λ es k. (k.0, All-weaker (EntryKept ms i) (EntryKept (map (sent_module f) ms) i) (entry_sent ms i) es k.1)) p.entries h

module _ (f : ModuleId → ModuleId) (names packages modules : ℕ) (stay : (m : ModuleId) → m.0 < modules → (f m).0 < modules) where
  dependency_sent : (d : Dependency) → DependencyKept names modules d → DependencyKept names modules (sent_dependency f d)
  dependency_sent d k = (k.0, found_mapped f (λ t. t.0 < modules) (λ t. t.0 < modules) stay d.target k.1)

  module_sent : (m : Module) → ModuleKept names packages modules m → ModuleKept names packages modules (sent_module f m)
  module_sent m k =
      let count = sym (length-map m.dependencies (sent_dependency f)) in
      record {
        package_known = k.package_known;
        types_known = found_mapped f (λ t. t.0 < modules) (λ t. t.0 < modules) stay m.types k.types_known;
        types_of_typed = found_mapped f (λ _. is_typed m.kind ≡ true) (λ _. is_typed m.kind ≡ true) (λ _ h. h) m.types k.types_of_typed;
        lists_kept = subst (λ d. ListsKept m.kind d (length m.re_export_alls) (length m.symbols)) count k.lists_kept;
        dependencies_few = subst (λ d. d ≤ list_limit) count k.dependencies_few;
        dependencies_kept = All-map (DependencyKept names modules) (sent_dependency f) m.dependencies (All-weaker (DependencyKept names modules) (λ d. DependencyKept names modules (sent_dependency f d)) dependency_sent m.dependencies k.dependencies_kept);
        dependencies_distinct = subst Distinct (sym (specifiers f m.dependencies)) k.dependencies_distinct;
        re_export_alls_few = k.re_export_alls_few;
        re_export_alls_kept = k.re_export_alls_kept;
        symbols_few = k.symbols_few;
        symbols_kept = k.symbols_kept;
      }

sent_kept : (f : ModuleId → ModuleId) (p : Program) → ((m : ModuleId) → m.0 < length p.modules → (f m).0 < length p.modules) → Kept p → Kept (sent f p)
sent_kept f p stay k =
    let ms = p.modules in
    let n = p.names in
    let pk = length p.packages in
    let count = sym (length-map ms (sent_module f)) in
    record {
      names_some = k.names_some;
      names_few = k.names_few;
      packages_few = k.packages_few;
      modules_few = subst (λ l. l ≤ 1024) count k.modules_few;
      packages_kept = all_at_weaker (PackageKept ms) (PackageKept (map (sent_module f) ms)) (package_sent f ms) 0 p.packages k.packages_kept;
      modules_kept = subst (λ l. AllByRecursion (ModuleKept n pk l) (map (sent_module f) ms)) count (All-map (ModuleKept n pk (length ms)) (sent_module f) ms (All-weaker (ModuleKept n pk (length ms)) (λ m. ModuleKept n pk (length ms) (sent_module f m)) (module_sent f n pk (length ms) stay) ms k.modules_kept));
    }

pub redirected_valid : (rs : List Redirect) (p : Program) → valid p ≡ true → valid (redirected rs p) ≡ true
redirected_valid rs p h = (decides_kept (redirected rs p)).1 (sent_kept (sends rs p) p (followed_below (length p.modules) rs) ((decides_kept p).0 h))
