-- Lemmas on a path that is written out, and read back.
use Rattle.std.proofs.Common.{◌≡◌, ℕ, ◌+◌, ◌<◌, false, eqb, List, [], ◌∷◌, ◌++◌, length, get_or, take, drop, Some, None, Ok, Err, Option, Result, unwrap_or, codes, sym, ap, ◌∙◌, subst, ⊎_elim, arith, Bor, MatchOption}
use Rattle.std.specs.List.{join_with_byte, flat_map}
use Rattle.std.specs.Result.{MatchResult, IsErrAnd}
use Rattle.std.specs.Str.{bytes_eq}
use Rattle.std.proofs.lemmas.Slice.Eq.{bytes_eq-Decides}
use Rattle.std.proofs.lemmas.List.{append_assoc, append-nil, take_more, flat_map_more}
use Rattle.std.proofs.lemmas.Bool.{cases_Bool, or_from, cond-false, ne_eqb}
use Rattle.ids.specs.declared.numbers.NameId.{NameId}
use Rattle.ids.specs.declared.path_struct.Path.{Path}
use Rattle.ids.specs.Paths.{names_of}
use Rattle.words.specs.declared.faults.Unread.{Unread}
use Rattle.words.specs.declared.spelling.PathFault.{PathFault}
use Rattle.words.specs.declared.spelling.PathFault.TheVariants.{EmptyName as Unnamed, TooManyNames as Long, TooManyDistinctNames as Crowded, NoMemory as NoRoom}
use Rattle.words.specs.Paths.{Unspelled, PathRead}
use Rattle.words.specs.Spelled.{dot, texts_of, Spells, Extends}
use Rattle.words.specs.Texts.{Text, text_at}
use Rattle.script.specs.declared.faults.Problem.{Problem}
use Rattle.script.specs.Faults.{unread_of_path, Unasked}
use Rattle.script.specs.Spelled.{bare}

-- each name with a dot before it
abbrev pub after_dots : List Text → List NameId → Text
after_dots ts ns = flat_map (λ n. dot ∷ text_at ts n.0) ns

pub spelled_cons : (ts : List Text) (n : NameId) (ns : List NameId) → join_with_byte dot (texts_of ts (n ∷ ns)) ≡ text_at ts n.0 ++ after_dots ts ns
spelled_cons ts n [] = sym (append-nil _)
spelled_cons ts n (m ∷ ns) = ap (λ x. text_at ts n.0 ++ dot ∷ x) (spelled_cons ts m ns)

pub after_dots_more : (ts : List Text) (front bs : Text) (ns : List NameId) (i : ℕ) (d : NameId) → i < length ns → bs ≡ front ++ after_dots ts (take i ns) → (bs ++ dot ∷ []) ++ text_at ts (get_or ns i d).0 ≡ front ++ after_dots ts (take (i + 1) ns)
after_dots_more ts front bs ns i d h e =
    append_assoc bs (dot ∷ []) (text_at ts (get_or ns i d).0)
    ∙ ap (λ xs. xs ++ (dot ∷ text_at ts (get_or ns i d).0)) e
    ∙ flat_map_more (λ n. dot ∷ text_at ts n.0) front (take i ns) (get_or ns i d)
    ∙ ap (λ xs. front ++ after_dots ts xs) (sym (take_more ns i d h))

-- the first name, and each other with a dot before it
pub spelled_whole : (ts : List Text) (ns : List NameId) (d : NameId) (bs front : Text) → 0 < length ns → front ≡ text_at ts (get_or ns 0 d).0 → bs ≡ front ++ after_dots ts (drop 1 ns) → bs ≡ join_with_byte dot (texts_of ts ns)
spelled_whole ts [] d bs front some first e = absurd (omega arith)
spelled_whole ts (n ∷ ns) d bs front some first e = e ∙ ap (λ x. x ++ after_dots ts ns) first ∙ sym (spelled_cons ts n ns)

-- a leading dot is left out
pub bare_is : (w : Text) (o : Option (Bor Text)) (d : Bor Text) → MatchOption o ((rest : Text) → w ≡ dot ∷ rest → ⊥) (λ x. w ≡ dot ∷ x.now) → d.now ≡ w → (unwrap_or o d).now ≡ bare w
bare_is w (Some x) d e same = sym (ap bare e)
bare_is [] None d none same = same
bare_is (b ∷ bs) None d none same = same ∙ sym (cond-false (eqb b dot) bs (b ∷ bs) (ne_eqb b dot (λ e. none bs (ap (λ x. x ∷ bs) e))))

-- a word that spells no path asks for nothing
unasked : (w : Text) (f : PathFault) → Unspelled (bare w) f → Unasked w (unread_of_path f)
unasked w Unnamed h = h
unasked w (Long n) h = h
unasked w Crowded h = h
unasked w NoRoom h = h

-- what comes of a word that should spell a path, told as a fault of its line
pub path_refused : (before after : List Text) (w : Text) (r : Result Path PathFault) (s : Result Path (Unread Problem)) (u : Unread Problem) → PathRead before (bare w) after r → MatchResult r (λ x. s ≡ Ok x) (λ f. IsErrAnd s (λ v. v ≡ unread_of_path f)) → s ≡ Err u → Unasked w u
path_refused before after w (Ok x) s u read told e = let z : ◌≡◌ {A = ℕ} 0 1 = cc in absurd (omega arith)
path_refused before after w (Err f) (Ok x) u read told e = absurd told
path_refused before after w (Err f) (Err v) u read told e =
    let same : unread_of_path f ≡ u = cc in
    subst (Unasked w) same (unasked w f read)

pub path_read : (before after : List Text) (w : Text) (r : Result Path PathFault) (s : Result Path (Unread Problem)) (p : Path) → PathRead before (bare w) after r → MatchResult r (λ x. s ≡ Ok x) (λ f. IsErrAnd s (λ v. v ≡ unread_of_path f)) → s ≡ Ok p → Spells after (bare w) (names_of p) × Extends before after
path_read before after w (Ok x) s p read told e =
    let same : x ≡ p = cc in
    subst (λ (q : Path). Spells after (bare w) (names_of q) × Extends before after) same read
path_read before after w (Err f) (Ok x) p read told e = absurd told
path_read before after w (Err f) (Err v) p read told e = let z : ◌≡◌ {A = ℕ} 0 1 = cc in absurd (omega arith)
