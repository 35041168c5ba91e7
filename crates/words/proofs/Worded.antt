-- Lemmas on the words of a text.
use Rattle.std.proofs.Common.{◌≡◌, ℕ, ◌+◌, ◌<◌, ◌≤◌, true, false, ◌||◌, leb, List, [], ◌∷◌, ◌++◌, map, length, get_or, take, drop, Some, None, Option, MatchOption, sym, refl, ap, ◌∙◌, subst, inl, inr, ⊎_elim, lit<, arith, Bor}
use Rattle.std.specs.Char.{is_ascii_whitespace}
use Rattle.std.specs.Int.{is_in_range}
use Rattle.std.proofs.ByRecursion.{All-from_get_or}
use Rattle.std.proofs.lemmas.List.{take-append-drop, length-take-le, length-drop, length-append, get_or-take, get_or-drop, map_push}
use Rattle.std.proofs.lemmas.Bool.{or_cases, and_parts, leb-true, both_ways, cases_lt}
use Rattle.std.proofs.lemmas.Str.Pattern.{split_parts, IsSplitOnceResult}
use Rattle.words.specs.Texts.{Text}
use Rattle.words.specs.Words.{Blank, Solid, First, Words, Content, hash}

-- white space is ASCII
pub white_small : (b : ℕ) → is_ascii_whitespace b ≡ true → b < 128
white_small b h =
    ⊎_elim
    (λ (front : (is_in_range 9 10 b || is_in_range 12 13 b) ≡ true). ⊎_elim
    (λ (low : is_in_range 9 10 b ≡ true). omega (arith, leb-true b 10 (and_parts (leb 9 b) (leb b 10) low).1))
    (λ (high : is_in_range 12 13 b ≡ true). omega (arith, leb-true b 13 (and_parts (leb 12 b) (leb b 13) high).1))
    (or_cases (is_in_range 9 10 b) (is_in_range 12 13 b) front))
    (λ (space : is_in_range 32 32 b ≡ true). omega (arith, leb-true b 32 (and_parts (leb 32 b) (leb b 32) space).1))
    (or_cases (is_in_range 9 10 b || is_in_range 12 13 b) (is_in_range 32 32 b) h)

-- what `trim_ascii_start` says
abbrev pub Trimmed : Text → Text → Type 0
Trimmed bs t = (n : ℕ) × (t ≡ drop n bs) × (length t + n ≡ length bs) × ((i : ℕ) → i < n → is_ascii_whitespace (get_or bs i 0) ≡ true) × (n < length bs → is_ascii_whitespace (get_or bs n 0) ≡ false)

-- a front of white space
blank_front : (bs : Text) (n : ℕ) → n ≤ length bs → ((i : ℕ) → i < n → is_ascii_whitespace (get_or bs i 0) ≡ true) → Blank (take n bs)
blank_front bs n h white =
    All-from_get_or _ (take n bs) 0 (λ i low.
    let inside : i < n = omega (arith, length-take-le n bs h) in
    ap is_ascii_whitespace (get_or-take n bs i 0 inside) ∙ white i inside)

solid_front : (bs : Text) (n : ℕ) → n ≤ length bs → ((i : ℕ) → i < n → is_ascii_whitespace (get_or bs i 0) ≡ false) → Solid (take n bs)
solid_front bs n h dark =
    All-from_get_or _ (take n bs) 0 (λ i low.
    let inside : i < n = omega (arith, length-take-le n bs h) in
    ap is_ascii_whitespace (get_or-take n bs i 0 inside) ∙ dark i inside)

-- the run of solid bytes at the front of what is left is the first word
pub first_word : (bs t w rest : Text) (k : ℕ) → Trimmed bs t → (length t ≡ 0 → ⊥) → k ≤ length t → ((i : ℕ) → i < k → is_ascii_whitespace (get_or t i 0) ≡ false) → (k < length t → is_ascii_whitespace (get_or t k 0) ≡ true) → w ≡ take k t → rest ≡ drop k t → First bs w rest
first_word bs t w rest k (n, left, len, white, dark) some is_in_range before stops front back =
    let head : is_ascii_whitespace (get_or t 0 0) ≡ false = ap (λ xs. is_ascii_whitespace (get_or xs 0 0)) left ∙ ap is_ascii_whitespace (get_or-drop n bs 0 0 ∙ ap (λ i. get_or bs i 0) (omega arith)) ∙ dark (omega arith) in
    let long : 0 < k = ⊎_elim (λ (lt : 0 < k). lt) (λ (ge : k ≤ 0). absurd (both_ways _ head (ap (λ i. is_ascii_whitespace (get_or t i 0)) (omega arith) ∙ stops (omega arith)))) (cases_lt 0 k) in
    record {
      gap = take n bs;
      cut = sym (take-append-drop n bs) ∙ ap (λ xs. take n bs ++ xs) (sym left ∙ sym (take-append-drop k t) ∙ ap (λ xs. xs ++ drop k t) (sym front) ∙ ap (λ xs. w ++ xs) (sym back));
      blank = blank_front bs n (omega arith) white;
      some = omega (arith, ap length front, length-take-le k t is_in_range);
      solid = subst Solid (sym front) (solid_front t k is_in_range before);
      ends = λ more. ap (λ xs. is_ascii_whitespace (get_or xs 0 0)) back ∙ ap is_ascii_whitespace (get_or-drop k t 0 0 ∙ ap (λ i. get_or t i 0) (omega arith)) ∙ stops (omega (arith, ap length back, length-drop k t));
    }

-- what stands before the first `#`, or the whole line where there is none; R says what the closure gives of the two parts
pub content_is : (l c : Bor Text) (o : Option (Bor Text × Bor Text)) (R : Bor Text × Bor Text → Type 0) → ((x : Bor Text × Bor Text) → R x → c ≡ x.0) → IsSplitOnceResult hash l.now o → MatchOption o (c ≡ l) R → Content l.now c.now
content_is l c None R gives cut same = rw same (record { whole = inl refl; plain = split_parts hash l.now None cut (lit< tt) })
content_is l c (Some x) R gives cut same =
    let parts = split_parts hash l.now (Some x) cut (lit< tt) in
    rw (gives x same) (record { whole = inr (x.1.now, parts.0); plain = parts.1 })

-- bs begins with the words ws, and rest is left
abbrev pub Front : Text → List Text → Text → Type 0
Front bs [] rest = bs ≡ rest
Front bs (w ∷ ws) rest = (mid : Text) × First bs w mid × Front mid ws rest

pub front_push : (bs : Text) (ws : List Text) (rest w after : Text) → Front bs ws rest → First rest w after → Front bs (ws ++ w ∷ []) after
front_push bs [] rest w after same first = (after, subst (λ (v : Text). First v w after) (sym same) first, refl)
front_push bs (x ∷ ws) rest w after (mid, here, more) first = (mid, here, front_push mid ws rest w after more first)

-- where nothing but white space is left, those are all words
pub front_end : (bs : Text) (ws : List Text) (rest : Text) → Front bs ws rest → Blank rest → Words bs ws
front_end bs [] rest same blank = subst Blank (sym same) blank
front_end bs (w ∷ ws) rest (mid, here, more) blank = (mid, here, front_end mid ws rest more blank)

-- a turn of the loop over the words
pub words_turn : (bs rest after : Text) (xs ys : List (Bor Text)) (x : Bor Text) → Front bs (map (λ r. r.now) xs) rest → First rest x.now after → ys ≡ xs ++ x ∷ [] → Front bs (map (λ r. r.now) ys) after
words_turn bs rest after xs ys x old first e =
    subst (λ (ws : List Text). Front bs ws after) (sym (ap (map (λ (r : Bor Text). r.now)) e ∙ map_push (λ (r : Bor Text). r.now) xs x)) (front_push bs _ rest x.now after old first)

-- what is left gets shorter
pub shorter : (bs w rest : Text) → First bs w rest → length rest < length bs
shorter bs w rest first =
    omega (arith, first.some, ap length first.cut, length-append first.gap (w ++ rest), length-append w rest)
