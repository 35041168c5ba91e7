-- Lemmas on rows of texts.
use Rattle.std.proofs.Common.{◌≡◌, ℕ, ◌<◌, ◌≤◌, Bool, true, false, cond, List, [], ◌∷◌, ◌++◌, map, length, get_or, vec_len, string_bytes, Vec, String, sym, ap, ◌∙◌, subst, ⊎_elim, arith}
use Rattle.std.proofs.lemmas.List.{get_or-map, map_push, length-map, length_push, get_or_push, get_or_append_left}
use Rattle.std.proofs.lemmas.Bool.{cases_lt}
use Rattle.words.specs.Texts.{Text, texts_in, text_at, Distinct, Lacking}

-- there are as many texts as strings
pub texts_counted : {Y Z : Type 0} (v : Vec (String Y) Z) → length (texts_in v) ≡ vec_len v
texts_counted v = length-map v.items string_bytes ∙ sym v.ok.0

-- the text at the number of an element is that element's
pub read_text : {Y : Type 0} (ss : List (String Y)) (i : ℕ) (s : String Y) → i < length ss → s ≡ get_or ss i s → text_at (map string_bytes ss) i ≡ string_bytes s
read_text ss i s h e = get_or-map string_bytes ss i s [] h ∙ ap string_bytes (sym e)

-- one more string, where it found memory, is one more text
pub pushed_text : {Y : Type 0} (b : Bool) (xs ys : List (String Y)) (x : String Y) (t : Text) → ys ≡ cond b (xs ++ x ∷ []) xs → string_bytes x ≡ t → map string_bytes ys ≡ cond b (map string_bytes xs ++ t ∷ []) (map string_bytes xs)
pushed_text {Y} true xs ys x t e same = ap (map string_bytes) e ∙ map_push string_bytes xs x ∙ ap (λ u. map string_bytes xs ++ u ∷ []) same
pushed_text {Y} false xs ys x t e same = ap (map string_bytes) e

-- a text that was lacking may go last
distinct_push : (ts : List Text) (t : Text) → Distinct ts → Lacking ts t → Distinct (ts ++ t ∷ [])
distinct_push ts t old lacks i j (low, high, same) =
    let n = length_push ts t in
    let at_left = λ (k : ℕ) (h : k < length ts). get_or_append_left ts (t ∷ []) [] k h in
    let at-end = λ (k : ℕ) (h : length ts ≡ k). get_or_push ts t [] k h in
    ⊎_elim
    (λ (il : i < length ts). ⊎_elim
    (λ (jl : j < length ts). old i j (il, jl, sym (at_left i il) ∙ same ∙ at_left j jl))
    (λ (jr : length ts ≤ j). absurd (lacks i il (sym (at_left i il) ∙ same ∙ at-end j (omega arith))))
    (cases_lt j (length ts)))
    (λ (ir : length ts ≤ i). ⊎_elim
    (λ (jl : j < length ts). absurd (lacks j jl (sym (at_left j jl) ∙ sym same ∙ at-end i (omega arith))))
    (λ (jr : length ts ≤ j). omega arith)
    (cases_lt j (length ts)))
    (cases_lt i (length ts))

pub distinct_pushed : (b : Bool) (ts us : List Text) (t : Text) → us ≡ cond b (ts ++ t ∷ []) ts → Distinct ts → Lacking ts t → Distinct us
distinct_pushed true ts us t e old lacks = subst Distinct (sym e) (distinct_push ts t old lacks)
distinct_pushed false ts us t e old lacks = subst Distinct (sym e) old
