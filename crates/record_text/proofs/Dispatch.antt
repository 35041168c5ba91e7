-- Lemmas on a line that is read by its keyword and the count of its words.
use Rattle.std.proofs.Common.{◌≡◌, List, [], ◌∷◌, map, length, get_or, Result, sym, refl, subst, arith, Bor}
use Rattle.words.specs.Texts.{Text}
use Rattle.record_text.specs.Faults.{Unread}
use Rattle.record_text.specs.declared.items.Item.{Item}
use Rattle.record_text.specs.declared.texts.Texts.{Texts}
use Rattle.record_text.specs.Forms.{Formed}

-- the words of a line with this keyword
pub keyed : (before after : Texts) (w k : Text) (ws : List Text) (r : Result Item Unread) → w ≡ k → Formed before (k ∷ ws) after r → Formed before (w ∷ ws) after r
keyed before after w k ws r e h = subst (λ (x : Text). Formed before (x ∷ ws) after r) (sym e) h

-- so many words after the keyword
pub counted : (before after : Texts) (k : Text) (ws vs : List Text) (r : Result Item Unread) → ws ≡ vs → Formed before (k ∷ vs) after r → Formed before (k ∷ ws) after r
counted before after k ws vs r e h = subst (λ (xs : List Text). Formed before (k ∷ xs) after r) (sym e) h

pub one_word : (past : Bor Text) (xs : List (Bor Text)) → length xs ≡ 1 → map (λ x. x.now) xs ≡ (get_or xs 0 past).now ∷ []
one_word past [] h = absurd (omega arith)
one_word past (a ∷ []) h = refl
one_word past (a ∷ b ∷ xs) h = absurd (omega arith)

pub two_words : (past : Bor Text) (xs : List (Bor Text)) → length xs ≡ 2 → map (λ x. x.now) xs ≡ (get_or xs 0 past).now ∷ (get_or xs 1 past).now ∷ []
two_words past [] h = absurd (omega arith)
two_words past (a ∷ []) h = absurd (omega arith)
two_words past (a ∷ b ∷ []) h = refl
two_words past (a ∷ b ∷ c ∷ xs) h = absurd (omega arith)

pub three_words : (past : Bor Text) (xs : List (Bor Text)) → length xs ≡ 3 → map (λ x. x.now) xs ≡ (get_or xs 0 past).now ∷ (get_or xs 1 past).now ∷ (get_or xs 2 past).now ∷ []
three_words past [] h = absurd (omega arith)
three_words past (a ∷ []) h = absurd (omega arith)
three_words past (a ∷ b ∷ []) h = absurd (omega arith)
three_words past (a ∷ b ∷ c ∷ []) h = refl
three_words past (a ∷ b ∷ c ∷ d ∷ xs) h = absurd (omega arith)

pub four_words : (past : Bor Text) (xs : List (Bor Text)) → length xs ≡ 4 → map (λ x. x.now) xs ≡ (get_or xs 0 past).now ∷ (get_or xs 1 past).now ∷ (get_or xs 2 past).now ∷ (get_or xs 3 past).now ∷ []
four_words past [] h = absurd (omega arith)
four_words past (a ∷ []) h = absurd (omega arith)
four_words past (a ∷ b ∷ []) h = absurd (omega arith)
four_words past (a ∷ b ∷ c ∷ []) h = absurd (omega arith)
four_words past (a ∷ b ∷ c ∷ d ∷ []) h = refl
four_words past (a ∷ b ∷ c ∷ d ∷ e ∷ xs) h = absurd (omega arith)

pub five_words : (past : Bor Text) (xs : List (Bor Text)) → length xs ≡ 5 → map (λ x. x.now) xs ≡ (get_or xs 0 past).now ∷ (get_or xs 1 past).now ∷ (get_or xs 2 past).now ∷ (get_or xs 3 past).now ∷ (get_or xs 4 past).now ∷ []
five_words past [] h = absurd (omega arith)
five_words past (a ∷ []) h = absurd (omega arith)
five_words past (a ∷ b ∷ []) h = absurd (omega arith)
five_words past (a ∷ b ∷ c ∷ []) h = absurd (omega arith)
five_words past (a ∷ b ∷ c ∷ d ∷ []) h = absurd (omega arith)
five_words past (a ∷ b ∷ c ∷ d ∷ e ∷ []) h = refl
five_words past (a ∷ b ∷ c ∷ d ∷ e ∷ f ∷ xs) h = absurd (omega arith)
