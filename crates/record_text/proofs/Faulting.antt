-- Lemmas on the word that a fault names.
use Rattle.std.proofs.Common.{◌≡◌, ℕ, List, ◌∷◌, map, Ok, Err, Result, MatchResult, IsErrAnd, string_bytes, sym, subst, inr, arith, Bor}
use Rattle.std.specs.List.{ContainsAt as Has}
use Rattle.words.specs.Texts.{Text}
use Rattle.words.specs.declared.faults.Fault.TheVariants.{Line as At, NoMemory}
use Rattle.words.specs.declared.faults.Unread.TheVariants.{Of, NoMemory as NoRoom}
use Rattle.words.specs.Faults.{Placed}
use Rattle.record_text.specs.declared.items.Item.{Item}
use Rattle.record_text.specs.declared.listing.Reader.{Reader}
use Rattle.record_text.specs.declared.texts.Texts.{Texts}
use Rattle.record_text.specs.Faults.{Fault, Unread, Unplaced}
use Rattle.record_text.specs.Forms.{Shelf, shelf, Said, Grew, Formed}
use Rattle.record_text.specs.Placing.{sketch, placed, Adds}
use Rattle.record_text.proofs.Recorded.{item_added}
use Rattle.record_text.specs.Reading.{WordsRead}

-- an item that has no place
pub item_unplaced : (before next : Reader) (t : Shelf) (k : ℕ) (ws : List (Bor Text)) (x : Bor Text) (xs : List (Bor Text)) (i : Item) (v : Unplaced) (f : Fault) → ws ≡ x ∷ xs → Said t i (x.now ∷ map (λ y. y.now) xs) → Grew (shelf before.texts) t → Adds (λ s. placed s i) (sketch before.draft) (sketch next.draft) (Err v) → Placed v k x.now f → WordsRead before k (map (λ y. y.now) ws) next (Err f)
item_unplaced before next t k ws x xs i (Of e) (At n g s) same said grew none (told, number, word) =
    record {
      number = number;
      word = subst (λ (vs : List (Bor Text)). Has (map (λ y. y.now) vs) (string_bytes s)) (sym same) (0, omega arith, λ d. sym word);
      why = inr (t, i, grew, subst (λ (vs : List (Bor Text)). Said t i (map (λ y. y.now) vs)) (sym same) said, none);
    }
item_unplaced before next t k ws x xs i (Of e) NoMemory same said grew none at = tt
item_unplaced before next t k ws x xs i NoRoom (At n g s) same said grew none (told, number, word) = absurd cc
item_unplaced before next t k ws x xs i NoRoom NoMemory same said grew none at = tt

-- the item that the words of a line say, where their reading is told as a fault of the line
pub formed_item : (before : Texts) (ws : List Text) (after : Texts) (p : Result Item Unread) (i : Item) → Formed before ws after p → MatchResult p (λ x. ◌≡◌ {A = Result Item Fault} (Ok i) (Ok x)) (λ u. ⊥) → Said (shelf after) i ws × Grew (shelf before) (shelf after)
formed_item before ws after (Ok x) i h is = let z : x ≡ i = cc in subst (λ (y : Item). Said (shelf after) y ws × Grew (shelf before) (shelf after)) z h
formed_item before ws after (Err u) i h is = absurd is

-- what comes of the words of a line is what comes of the item that they say
pub words_placed : (before next : Reader) (k : ℕ) (ws : List (Bor Text)) (x : Bor Text) (xs : List (Bor Text)) (i : Item) (p : Result (Unit {0}) Unplaced) (r : Result (Unit {0}) Fault) {Q : Unplaced → Fault → Type 0} → ws ≡ x ∷ xs → Said (shelf next.texts) i (x.now ∷ map (λ y. y.now) xs) × Grew (shelf before.texts) (shelf next.texts) → Adds (λ s. placed s i) (sketch before.draft) (sketch next.draft) p → MatchResult p (λ y. r ≡ Ok y) (λ v. IsErrAnd r (Q v)) → ((v : Unplaced) (f : Fault) → Q v f → Placed v k x.now f) → WordsRead before k (map (λ y. y.now) ws) next r
words_placed before next k ws x xs i (Ok y) r same formed place is each = subst (WordsRead before k (map (λ z. z.now) ws) next) (sym is) (item_added before next ws x xs i same formed.0 formed.1 place)
words_placed before next k ws x xs i (Err v) (Ok y) same formed place is each = absurd is
words_placed before next k ws x xs i (Err v) (Err f) same formed place is each = item_unplaced before next (shelf next.texts) k ws x xs i v f same formed.0 formed.1 place (each v f is)
