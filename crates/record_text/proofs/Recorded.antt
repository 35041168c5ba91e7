-- Lemmas on what the lines of a text say.
use Rattle.std.proofs.Common.{◌≡◌, ℕ, ◌+◌, ◌<◌, List, [], ◌∷◌, ◌++◌, map, length, Some, Option, sym, refl, ap, ◌∙◌, subst, arith, Bor}
use Rattle.std.specs.Str.Lines.{IsFirstLine as FirstLine}
use Rattle.std.proofs.lemmas.List.{append_assoc, append-nil, length_push, nil_from_length}
use Rattle.words.specs.Interned.{texts, firsts}
use Rattle.words.specs.Lines.{Lines}
use Rattle.words.specs.Spelled.{Extends}
use Rattle.words.specs.Texts.{Text}
use Rattle.words.specs.Words.{Says}
use Rattle.words.proofs.Lined.{lines_push}
use Rattle.words.proofs.Numbering.{extends_on}
use Rattle.record_text.specs.declared.items.Item.{Item}
use Rattle.record_text.specs.declared.listing.Listing.{Listing}
use Rattle.record_text.specs.declared.listing.Reader.{Reader}
use Rattle.record_text.specs.Collecting.{Tabled}
use Rattle.record_text.specs.Forms.{Shelf, shelf, Said, Grew}
use Rattle.record_text.specs.Placing.{Sketch, sketch, blank, placed}
use Rattle.record_text.specs.Reading.{after, all_placed, WordsSay, LineSays, LinesSay, Added, Listed, Records}
use Rattle.record_text.proofs.Growing.{said_kept}

-- a line of some words adds one item
pub item_added : (before next : Reader) (ws : List (Bor Text)) (x : Bor Text) (xs : List (Bor Text)) (i : Item) → ws ≡ x ∷ xs → Said (shelf next.texts) i (x.now ∷ map (λ y. y.now) xs) → Grew (shelf before.texts) (shelf next.texts) → placed (sketch before.draft) i ≡ Some (sketch next.draft) → Added before next (map (λ y. y.now) ws)
item_added before next ws x xs i e said grew place =
    record {
      grew = grew;
      items = i ∷ [];
      say = subst (λ (vs : List (Bor Text)). Said (shelf next.texts) i (map (λ y. y.now) vs)) (sym e) said;
      place = place;
    }

-- the loop has read the lines ls, and rest is left
pub record Sofar (w rest : Text) (number : ℕ) (r : Reader) : Type 0 where
  pub begun : Extends firsts (texts r.texts.names)
  pub known : Tabled w (texts r.texts.modules) (texts r.texts.packages)
  pub ls : List Text
  pub lines : Lines w ls rest
  pub items : List Item
  pub say : LinesSay (shelf r.texts) ls items
  pub place : all_placed (Some blank) items ≡ Some (sketch r.draft)
  pub count : number ≡ length ls

pub begins : (w rest : Text) (r : Reader) → rest ≡ w → texts r.texts.names ≡ firsts → Tabled w (texts r.texts.modules) (texts r.texts.packages) → sketch r.draft ≡ blank → Sofar w rest 0 r
begins w rest r same first known none =
    record {
      begun = ([], first ∙ sym (append-nil firsts));
      known = known;
      ls = [];
      lines = sym same;
      items = [];
      say = refl;
      place = ap Some (sym none);
      count = refl;
    }

words_kept : (t u : Shelf) (ws : List Text) (is : List Item) → Grew t u → WordsSay t ws is → WordsSay u ws is
words_kept t u ws [] g h = h
words_kept t u ws (i ∷ []) g h = said_kept t u i ws g h
words_kept t u ws (i ∷ j ∷ js) g h = h

lines_kept : (t u : Shelf) (ls : List Text) (is : List Item) → Grew t u → LinesSay t ls is → LinesSay u ls is
lines_kept t u [] is g h = h
lines_kept t u (l ∷ ls) is g (out, rest, e, (ws, says, said), more) = (out, rest, e, (ws, says, words_kept t u ws out g said), lines_kept t u ls rest g more)

say_push : (t : Shelf) (ls : List Text) (l : Text) (is out : List Item) → LinesSay t ls is → LineSays t l out → LinesSay t (ls ++ l ∷ []) (is ++ out)
say_push t [] l is out none line = (out, [], ap (λ xs. xs ++ out) none ∙ sym (append-nil out), line, refl)
say_push t (x ∷ ls) l is out (front, rest, e, here, more) line =
    (front, rest ++ out, ap (λ xs. xs ++ out) e ∙ append_assoc front rest out, here, say_push t ls l rest out more line)

placed_push : (s : Option Sketch) (is out : List Item) → all_placed s (is ++ out) ≡ all_placed (all_placed s is) out
placed_push s [] out = refl
placed_push s (i ∷ is) out = placed_push (after s i) is out

tabled_kept : (w : Text) (t u : Shelf) → Grew t u → Tabled w t.modules t.packages → Tabled w u.modules u.packages
tabled_kept w t u g h = subst (λ (ms : List Text). Tabled w ms u.packages) (sym g.modules) (subst (Tabled w t.modules) (sym g.packages) h)

pub one_more_line : (w rest l later : Text) (k : ℕ) (r next : Reader) (ws : List Text) → Sofar w rest k r → 0 < length rest → FirstLine rest l later → Says l ws → Added r next ws → Sofar w later (k + 1) next
one_more_line w rest l later k r next ws old some first says added =
    record {
      begun = extends_on firsts _ _ old.begun added.grew.names;
      known = tabled_kept w (shelf r.texts) (shelf next.texts) added.grew old.known;
      ls = old.ls ++ l ∷ [];
      lines = lines_push w old.ls rest l later old.lines some first;
      items = old.items ++ added.items;
      say = say_push (shelf next.texts) old.ls l old.items added.items (lines_kept (shelf r.texts) (shelf next.texts) old.ls old.items added.grew old.say) (ws, says, added.say);
      place = placed_push (Some blank) old.items added.items ∙ ap (λ s. all_placed s added.items) old.place ∙ added.place;
      count = omega (arith, old.count, length_push old.ls l);
    }

pub all_read : (w rest : Text) (k : ℕ) (r : Reader) (l : Listing) → Sofar w rest k r → length rest ≡ 0 → Listed r l → Records w l
all_read w rest k r l old none listed =
    record {
      begun = subst (λ (t : Shelf). Extends firsts t.names) (sym listed.shelf_kept) old.begun;
      known = subst (λ (t : Shelf). Tabled w t.modules t.packages) (sym listed.shelf_kept) old.known;
      lines = old.ls;
      whole = subst (Lines w old.ls) (nil_from_length rest none) old.lines;
      items = old.items;
      say = subst (λ (t : Shelf). LinesSay t old.ls old.items) (sym listed.shelf_kept) old.say;
      end = sketch r.draft;
      place = old.place;
      program = listed.program;
    }
