-- Lemmas on what the lines of a text add.
use Rattle.std.proofs.Common.{◌≡◌, ℕ, ◌+◌, ◌<◌, ◌≤◌, List, [], ◌∷◌, ◌++◌, length, Ok, Err, string_bytes, Result, sym, refl, ap, ◌∙◌, subst, arith, Bor}
use Rattle.std.specs.Str.Lines.{IsFirstLine as FirstLine}
use Rattle.std.specs.List.{AllByRecursion}
use Rattle.std.proofs.lemmas.List.{append_assoc, append-nil, length_push, nil_from_length}
use Rattle.joining.specs.declared.requests.Request.{Request}
use Rattle.joining.specs.declared.requests.Request.TheVariants.{Path as Ask, Star, Full}
use Rattle.ids.specs.Paths.{names_of}
use Rattle.script.specs.declared.faults.Problem.{Problem}
use Rattle.script.specs.declared.faults.Problem.TheVariants.{NoRequest, TooManyWords, EmptyName, TooManyNames, TooManyModules, TooManyDistinctNames}
use Rattle.script.specs.declared.requests.Line.{Line}
use Rattle.script.specs.declared.requests.Requests.{Requests}
use Rattle.script.specs.Rows.{Rowed}
use Rattle.script.specs.Scripts.{Asked, LineAdded, Misasked, Faulty, RowLines, Rows, Tells, Knows, Climbs, Script}
use Rattle.script.specs.Spelled.{Asks, bare}
use Rattle.words.specs.declared.faults.Fault.{Fault}
use Rattle.words.specs.declared.faults.Fault.TheVariants.{Line as At, NoMemory}
use Rattle.words.specs.declared.faults.Unread.TheVariants.{Of}
use Rattle.words.specs.Faults.{Placed}
use Rattle.words.specs.Interned.{firsts}
use Rattle.words.specs.Lines.{Lines}
use Rattle.words.specs.Spelled.{Extends}
use Rattle.words.specs.Texts.{Text}
use Rattle.words.specs.Words.{Says}
use Rattle.words.proofs.Lined.{lines_push}
use Rattle.words.proofs.Numbering.{extends_on, numbered_kept, spells_kept}

-- two words that are not read make their line faulty
misasked : (l m w s : Text) (p : Problem) → Says l (m ∷ w ∷ []) → Misasked m w p s → Faulty l p s
misasked l m w s NoRequest says h = absurd h
misasked l m w s TooManyWords says h = absurd h
misasked l m w s EmptyName says h = (m, w, says, h)
misasked l m w s (TooManyNames n) says h = (m, w, says, h)
misasked l m w s TooManyModules says h = (m, w, says, h)
misasked l m w s TooManyDistinctNames says h = (m, w, says, h)

pub asked_adds : (before after : Requests) (k : ℕ) (l m w : Text) (r : Result (Unit {0}) (Fault Problem)) → Says l (m ∷ w ∷ []) → Asked before k m w after r → LineAdded before k l after r
asked_adds before after k l m w (Ok u) says (grew, (x, tells, e)) = (grew, (x ∷ [], (m, w, says, tells), e))
asked_adds before after k l m w (Err (At n p s)) says (same, h) = (same, misasked l m w (string_bytes s) p says h)
asked_adds before after k l m w (Err NoMemory) says h = tt

-- so does a wrong number of words
miscounted : (l : Text) (p : Problem) (x : Bor Text) → Rowed l (Err (p, x)) → Faulty l p x.now
miscounted l NoRequest x h = h
miscounted l TooManyWords x h = h
miscounted l EmptyName x h = absurd h
miscounted l (TooManyNames n) x h = absurd h
miscounted l TooManyModules x h = absurd h
miscounted l TooManyDistinctNames x h = absurd h

pub wrong_adds : (before after : Requests) (k : ℕ) (l : Text) (p : Problem) (x : Bor Text) (f : Fault Problem) → Rowed l (Err (p, x)) → Placed (Of p) k x.now f → LineAdded before k l after (Err f)
wrong_adds before after k l p x (At n q s) row (which, same, word) =
    let one : p ≡ q = cc in
    (same, subst (λ (v : Problem). Faulty l v (string_bytes s)) one (subst (Faulty l p) (sym word) (miscounted l p x row)))
wrong_adds before after k l p x NoMemory row h = tt

-- the loop has read the lines ls, and rest is left
pub record Sofar (w rest : Text) (number : ℕ) (mods names : List Text) (xs : List Line) : Type 0 where
  pub begun : Extends firsts names
  pub ls : List Text
  pub lines : Lines w ls rest
  pub rows : Rows mods names 1 ls xs
  pub count : number ≡ length ls

-- what is known of the tables stays true as they grow
asks_kept : (ts us : List Text) (w : Text) (r : Request) → Extends ts us → Asks ts w r → Asks us w r
asks_kept ts us w Star ext h = h
asks_kept ts us w Full ext h = h
asks_kept ts us w (Ask p) ext (spells, star, full) = (spells_kept ts us (bare w) (names_of p) ext spells, star, full)

row_kept : (mods mods' names names' : List Text) (k : ℕ) (l : Text) (out : List Line) → Extends mods mods' → Extends names names' → RowLines mods names k l out → RowLines mods' names' k l out
row_kept mods mods' names names' k l [] more yet h = h
row_kept mods mods' names names' k l (x ∷ []) more yet (m, w, says, tells) = (
  m,
  w,
  says,
  record {
    number = tells.number;
    placed = numbered_kept mods mods' m x.«module».0 more tells.placed;
    asks = asks_kept names names' w x.request yet tells.asks;
  },
)
row_kept mods mods' names names' k l (x ∷ y ∷ ys) more yet h = h

rows_kept : (mods mods' names names' : List Text) (k : ℕ) (ls : List Text) (xs : List Line) → Extends mods mods' → Extends names names' → Rows mods names k ls xs → Rows mods' names' k ls xs
rows_kept mods mods' names names' k [] xs more yet h = h
rows_kept mods mods' names names' k (l ∷ ls) xs more yet (out, rest, e, row, rows) =
    (out, rest, e, row_kept mods mods' names names' k l out more yet row, rows_kept mods mods' names names' (k + 1) ls rest more yet rows)

rows_push : (mods names : List Text) (k j : ℕ) (ls : List Text) (l : Text) (xs out : List Line) → j ≡ k + length ls → Rows mods names k ls xs → RowLines mods names j l out → Rows mods names k (ls ++ l ∷ []) (xs ++ out)
rows_push mods names k j [] l xs out at none row =
    let here : j ≡ k = omega arith in
    (out, [], ap (λ ys. ys ++ out) none ∙ sym (append-nil out), subst (λ (n : ℕ). RowLines mods names n l out) here row, refl)
rows_push mods names k j (x ∷ ls) l xs out at (o, rest, e, first, rows) row =
    (o, rest ++ out, ap (λ ys. ys ++ out) e ∙ append_assoc o rest out, first, rows_push mods names (k + 1) j ls l rest out (omega arith) rows row)

-- a turn of the loop
pub one_more_line : (w rest after l : Text) (n : ℕ) (mods mods' names names' : List Text) (xs ys out : List Line) → Sofar w rest n mods names xs → 0 < length rest → FirstLine rest l after → Extends mods mods' → Extends names names' → RowLines mods' names' (n + 1) l out → ys ≡ xs ++ out → Sofar w after (n + 1) mods' names' ys
one_more_line w rest after l n mods mods' names names' xs ys out old some first more yet row e =
    let kept = rows_kept mods mods' names names' 1 old.ls xs more yet old.rows in
    record {
      begun = extends_on firsts names names' old.begun yet;
      ls = old.ls ++ l ∷ [];
      lines = lines_push w old.ls rest l after old.lines some first;
      rows = rw e (rows_push mods' names' 1 (n + 1) old.ls l xs out (omega (arith, old.count)) kept row);
      count = omega (arith, old.count, length_push old.ls l);
    }

-- what follows of each line that is read
asks_knows : (ts : List Text) (w : Text) (r : Request) → Asks ts w r → Knows ts r
asks_knows ts w Star h = tt
asks_knows ts w Full h = tt
asks_knows ts w (Ask p) h = h.0.known

module _ (mods names : List Text) where
  rows_all : (P : Line → Type 0) → ((k : ℕ) (m w : Text) (x : Line) → Tells mods names k m w x → P x) → (k : ℕ) (ls : List Text) (xs : List Line) → Rows mods names k ls xs → AllByRecursion P xs
  rows_all P each k [] xs none = rw none tt
  rows_all P each k (l ∷ ls) xs ([], rest, e, row, rows) = rw e (rows_all P each (k + 1) ls rest rows)
  rows_all P each k (l ∷ ls) xs (x ∷ [], rest, e, (m, w, says, tells), rows) = rw e (each k m w x tells, rows_all P each (k + 1) ls rest rows)
  rows_all P each k (l ∷ ls) xs (x ∷ y ∷ ys, rest, e, row, rows) = absurd row

  climbs_from : (k j : ℕ) (xs : List Line) → j ≤ k → Climbs k xs → Climbs j xs
  climbs_from k j [] low h = tt
  climbs_from k j (x ∷ xs) low (first, rest) = (omega arith, rest)

  rows_climb : (k : ℕ) (ls : List Text) (xs : List Line) → Rows mods names k ls xs → Climbs k xs
  rows_climb k [] xs none = rw none tt
  rows_climb k (l ∷ ls) xs ([], rest, e, row, rows) = rw e (climbs_from (k + 1) k rest (omega arith) (rows_climb (k + 1) ls rest rows))
  rows_climb k (l ∷ ls) xs (x ∷ [], rest, e, (m, w, says, tells), rows) = rw e (omega (arith, tells.number), climbs_from (k + 1) (x.number + 1) rest (omega (arith, tells.number)) (rows_climb (k + 1) ls rest rows))
  rows_climb k (l ∷ ls) xs (x ∷ y ∷ ys, rest, e, row, rows) = absurd row

pub all_read : (w rest : Text) (n : ℕ) (mods names : List Text) (xs : List Line) → Sofar w rest n mods names xs → length rest ≡ 0 → Script mods names w xs
all_read w rest n mods names xs old none =
    record {
      begun = old.begun;
      placed = rows_all mods names _ (λ k m v x tells. tells.placed.within) 1 old.ls xs old.rows;
      known = rows_all mods names _ (λ k m v x tells. asks_knows names v x.request tells.asks) 1 old.ls xs old.rows;
      climbs = rows_climb mods names 1 old.ls xs old.rows;
      ls = old.ls;
      lines = subst (Lines w old.ls) (nil_from_length rest none) old.lines;
      rows = old.rows;
    }
