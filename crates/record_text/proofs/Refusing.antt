-- Lemmas on words that are refused.
use Rattle.std.proofs.Common.{◌≡◌, ℕ, ◌<◌, List, [], ◌∷◌, map, length, get_or, Some, None, Ok, Err, Option, Result, MatchResult, IsErrAnd, sym, refl, subst, inr, ⊎_elim, arith, Bor}
use Rattle.std.specs.List.{ContainsAt as Has, AllByRecursion}
use Rattle.std.proofs.ByRecursion.{all-has}
use Rattle.ids.specs.declared.path_struct.Path.{Path}
use Rattle.host.specs.declared.told.SymbolDeclFlags.{SymbolDeclFlags}
use Rattle.words.specs.Paths.{Unspelled, PathRead as Spelled}
use Rattle.words.specs.Spelled.{comma, Pieces}
use Rattle.words.specs.Texts.{Text}
use Rattle.words.specs.declared.spelling.PathFault.{PathFault}
use Rattle.words.specs.declared.spelling.PathFault.TheVariants.{EmptyName, TooManyNames, TooManyDistinctNames, NoMemory as NoRoom}
use Rattle.words.proofs.Numbering.{has_piece}
use Rattle.words.specs.declared.faults.Unread.TheVariants.{Of, NoMemory}
use Rattle.record_text.specs.declared.flagging.Flag.{Flag}
use Rattle.record_text.specs.declared.items.Item.{Item}
use Rattle.record_text.specs.declared.texts.Texts.{Texts}
use Rattle.record_text.specs.Faults.{Unread}
use Rattle.record_text.specs.Fields.{dash, PathSaid, OrNone, No, Refused, RangeSaid, RangeRefused, PathUnread, PathRead, Pathless, DashCases, OrNoneRead}
use Rattle.record_text.specs.Flags.{unflagged, flag_word, Flagless, Raises, FlagsSaid, RaisedRead, FlagsRead}
use Rattle.record_text.specs.Forms.{Shelf, shelf, Unsaid, Faulted, Formed}
use Rattle.record_text.proofs.Parted.{pieces_one, empty_name, too_many_names}
use Rattle.record_text.proofs.Shapes.{form, Holds, at_form}

-- a refusal for one reason is one for another that follows
pub pass : (N M : Type 0) (k : ℕ) (u : Unread) → (N → M) → Refused N k u → Refused M k u
pass N M k (Of p) f (at, nay) = (at, f nay)
pass N M k NoMemory f h = tt

-- a refused word is a fault of its line
pub blame : (t : Shelf) (ws : List Text) (N : Type 0) (k : ℕ) (u : Unread) → k < length ws → (N → Unsaid t ws) → Refused N k u → Faulted t ws u
blame t ws N k (Of p) low f (at, nay) = (omega arith, f nay)
blame t ws N k NoMemory low f h = tt

-- so is a refused range
pub blame_range : (t : Shelf) (ws : List Text) (s e : Text) (u : Unread) → 2 < length ws → (No (RangeSaid s e) → Unsaid t ws) → RangeRefused s e u → Faulted t ws u
blame_range t ws s e (Of p) low f (at, nay) = (omega arith, f nay)
blame_range t ws s e NoMemory low f h = tt

-- no names make an item of the words, since what their form holds cannot be
unheld : (t : Shelf) (ws : List Text) → ((names : List Text) → Holds (form ws) (record { names = names; modules = t.modules; packages = t.packages }) ws → ⊥) → Unsaid t ws
unheld t ws f names i said = f names (at_form (record { names = names; modules = t.modules; packages = t.packages }) i ws said)

-- a word that its form cannot have, or a range
pub misformed : (before after : Texts) (ws : List Text) (N : Type 0) (k : ℕ) (u : Unread) (r : Result Item Unread) → IsErrAnd r (λ v. v ≡ u) → k < length ws → (N → (names : List Text) → Holds (form ws) (record { names = names; modules = (shelf before).modules; packages = (shelf before).packages }) ws → ⊥) → Refused N k u → Formed before ws after r
misformed before after ws N k u (Ok i) e low f h = absurd e
misformed before after ws N k u (Err v) e low f h = subst (Faulted (shelf before) ws) (sym e) (blame (shelf before) ws N k u low (λ nay. unheld (shelf before) ws (f nay)) h)

pub misranged : (before after : Texts) (ws : List Text) (s e : Text) (u : Unread) (r : Result Item Unread) → IsErrAnd r (λ v. v ≡ u) → 2 < length ws → (No (RangeSaid s e) → (names : List Text) → Holds (form ws) (record { names = names; modules = (shelf before).modules; packages = (shelf before).packages }) ws → ⊥) → RangeRefused s e u → Formed before ws after r
misranged before after ws s e u (Ok i) is low f h = absurd is
misranged before after ws s e u (Err v) is low f h = subst (Faulted (shelf before) ws) (sym is) (blame_range (shelf before) ws s e u low (λ nay. unheld (shelf before) ws (f nay)) h)

-- a word that is not the dash, and says nothing
pub not_or_none : {X : Type 0} (P : Text → X → Type 0) (w : Text) → (w ≡ dash → ⊥) → No (P w) → No (OrNone P w)
not_or_none {X} P w solid nay None h = solid h
not_or_none {X} P w solid nay (Some x) (yes', h) = nay x h

-- a word that may be a dash
pub or_none_read : {X : Type 0} (P : Text → X → Type 0) (K : Type 0) (V : X → Type 0) (E : Unread → Type 0) (w : Text) (k : ℕ) (r : Result (Option X) Unread) → DashCases K V E w r → ((x : X) → V x → P w x) → ((u : Unread) → E u → Refused (No (P w)) k u) → OrNoneRead P w k r
or_none_read P K V E w k (Ok None) h said nay = h.0
or_none_read P K V E w k (Ok (Some x)) (solid, h) said nay = (solid, said x h)
or_none_read P K V E w k (Err u) (solid, h) said nay = pass (No (P w)) (No (OrNone P w)) k u (not_or_none P w solid) (nay u h)

pub path_refused : (w : Text) (f : PathFault) (k : ℕ) (u : Unread) → PathUnread f k u → Unspelled w f → Refused (Pathless w) k u
path_refused w EmptyName k u e h = subst (Refused (Pathless w) k) (sym e) (refl, empty_name w h)
path_refused w (TooManyNames n) k u e h = subst (Refused (Pathless w) k) (sym e) (refl, too_many_names w n h)
path_refused w TooManyDistinctNames k u e h = subst (Refused (Pathless w) k) (sym e) tt
path_refused w NoRoom k u e h = subst (Refused (Pathless w) k) (sym e) tt

-- what comes of a word that should spell a path, as a fault of its line
pub path_read : (before : List Text) (w : Text) (after : List Text) (k : ℕ) (r : Result Path PathFault) (s : Result Path Unread) {Q : PathFault → Unread → Type 0} → Spelled before w after r → MatchResult r (λ p. s ≡ Ok p) (λ f. IsErrAnd s (Q f)) → ((f : PathFault) (u : Unread) → Q f u → PathUnread f k u) → PathRead before w after k s
path_read before w after k (Ok p) s h is each = subst (PathRead before w after k) (sym is) h
path_read before w after k (Err f) (Ok p) h is each = absurd is
path_read before w after k (Err f) (Err u) h is each = path_refused w f k u (each f u is) h

all_named : (fs : List Flag) → AllByRecursion (λ w. (f : Flag) × (w ≡ flag_word f)) (map flag_word fs)
all_named [] = tt
all_named (f ∷ fs) = ((f, refl), all_named fs)

-- a word that names no flag spoils the flags
pub not_raised : (ws : List (Bor Text)) (i : ℕ) (past : Bor Text) → i < length ws → Flagless (get_or ws i past).now → No (Raises (map (λ x. x.now) ws))
not_raised ws i past h nay s (fs, same, all) =
    let named = all-has (λ w. (f : Flag) × (w ≡ flag_word f)) (map flag_word fs) (get_or ws i past).now (all_named fs) (subst (λ (vs : List Text). Has vs (get_or ws i past).now) same (has_piece ws i past h)) in
    nay named.0 named.1

pub flags_read : (w : Text) (ws : List Text) (k : ℕ) (r : Result SymbolDeclFlags Unread) → (w ≡ dash → ⊥) → Pieces comma w ws → RaisedRead ws k r → FlagsRead w k r
flags_read w ws k (Ok s) solid cut h = inr (ws, cut, h)
flags_read w ws k (Err u) solid cut h =
    pass (No (Raises ws)) (No (FlagsSaid w)) k u (λ nay s said.
    ⊎_elim
    (λ (d : (w ≡ dash) × (s ≡ unflagged)). solid d.0)
    (λ (d : (vs : List Text) × Pieces comma w vs × Raises vs s). nay s (subst (λ (vs : List Text). Raises vs s) (pieces_one comma w d.0 ws d.1 cut) d.2))
    said) h

pub not_path_or_none : (names : List Text) (w : Text) → (w ≡ dash → ⊥) × Pathless w → No (OrNone (PathSaid names) w)
not_path_or_none names w (solid, nay) = not_or_none (PathSaid names) w solid (λ p. nay names p)
