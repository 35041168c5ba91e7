-- What is read of a whole text. Assumes nothing.
use Rattle.std.specs.Prelude.{◌≡◌, ℕ, ◌+◌, ◌<◌, ◌≤◌, List, [], ◌∷◌, ◌++◌, length, Ok, Err, vec_items, string_bytes, Result}
use Rattle.std.specs.Str.Lines.{IsFirstLine as FirstLine}
use Rattle.std.specs.List.{AllByRecursion}
use Rattle.ids.specs.Paths.{names_of}
use Rattle.joining.specs.declared.requests.Request.{Request}
use Rattle.joining.specs.declared.requests.Request.TheVariants.{Path as Ask, Star, Full}
use Rattle.script.specs.declared.faults.Problem.{Problem}
use Rattle.script.specs.declared.faults.Problem.TheVariants.{NoRequest, TooManyWords, EmptyName, TooManyNames, TooManyModules, TooManyDistinctNames}
use Rattle.script.specs.declared.requests.Line.{Line}
use Rattle.script.specs.declared.requests.Requests.{Requests}
use Rattle.script.specs.Spelled.{Asks, bare}
use Rattle.words.specs.declared.faults.Fault.{Fault}
use Rattle.words.specs.declared.faults.Fault.TheVariants.{Line as At, NoMemory}
use Rattle.words.specs.declared.spelling.PathFault.TheVariants.{EmptyName as Unnamed, TooManyNames as Long}
use Rattle.words.specs.Interned.{texts, firsts, Numbered}
use Rattle.words.specs.Lines.{Lines}
use Rattle.words.specs.Paths.{Unspelled}
use Rattle.words.specs.Spelled.{Extends, Known}
use Rattle.words.specs.Texts.{Text}
use Rattle.words.specs.Words.{Says, Third}

-- the line x says that on line k the word w asks of the module m
pub record Tells (mods names : List Text) (k : ℕ) (m w : Text) (x : Line) : Type 0 where
  pub number : x.number ≡ k
  pub placed : Numbered mods m x.«module».0
  pub asks : Asks names w x.request

-- both tables grew
abbrev pub Grew : Requests → Requests → Type 0
Grew before after = Extends (texts before.modules) (texts after.modules) × Extends (texts before.names) (texts after.names)

-- what is wrong with two words m and w: the problem, and the word that it is at
abbrev pub Misasked : Text → Text → Problem → Text → Type 0
Misasked m w NoRequest s = ⊥
Misasked m w TooManyWords s = ⊥
Misasked m w EmptyName s = (s ≡ w) × Unspelled (bare w) Unnamed
Misasked m w (TooManyNames n) s = (s ≡ w) × Unspelled (bare w) (Long n)
Misasked m w TooManyModules s = s ≡ m
Misasked m w TooManyDistinctNames s = s ≡ w

-- what comes of the words m and w of line k
abbrev pub Asked : Requests → ℕ → Text → Text → Requests → Result (Unit {0}) (Fault Problem) → Type 0
Asked before k m w after (Ok _) = Grew before after × ((x : Line) × Tells (texts after.modules) (texts after.names) k m w x × (vec_items after.lines ≡ vec_items before.lines ++ x ∷ []))
Asked before k m w after (Err (At n p s)) = (n ≡ k) × Misasked m w p (string_bytes s)
Asked before k m w after (Err NoMemory) = Unit {0}

-- what line k, which is l, adds: nothing where it has no word, and else one line
abbrev pub RowLines : List Text → List Text → ℕ → Text → List Line → Type 0
RowLines mods names k l [] = Says l []
RowLines mods names k l (x ∷ []) = (m : Text) × (w : Text) × Says l (m ∷ w ∷ []) × Tells mods names k m w x
RowLines mods names k l (x ∷ y ∷ ys) = ⊥

-- what is wrong with the line l, and the word that it is at
abbrev pub Faulty : Text → Problem → Text → Type 0
Faulty l NoRequest s = Says l (s ∷ [])
Faulty l TooManyWords s = Third l s
Faulty l EmptyName s = (m : Text) × (w : Text) × Says l (m ∷ w ∷ []) × Misasked m w EmptyName s
Faulty l (TooManyNames n) s = (m : Text) × (w : Text) × Says l (m ∷ w ∷ []) × Misasked m w (TooManyNames n) s
Faulty l TooManyModules s = (m : Text) × (w : Text) × Says l (m ∷ w ∷ []) × Misasked m w TooManyModules s
Faulty l TooManyDistinctNames s = (m : Text) × (w : Text) × Says l (m ∷ w ∷ []) × Misasked m w TooManyDistinctNames s

-- what comes of line k, which is l
abbrev pub LineAdded : Requests → ℕ → Text → Requests → Result (Unit {0}) (Fault Problem) → Type 0
LineAdded before k l after (Ok _) = Grew before after × ((out : List Line) × RowLines (texts after.modules) (texts after.names) k l out × (vec_items after.lines ≡ vec_items before.lines ++ out))
LineAdded before k l after (Err (At n p s)) = (n ≡ k) × Faulty l p (string_bytes s)
LineAdded before k l after (Err NoMemory) = Unit {0}

-- what the lines ls add, of which the first is line k
abbrev pub Rows : List Text → List Text → ℕ → List Text → List Line → Type 0
Rows mods names k [] xs = xs ≡ []
Rows mods names k (l ∷ ls) xs = (out : List Line) × (rest : List Line) × (xs ≡ out ++ rest) × RowLines mods names k l out × Rows mods names (k + 1) ls rest

-- the names of a request are in the table
abbrev pub Knows : List Text → Request → Type 0
Knows names Star = Unit {0}
Knows names Full = Unit {0}
Knows names (Ask p) = Known names (names_of p)

-- the numbers of the lines ascend from k on
abbrev pub Climbs : ℕ → List Line → Type 0
Climbs k [] = Unit {0}
Climbs k (x ∷ xs) = (k ≤ x.number) × Climbs (x.number + 1) xs

-- what was read of the text w: its lines are ls, and xs is what they add. So each number that xs holds is in its table,
-- and the lines ascend
pub record Script (mods names : List Text) (w : Text) (xs : List Line) : Type 0 where
  pub begun : Extends firsts names
  pub placed : AllByRecursion (λ x. x.«module».0 < length mods) xs
  pub known : AllByRecursion (λ x. Knows names x.request) xs
  pub climbs : Climbs 1 xs
  pub ls : List Text
  pub lines : Lines w ls []
  pub rows : Rows mods names 1 ls xs

-- why the text w is not read: the lines before line k are, and line k, which is l, is faulty
pub record Stopped (w : Text) (k : ℕ) (p : Problem) (s : Text) : Type 0 where
  pub ls : List Text
  pub rest : Text
  pub lines : Lines w ls rest
  pub mods : List Text
  pub names : List Text
  pub xs : List Line
  pub rows : Rows mods names 1 ls xs
  pub number : k ≡ length ls + 1
  pub l : Text
  pub after : Text
  pub next : FirstLine rest l after
  pub faulty : Faulty l p s

-- what comes of the text w
abbrev pub Read : Text → Result Requests (Fault Problem) → Type 0
Read w (Ok r) = Script (texts r.modules) (texts r.names) w (vec_items r.lines)
Read w (Err (At n p s)) = Stopped w n p (string_bytes s)
Read w (Err NoMemory) = Unit {0}

-- the start: nothing but the first names
abbrev pub Begun : Result Requests (Fault Problem) → Type 0
Begun (Ok r) = (texts r.names ≡ firsts) × (vec_items r.lines ≡ [])
Begun (Err (At n p s)) = ⊥
Begun (Err NoMemory) = Unit {0}
