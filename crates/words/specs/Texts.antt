-- A list of texts in which none stands twice. Assumes nothing.
use Rattle.std.specs.Prelude.{◌≡◌, ℕ, ◌<◌, List, [], map, length, vec_items, string_bytes, Vec, String, ◌≢◌, slice_index_or}

-- a text is the list of its bytes
abbrev pub Text : Type 0
Text = List ℕ

module _ {Y Z : Type 0} where
  -- the texts of a row of strings
  abbrev pub texts_in : Vec (String Y) Z → List Text
  texts_in v = map string_bytes (vec_items v)

-- the text at a number
abbrev pub text_at : List Text → ℕ → Text
text_at ts n = slice_index_or ts n []

-- i and j are numbers of one text
abbrev pub Alike : List Text → ℕ → ℕ → Type 0
Alike ts i j = (i < length ts) × (j < length ts) × (text_at ts i ≡ text_at ts j)

-- no text has two numbers
abbrev pub Distinct : List Text → Type 0
Distinct ts = (i j : ℕ) → Alike ts i j → i ≡ j

-- no number has the text t
abbrev pub Lacking : List Text → Text → Type 0
Lacking ts t = (i : ℕ) → i < length ts → text_at ts i ≢ t
