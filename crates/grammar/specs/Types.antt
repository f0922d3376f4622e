-- The types as data (RULES.md, "Fixed parts"): its lists of types and its table of fixed parts.
use Rattle.std.specs.Prelude.{ℕ, ◌+◌, ◌*◌, ◌/◌, ◌%◌, ◌≤◌, ◌≡◌, List, [], ◌∷◌}
use Rattle.words.specs.Words.{word_at}
use Rattle.words.specs.OneOf.{OneOf}

-- the headers, which have a total; those of them that have a count
abbrev pub headers : List ℕ
headers = 1 ∷ 2 ∷ 7 ∷ 12 ∷ 14 ∷ 18 ∷ 19 ∷ []

abbrev pub counted : List ℕ
counted = 7 ∷ 12 ∷ 14 ∷ 18 ∷ 19 ∷ []

-- the types with N points; N is in word 18
abbrev pub pointed : List ℕ
pointed = 4 ∷ 6 ∷ 11 ∷ 21 ∷ []

-- the types that have an attribute part where A is set
abbrev pub linked : List ℕ
linked = 2 ∷ 3 ∷ 4 ∷ 6 ∷ 7 ∷ 11 ∷ 12 ∷ 14 ∷ 15 ∷ 16 ∷ 17 ∷ 18 ∷ 19 ∷ 21 ∷ []

-- a row of the table: types, and the words of their fixed part in 2D and in 3D
pub data Row : Type 0 where
  row : List ℕ → ℕ → ℕ → Row

-- a text's counts: the number of characters in the low byte of a word, of fields in the high byte
abbrev pub characters : ℕ → ℕ
characters counts = counts % 256

abbrev pub field_count : ℕ → ℕ
field_count counts = counts / 256

-- the words that some bytes fill: two bytes a word, and a word for an odd last byte
abbrev pub filled_by : ℕ → ℕ
filled_by n = n / 2 + n % 2

-- the words that the characters, a byte each, and the fields, three bytes each, fill together
abbrev pub text_words : ℕ → ℕ
text_words counts = filled_by (characters counts + 3 * field_count counts)

-- the table of fixed parts, of an element with these own words: N is in word 18, a text's counts are in word 29, in 3D in
-- word 37
abbrev pub fixed_parts : List ℕ → List Row
fixed_parts own =
    let n = word_at own 18 in
    row (1 ∷ []) 35 35
    ∷ row (2 ∷ []) 46 62
    ∷ row (3 ∷ []) 26 30
    ∷ row (4 ∷ 6 ∷ 11 ∷ 21 ∷ []) (19 + 4 * n) (19 + 6 * n)
    ∷ row (7 ∷ []) 35 43
    ∷ row (12 ∷ 14 ∷ []) 20 20
    ∷ row (15 ∷ []) 36 46
    ∷ row (16 ∷ []) 40 50
    ∷ row (17 ∷ []) (30 + text_words (word_at own 29)) (38 + text_words (word_at own 37))
    ∷ row (18 ∷ 19 ∷ []) 21 21
    ∷ []

-- m words are not below the fixed part of the type t: each row that has the type asks for its words, in 2D or (a call has no
-- other dimension) in 3D, and every type asks for 2
abbrev pub NotBelow : ℕ → ℕ → List Row → ℕ → Type 0
NotBelow dim t [] m = 2 ≤ m
NotBelow dim t (row types flat solid ∷ rows) m =
    (OneOf types t → (dim ≡ 2 → flat ≤ m) × (¬ (dim ≡ 2) → solid ≤ m)) × NotBelow dim t rows m
