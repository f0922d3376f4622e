-- The rules for the own words of one element (RULES.md, "Element header" to "Names"): a rule is a statement about words, not
-- a test.
use Rattle.std.specs.Prelude.{ℕ, ◌+◌, ◌*◌, ◌/◌, ◌%◌, ◌≤◌, ◌<◌, ◌≡◌, List, [], ◌∷◌, ◌++◌, length, get_or}
use Rattle.words.specs.Words.{bytes, word_at}
use Rattle.words.specs.OneOf.{OneOf}
use Rattle.names.specs.Names.{packed}
use Rattle.names.specs.Name.{packed_to}
use Rattle.kinds.specs.FirstWord.{reserved_of, c_of, type_of}
use Rattle.linkages.specs.Linkages.{Linkages}
use Rattle.grammar.specs.Types.{headers, counted, pointed, linked, characters, field_count, fixed_parts, NotBelow}

-- the type of an element
abbrev pub type_in : List ℕ → ℕ
type_in own = type_of (word_at own 0)

-- m words are not below the element's fixed part
abbrev pub PastFixed : ℕ → List ℕ → ℕ → Type 0
PastFixed dim own m = NotBelow dim (type_in own) (fixed_parts own) m

-- byte j of an element
abbrev pub byte_in : List ℕ → ℕ → ℕ
byte_in own j = get_or (bytes own) j 0

-- an enter-data field of a text of c characters, in three bytes from byte j on: the first of its characters, counted from
-- 1, its length and its justification. It begins at a character and ends by the last
pub record Field (own : List ℕ) (c j : ℕ) : Type 0 where
  pub begins : (1 ≤ byte_in own j) × (byte_in own j ≤ c)
  pub ends : byte_in own j + byte_in own (j + 1) ≤ c + 1
  pub justified : OneOf (0 ∷ 1 ∷ 255 ∷ []) (byte_in own (j + 2))

-- every field of a text whose counts are in the word k: the characters stand behind that word, the fields behind these
abbrev pub Fields : List ℕ → ℕ → Type 0
Fields own k =
    let counts = word_at own k in
    (i : ℕ) → i < field_count counts → Field own (characters counts) (2 * (k + 1) + characters counts + 3 * i)

-- the float that begins at word k is a number: where its sign, bit 15, is set, its exponent, bits 7 to 14, is not 0
abbrev pub IsNumber : List ℕ → ℕ → Type 0
IsNumber own k = word_at own k / 32768 % 2 ≡ 1 → ¬ (word_at own k / 128 % 256 ≡ 0)

-- and so each of those that begin at these words
abbrev pub Numbers : List ℕ → List ℕ → Type 0
Numbers own ks = (k : ℕ) → OneOf ks k → IsNumber own k

-- what may stand under a header of the type `under`, 0 at the top: no type that is refused, 18 and 19 not in a 2D file,
-- type 1 only at the top, under 7 only type 17, under 12, 14, 18 and 19 no header
pub record Allowed (dim under t : ℕ) : Type 0 where
  pub read : ¬ OneOf (24 ∷ 27 ∷ 87 ∷ []) t
  pub flat : dim ≡ 2 → ¬ OneOf (18 ∷ 19 ∷ []) t
  pub library : t ≡ 1 → under ≡ 0
  pub texts : under ≡ 7 → t ≡ 17
  pub closed : OneOf (12 ∷ 14 ∷ 18 ∷ 19 ∷ []) under → ¬ OneOf headers t

-- the attribute part begins at word 16 + word 15, not before the fixed part's end, and runs to the element's end; linkages
-- fill it exactly
pub record Attributes (dim : ℕ) (own : List ℕ) : Type 0 where
  pub front : List ℕ
  pub part : List ℕ
  pub whole : own ≡ front ++ part
  pub begins : length front ≡ 16 + word_at own 15
  pub after : PastFixed dim own (length front)
  pub filled : Linkages part

-- two words are a name: some text packs to them
pub record Named (first second : ℕ) : Type 0 where
  pub text : List ℕ
  pub packs : packed text ≡ packed_to first second

-- the own words of an element that has `depth` headers above it, the direct one of the type `under` (0 at the top), and
-- under it so many words, with n direct components
pub record Own (dim depth under : ℕ) (own : List ℕ) (inside n : ℕ) : Type 0 where
  -- the element header: in type 9 bits 6 and 7 are not judged
  pub reserved : ¬ (type_in own ≡ 9) → reserved_of (word_at own 0) ≡ 0
  pub size : word_at own 1 + 2 ≡ length own
  pub small : length own ≤ 65535
  -- the fixed part
  pub points : OneOf pointed (type_in own) → (2 ≤ word_at own 18) × (word_at own 18 ≤ 101)
  pub fixed : PastFixed dim own (length own)
  -- the fields of a text
  pub fields : type_in own ≡ 17 → (dim ≡ 2 → Fields own 29) × (¬ (dim ≡ 2) → Fields own 37)
  -- the floats of an ellipse and of an arc: the axes, x and y, in 3D z
  pub ellipse : type_in own ≡ 15 → (dim ≡ 2 → Numbers own (18 ∷ 22 ∷ 28 ∷ 32 ∷ [])) × (¬ (dim ≡ 2) → Numbers own (18 ∷ 22 ∷ 34 ∷ 38 ∷ 42 ∷ []))
  pub arc : type_in own ≡ 16 → (dim ≡ 2 → Numbers own (22 ∷ 26 ∷ 32 ∷ 36 ∷ [])) × (¬ (dim ≡ 2) → Numbers own (22 ∷ 26 ∷ 38 ∷ 42 ∷ 46 ∷ []))
  -- complex elements: the total counts the header's own words after word 18 and all words under it
  pub total : OneOf headers (type_in own) → 19 + word_at own 18 ≡ length own + inside
  pub extent : OneOf headers (type_in own) → length own + inside ≤ 65535
  pub count : OneOf counted (type_in own) → word_at own 19 ≡ n
  pub plain : ¬ OneOf headers (type_in own) → (inside ≡ 0) × (n ≡ 0)
  pub place : ¬ (type_in own ≡ 9) → (depth ≡ 0 → c_of (word_at own 0) ≡ 0) × (¬ (depth ≡ 0) → c_of (word_at own 0) ≡ 1)
  pub kind : Allowed dim under (type_in own)
  pub deep : depth ≤ 8
  -- linkages, where A, bit 11 of word 16, is set; the names of the cells
  pub linkages : OneOf linked (type_in own) → word_at own 16 / 2048 % 2 ≡ 1 → Attributes dim own
  pub library_name : type_in own ≡ 1 → Named (word_at own 16) (word_at own 17)
  pub cell_name : type_in own ≡ 2 → Named (word_at own 19) (word_at own 20)
