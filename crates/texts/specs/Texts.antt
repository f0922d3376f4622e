-- The counts, the characters and the enter-data fields of a text (RULES.md, "Text") that starts at the place `at` of the words
-- `ws`. Its bytes are counted from its start.
use Rattle.std.specs.Prelude.{ℕ, zero, suc, ◌+◌, ◌*◌, ◌/◌, ◌%◌, List, Bool, true, cond, ◌&&◌, ◌||◌, eqb, leb}
use Rattle.words.specs.Words.{word_at}

-- byte j behind a place: of each word the low byte comes first
unfoldable pub byte_at : List ℕ → ℕ → ℕ → ℕ
byte_at ws at j = cond (eqb (j % 2) 0) (word_at ws (at + j / 2) % 256) (word_at ws (at + j / 2) / 256 % 256)

-- the word of the counts: the number of characters in its low byte, the number of fields in its high byte
abbrev pub counts_word : ℕ → ℕ
counts_word dim = cond (eqb dim 2) 29 37

abbrev pub characters_in : ℕ → ℕ
characters_in counts = counts % 256

abbrev pub fields_in : ℕ → ℕ
fields_in counts = counts / 256

-- the bytes of the characters, a byte each, and of the fields, three bytes each
abbrev pub text_bytes : ℕ → ℕ
text_bytes counts = characters_in counts + 3 * fields_in counts

-- the fixed part: the words through that of the counts, and those that characters and fields fill, rounded up once
unfoldable pub text_part : ℕ → ℕ → ℕ
text_part dim counts = counts_word dim + 1 + (text_bytes counts + 1) / 2

-- the counts of the text at a place
abbrev pub counts_at : ℕ → List ℕ → ℕ → ℕ
counts_at dim ws at = word_at ws (at + counts_word dim)

-- the byte of the first character: 60 in 2D, 76 in 3D; the fields follow the characters
abbrev pub first_character : ℕ → ℕ
first_character dim = 2 * (counts_word dim + 1)

abbrev pub field_byte : ℕ → ℕ → ℕ → ℕ
field_byte dim counts k = first_character dim + characters_in counts + 3 * k

-- a field of a text of c characters begins at a character, counted from 1, and ends by the last; it has length 0 or more, and
-- its justification is -1 (stored as 255), 0 or 1
abbrev pub field_ok : ℕ → ℕ → ℕ → ℕ → Bool
field_ok c first size justification =
    (leb 1 first && leb first c)
    && (leb (first + size) (c + 1)
    && (eqb justification 255 || (eqb justification 0 || eqb justification 1)))

-- n fields from byte j on
unfoldable pub each_field_ok : ℕ → ℕ → List ℕ → ℕ → ℕ → Bool
each_field_ok zero c ws at j = true
each_field_ok (suc n) c ws at j =
    field_ok c (byte_at ws at j) (byte_at ws at (j + 1)) (byte_at ws at (j + 2)) && each_field_ok n c ws at (j + 3)

-- 20 unless each field is right
unfoldable pub fields_ok : ℕ → List ℕ → ℕ → Bool
fields_ok dim ws at =
    let counts = counts_at dim ws at in
    each_field_ok (fields_in counts) (characters_in counts) ws at (field_byte dim counts 0)
