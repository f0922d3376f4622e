-- The words of a text (RULES.md, "Text" and "Writing"), by its header fields, its numbers, its characters, its enter-data
-- fields as triples of bytes and the bytes of its tail, in a file of 2 or 3 dimensions.
use Rattle.std.specs.Prelude.{ℕ, ◌+◌, ◌*◌, ◌/◌, ◌%◌, cond, List, [], ◌∷◌, ◌++◌, map, length, ℤ, eqb}
use Rattle.words.specs.Words.{words, unsigned}
use Rattle.texts.specs.Texts.{text_part}
use Rattle.fields.specs.Words.{longs, element_of}
use Rattle.fields.specs.declared.Fields.{Fields}
use Rattle.text_fields.specs.declared.Text.{Text}

-- the turn: the rotation in 2D, four longs in 3D
abbrev pub turn_longs : ℕ → Text → List ℕ
turn_longs dim t = cond (eqb dim 2) (t.first ∷ []) (t.first ∷ t.second ∷ t.third ∷ t.fourth ∷ [])

-- the coordinates of the origin
abbrev pub origin_of : ℕ → Text → List ℤ
origin_of dim t = cond (eqb dim 2) (t.x ∷ t.y ∷ []) (t.x ∷ t.y ∷ t.z ∷ [])

-- font and justification, the multipliers, the turn, the origin as signed longs
abbrev pub number_words : ℕ → Text → List ℕ
number_words dim t =
    (t.font + 256 * t.justification)
    ∷ longs (t.length ∷ t.height ∷ (turn_longs dim t ++ map unsigned (origin_of dim t)))

-- the word of the counts
abbrev pub counts_of : List ℕ → List ℕ → ℕ
counts_of characters triples = length characters + 256 * (length triples / 3)

-- the byte behind characters and fields, where they are odd in number
abbrev pub odd_bytes : Text → ℕ → List ℕ
odd_bytes t n = cond (eqb (n % 2) 1) (t.odd ∷ []) []

-- the bytes behind the counts: the characters, the fields, the odd byte
abbrev pub text_bytes : Text → List ℕ → List ℕ → List ℕ
text_bytes t characters triples = characters ++ (triples ++ odd_bytes t (length characters + length triples))

-- the fixed part behind the header
abbrev pub text_body : ℕ → Text → List ℕ → List ℕ → List ℕ
text_body dim t characters triples =
    number_words dim t ++ (counts_of characters triples ∷ words (text_bytes t characters triples))

-- the size: the fixed part and the tail
unfoldable pub text_size : ℕ → List ℕ → List ℕ → List ℕ → ℕ
text_size dim characters triples tail = text_part dim (counts_of characters triples) + length tail / 2

-- all words
unfoldable pub text_words : ℕ → Fields → Text → List ℕ → List ℕ → List ℕ → List ℕ
text_words dim f t characters triples tail =
    element_of f (text_size dim characters triples tail) (text_body dim t characters triples) tail
