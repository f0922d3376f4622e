-- The checks of what is handed to the writer of a text (RULES.md, "Writing"), in their order.
use Rattle.std.specs.Prelude.{ℕ, ◌+◌, ◌*◌, ◌%◌, Bool, true, not, ◌&&◌, ◌||◌, List, [], ◌∷◌, length, eqb, leb}
use Rattle.words.specs.Words.{unsigned}
use Rattle.limits.specs.Limits.{dim_ok}
use Rattle.headers.specs.Checks.{Check, check, first_fault}
use Rattle.texts.specs.Texts.{field_ok}
use Rattle.elements.specs.Attributes.{linkages_ok}
use Rattle.fields.specs.Faults.{each_at_most, fields_ok}
use Rattle.fields.specs.declared.Fields.{Fields}
use Rattle.text_fields.specs.declared.Text.{Text}
use Rattle.text_fields.specs.Words.{text_size, text_words}

-- the numbers that are a byte each, and those that are an unsigned long each
abbrev pub byte_numbers : Text → List ℕ
byte_numbers t = t.font ∷ t.justification ∷ t.odd ∷ []

abbrev pub long_numbers : Text → List ℕ
long_numbers t = t.length ∷ t.height ∷ t.first ∷ t.second ∷ t.third ∷ t.fourth ∷ []

-- each is in its range
unfoldable pub numbers_ok : Text → Bool
numbers_ok t = each_at_most 255 (byte_numbers t) && each_at_most 4294967295 (long_numbers t)

-- in 2D there is one long of the turn and no z: the others are 0
unfoldable pub flat_ok : ℕ → Text → Bool
flat_ok dim t = not (eqb dim 2) || each_at_most 0 (t.second ∷ t.third ∷ t.fourth ∷ unsigned t.z ∷ [])

-- so many characters, and so many bytes of fields: at most 255 of each, three bytes to a field
unfoldable pub lists_ok : ℕ → ℕ → Bool
lists_ok characters triples = leb characters 255 && (eqb (triples % 3) 0 && leb triples 765)

-- behind an even number of bytes there is no odd byte: it is 0
unfoldable pub odd_ok : Text → ℕ → Bool
odd_ok t n = eqb (n % 2) 1 || eqb t.odd 0

-- 1 unless the dimension, the type, the fields, the numbers and the lengths are right
unfoldable pub text_arguments_ok : ℕ → Fields → Text → ℕ → ℕ → ℕ → Bool
text_arguments_ok dim f t characters triples tail =
    dim_ok dim
    && (eqb f.kind 17
    && (fields_ok f
    && (numbers_ok t
    && (flat_ok dim t && (lists_ok characters triples && (odd_ok t (characters + triples) && eqb (tail % 2) 0))))))

-- 20 unless each field of a text of c characters is right
abbrev pub triples_ok : ℕ → List ℕ → Bool
triples_ok c [] = true
triples_ok c (first ∷ []) = true
triples_ok c (first ∷ size ∷ []) = true
triples_ok c (first ∷ size ∷ justification ∷ rest) = field_ok c first size justification && triples_ok c rest

-- the checks, with a buffer of so many bytes: 8 is of the size, 11 of the attribute part, 15 of the room
abbrev pub text_checks : ℕ → Fields → Text → List ℕ → List ℕ → List ℕ → ℕ → List Check
text_checks dim f t characters triples tail room =
    check (text_arguments_ok dim f t (length characters) (length triples) (length tail)) 1
    ∷ check (triples_ok (length characters) triples) 20
    ∷ check (leb (text_size dim characters triples tail) 65535) 8
    ∷ check (linkages_ok dim (text_words dim f t characters triples tail) 0) 11
    ∷ check (leb (2 * text_size dim characters triples tail) room) 15
    ∷ []

-- the number of the first fault, 0 where there is none
unfoldable pub text_fault : ℕ → Fields → Text → List ℕ → List ℕ → List ℕ → ℕ → ℕ
text_fault dim f t characters triples tail room = first_fault (text_checks dim f t characters triples tail room)
