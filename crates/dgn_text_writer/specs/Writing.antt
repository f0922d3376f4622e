-- What dgn_write_text is handed and what it leaves. The text's numbers are a slice of twelve, in the order font, justification,
-- length and height multiplier, the four longs of the turn (in 2D the rotation and zeros), x, y, z (in 2D 0), the odd byte (-1
-- or 0 where there is none).
use Rattle.std.specs.Prelude.{ℕ, ◌+◌, ◌%◌, Bool, cond, ◌&&◌, List, length, eqb, ℤ, pos, negsuc}
use Rattle.ranges.specs.Ranges.{is_coordinate}
use Rattle.write_answers.specs.Writing.{number_at, natural, fields_given, fields_of, WroteBy}
use Rattle.text_fields.specs.declared.Text.{Text}
use Rattle.text_fields.specs.Words.{text_size, text_words}
use Rattle.text_fields.specs.Faults.{text_fault}

-- twelve numbers, x, y and z coordinates
unfoldable pub text_given : List ℤ → Bool
text_given l =
    eqb (length l) 12
    && (is_coordinate (number_at l 8) && (is_coordinate (number_at l 9) && is_coordinate (number_at l 10)))

-- the odd byte behind n bytes: -1 is 0 where there is none
abbrev pub odd_by : Bool → ℤ → ℕ
odd_by even (pos n) = n
odd_by even (negsuc n) = cond (even && eqb n 0) 0 4294967296

-- the numbers of a text
abbrev pub text_of : ℕ → List ℤ → Text
text_of n l = record {
  font = natural (number_at l 0);
  justification = natural (number_at l 1);
  length = natural (number_at l 2);
  height = natural (number_at l 3);
  first = natural (number_at l 4);
  second = natural (number_at l 5);
  third = natural (number_at l 6);
  fourth = natural (number_at l 7);
  x = number_at l 8;
  y = number_at l 9;
  z = number_at l 10;
  odd = odd_by (eqb (n % 2) 0) (number_at l 11);
}

-- the text of a call, by its numbers, characters and fields
abbrev pub text_in : List ℤ → List ℕ → List ℕ → Text
text_in l characters triples = text_of (length characters + length triples) l

-- the number of the first fault, 0 where there is none: 1 for the two slices of numbers, then the writer's own
unfoldable pub given_fault : ℕ → List ℤ → List ℤ → List ℕ → List ℕ → List ℕ → ℕ → ℕ
given_fault dim f l characters triples tail room =
    cond (text_given l && fields_given f)
    (text_fault dim (fields_of f) (text_in l characters triples) characters triples tail room)
    1

-- the number that is returned, the answer slice and the buffer as they then are
abbrev pub WroteText : ℕ → List ℤ → List ℤ → List ℕ → List ℕ → List ℕ → List ℕ → List ℕ → ℕ → List ℕ → List ℕ → Type 0
WroteText dim f l characters triples tail buffer =
    WroteBy (given_fault dim f l characters triples tail (length buffer)) (text_size dim characters triples tail)
    (text_words dim (fields_of f) (text_in l characters triples) characters triples tail) buffer
