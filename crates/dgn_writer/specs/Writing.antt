-- What dgn_write is handed and what it leaves.
use Rattle.std.specs.Prelude.{ℕ, cond, List, length, ℤ}
use Rattle.fields.specs.Words.{size_of, element_words}
use Rattle.fields.specs.Faults.{write_fault}
use Rattle.write_answers.specs.Writing.{fields_given, fields_of, WroteBy}

-- the number of the first fault, 0 where there is none: 1 for the slice of fields, then the writer's own
unfoldable pub given_fault : ℕ → List ℤ → List ℤ → List ℕ → ℕ → ℕ
given_fault dim f points tail room = cond (fields_given f) (write_fault dim (fields_of f) points tail room) 1

-- the number that is returned, the answer slice and the buffer as they then are
abbrev pub Wrote : ℕ → List ℤ → List ℤ → List ℕ → List ℕ → List ℕ → ℕ → List ℕ → List ℕ → Type 0
Wrote dim f points tail buffer =
    WroteBy (given_fault dim f points tail (length buffer)) (size_of dim (fields_of f) points tail)
    (element_words dim (fields_of f) points tail) buffer
