-- Writing an element (RULES.md, "Writing"): the answer, and what the buffer then holds.
use Rattle.std.specs.Prelude.{ℕ, ◌*◌, ◌≡◌, Bool, cond, ◌&&◌, List, length, eqb, leb, ℤ, Ok, Result}
use Rattle.words.specs.Words.{bytes, over}
use Rattle.fields.specs.Words.{header_words, size_of, element_words}
use Rattle.fields.specs.Faults.{fields_ok, write_fault}
use Rattle.fields.specs.declared.Fields.{Fields}
use Rattle.refusals.specs.Refusals.{refused_with}
use Rattle.refusals.specs.declared.Refusal.{Refusal}

-- a buffer with words in it from a place on, its other bytes as they were
abbrev pub laid : List ℕ → ℕ → List ℕ → List ℕ
laid out at ws = over out (2 * at) (bytes ws)

-- the answer: the number of words written, or the number of a refusal, at the place 0
abbrev pub written_by : ℕ → ℕ → Result ℕ Refusal
written_by fault size = cond (eqb fault 0) (Ok size) (refused_with fault 0)

-- what the buffer then holds: the element from its start on, or what it held
abbrev pub bytes_by : ℕ → List ℕ → List ℕ → List ℕ
bytes_by fault ws out = cond (eqb fault 0) (laid out 0 ws) out

-- what a call answers and leaves in the buffer, by the number of its first fault and by the size and the words of its element
pub record WritesBy (fault size : ℕ) (ws out : List ℕ) (r : Result ℕ Refusal) (last : List ℕ) : Type 0 where
  pub answer : r ≡ written_by fault size
  pub bytes : last ≡ bytes_by fault ws out

abbrev pub Writes : ℕ → Fields → List ℤ → List ℕ → List ℕ → Result ℕ Refusal → List ℕ → Type 0
Writes dim f points tail out =
    WritesBy (write_fault dim f points tail (length out)) (size_of dim f points tail) (element_words dim f points tail) out

-- a buffer of so many bytes can take words 0 to 17 of an element: it has room for them, each field fits its place, and the
-- size is one that an element may have
unfoldable pub header_fits : Fields → ℕ → ℕ → Bool
header_fits f size room = leb 36 room && (leb 2 size && (leb size 65535 && (leb f.kind 127 && fields_ok f)))

-- a buffer with these words at its start, or as it was
unfoldable pub header_laid : Fields → ℕ → List ℕ → List ℕ
header_laid f size out = cond (header_fits f size (length out)) (laid out 0 (header_words f size)) out
