-- The plate of the cell at a place of words that were judged: its direct components are gone over by their extents alone, each of which
-- leads to the next one. What stands under a component is not looked at.
use Rattle.std.specs.Prelude.{ℕ, zero, suc, ◌+◌, ◌-◌, min, ◌≡◌, List, [], ◌∷◌, cond, length, get_or, eqb, ltb, Ok, Result}
use Rattle.refusals.specs.Refusals.{refused_with}
use Rattle.refusals.specs.declared.Refusal.{Refusal}
use Rattle.words.specs.Words.{word_at}
use Rattle.kinds.specs.FirstWord.{type_of, deleted_of, bit}
use Rattle.kinds.specs.Kinds.{is_pointed, is_curve, is_header, is_cell}
use Rattle.headers.specs.Header.{type_at, size_at, extent_words}
use Rattle.plates.specs.Kinds.{is_line, is_text}
use Rattle.plates.specs.Plates.{live_among, plate_on}
use Rattle.plates.specs.declared.Plate.{Plate}

-- the places from one on, each behind the extent of the one before, up to an end; an extent has two words at least, so the first number
-- is enough where it is above the words between
unfoldable pub hops_from : ℕ → List ℕ → ℕ → ℕ → List ℕ
hops_from zero ws here end = []
hops_from (suc n) ws here end = cond (ltb here end) (here ∷ hops_from n ws (here + extent_words ws here) end) []

unfoldable pub hops : List ℕ → ℕ → ℕ → List ℕ
hops ws here end = hops_from (suc (end - here)) ws here end

-- from the end of an element's own words to the end of its extent, or of the words
abbrev pub hops_under : List ℕ → ℕ → List ℕ
hops_under ws at = hops ws (at + size_at ws at) (min (at + extent_words ws at) (length ws))

abbrev pub plate_here : List ℕ → ℕ → Plate
plate_here ws at = plate_on ws at (live_among ws (hops_under ws at))

-- 18 where the element is no cell
unfoldable pub plate_in : List ℕ → ℕ → Result Plate Refusal
plate_in ws at = cond (is_cell (type_at ws at)) (Ok (plate_here ws at)) (refused_with 18 0)

---- the private functions

-- the number of a type's kind
abbrev pub kind_of : ℕ → ℕ
kind_of t = cond (is_line t) 0 (cond (is_pointed t) 1 (cond (is_text t) 2 (cond (is_curve t) 3 (cond (is_header t) 4 5))))

-- the same of an element by its word 0, and 6 of a deleted one
unfoldable pub slot_of : ℕ → ℕ
slot_of w = cond (eqb (deleted_of w) 1) 6 (kind_of (type_of w))

-- how many of some elements have it
abbrev pub slot_count : ℕ → List ℕ → List ℕ → ℕ
slot_count k ws [] = 0
slot_count k ws (q ∷ qs) = bit (eqb (slot_of (word_at ws q)) k) + slot_count k ws qs

-- how many of each number there are among those gone over
abbrev pub Tallies : List ℕ → ℕ → ℕ → List ℕ → Type 0
Tallies ws from end counts = (k : ℕ) → get_or counts k 0 ≡ slot_count k ws (hops ws from end)
