-- The rules of one element, in their order (RULES.md, "Order of checks": 3, 4, 5, 10, 6, 7, 20, 8, 11, 21, 12), apart from
-- its components.
-- An element starts at the place `at`, its bound is the place `bound`, `under` is the type of its direct header (0 at
-- the top) and `depth` how many headers stand above it.
use Rattle.std.specs.Prelude.{ℕ, ◌+◌, ◌-◌, ◌≤◌, ◌≡◌, List, [], ◌∷◌, ◌++◌, Bool, cond, not, ◌&&◌, ◌||◌, eqb, leb}
use Rattle.words.specs.Words.{words, word_at}
use Rattle.names.specs.Names.{name_ok}
use Rattle.texts.specs.Texts.{fields_ok}
use Rattle.curves.specs.Curves.{floats_ok}
use Rattle.kinds.specs.FirstWord.{type_of}
use Rattle.headers.specs.Checks.{Check, check, first_fault}
use Rattle.headers.specs.Flags.{flag_checks}
use Rattle.headers.specs.Header.{type_at, size_at, points_at, sizing_at, extent_at, count_at, name_first, name_second}
use Rattle.kinds.specs.Kinds.{is_header, is_counted, is_pointed, is_sized, sizing_word, is_curve, is_cell, fixed_part, may_stand, points_within}
use Rattle.elements.specs.Attributes.{linkages_ok}
use Rattle.elements.specs.declared.Head.{Head}
use Rattle.elements.specs.declared.Head.TheVariants.{Bad, Plain, Complex}

-- the element reaches past the word that sizes its fixed part, where there is one
abbrev pub sized_ok : ℕ → List ℕ → ℕ → Bool
sized_ok dim ws at = not (is_sized (type_at ws at)) || leb (sizing_word dim (type_at ws at) + 1) (size_at ws at)

-- N is from 2 to 101, where there is one
abbrev pub points_ok : List ℕ → ℕ → Bool
points_ok ws at = not (is_pointed (type_at ws at)) || points_within (points_at ws at)

-- 7 unless both are right and the element is not shorter than its fixed part
unfoldable pub fixed_ok : ℕ → List ℕ → ℕ → Bool
fixed_ok dim ws at =
    sized_ok dim ws at && (points_ok ws at && leb (fixed_part dim (type_at ws at) (sizing_at dim ws at)) (size_at ws at))

-- 20 unless the fields of a text are right
unfoldable pub text_fields_ok : ℕ → List ℕ → ℕ → Bool
text_fields_ok dim ws at = not (eqb (type_at ws at) 17) || fields_ok dim ws at

-- 8 unless the size is at most 65,535 words and a header's extent ends neither before the header does, nor past the
-- bound, nor above 65,535 words
unfoldable pub extent_ok : List ℕ → ℕ → ℕ → Bool
extent_ok ws at room =
    leb (size_at ws at) 65535
    && (not (is_header (type_at ws at))
    || (leb (size_at ws at) (extent_at ws at) && (leb (extent_at ws at) room && leb (extent_at ws at) 65535)))

-- 21 unless each float of an ellipse or an arc is a number
unfoldable pub curve_floats_ok : ℕ → List ℕ → ℕ → Bool
curve_floats_ok dim ws at = not (is_curve (type_at ws at)) || floats_ok dim (type_at ws at) ws at

-- 12 unless the stored name of a cell is right
unfoldable pub stored_name_ok : List ℕ → ℕ → Bool
stored_name_ok ws at = not (is_cell (type_at ws at)) || name_ok (name_first ws at) (name_second ws at)

-- the checks of where an element with the word 0 `w` stands
abbrev pub place_checks : ℕ → ℕ → ℕ → ℕ → List Check
place_checks dim depth under w = flag_checks depth w ++ (check (may_stand dim under (type_of w)) 6 ∷ [])

-- the checks of what the element holds, with `room` words from its start to its bound
abbrev pub content_checks : ℕ → List ℕ → ℕ → ℕ → List Check
content_checks dim ws at room =
    check (fixed_ok dim ws at) 7
    ∷ check (text_fields_ok dim ws at) 20
    ∷ check (extent_ok ws at room) 8
    ∷ check (linkages_ok dim ws at) 11
    ∷ check (curve_floats_ok dim ws at) 21
    ∷ check (stored_name_ok ws at) 12
    ∷ []

-- all checks of the element, in their order
abbrev pub checks : ℕ → ℕ → ℕ → List ℕ → ℕ → ℕ → List Check
checks dim depth under ws at bound =
    check (leb 2 (bound - at)) 3
    ∷ check (leb (size_at ws at) (bound - at)) 3
    ∷ (place_checks dim depth under (word_at ws at) ++ content_checks dim ws at (bound - at))

-- the number of the element's first fault
unfoldable pub fault_of : ℕ → ℕ → ℕ → List ℕ → ℕ → ℕ → ℕ
fault_of dim depth under ws at bound = first_fault (checks dim depth under ws at bound)

-- what one element is read as: refused, ended by its own words, or a header around its components
unfoldable pub head_of : ℕ → ℕ → ℕ → List ℕ → ℕ → ℕ → Head
head_of dim depth under ws at bound =
    cond (eqb (fault_of dim depth under ws at bound) 0)
    (cond (is_header (type_at ws at)) (Complex (at + size_at ws at) (at + extent_at ws at)) (Plain (at + size_at ws at)))
    (Bad (fault_of dim depth under ws at bound))

-- 9, after the components, unless the count of a header that has one is that of its direct components
unfoldable pub count_ok : List ℕ → ℕ → ℕ → Bool
count_ok ws at direct = not (is_counted (type_at ws at)) || eqb (count_at ws at) direct

-- the bounds of an answer: an element has at least two words, a header 20; it ends by its bound, and a header is at depth 8
-- at most
abbrev pub HeadWithin : ℕ → ℕ → ℕ → Head → Type 0
HeadWithin depth at bound (Bad n) = Unit
HeadWithin depth at bound (Plain next) = (at + 2 ≤ next) × (next ≤ bound)
HeadWithin depth at bound (Complex inner end) = (at + 20 ≤ inner) × ((inner ≤ end) × ((end ≤ bound) × (depth ≤ 8)))

pub record HeadRead (dim depth under : ℕ) (s : List ℕ) (at bound : ℕ) (r : Head) : Type 0 where
  pub is : r ≡ head_of dim depth under (words s) at bound
  pub within : HeadWithin depth at bound r
