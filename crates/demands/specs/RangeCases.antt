-- Worked cases of ranges (RULES.md, "Element header" and "Reading calls"): the coordinate of a stored long and back, a view's range, what
-- the writers take, and whether points lie in their range.
use Rattle.std.specs.Prelude.{ℕ, zero, suc, ◌+◌, List, [], ◌∷◌, ◌++◌, map, ℤ, pos, negsuc, length, replicate, Bool, true, false, Err, None, Ok, Option, Result, Some}
use Rattle.refusals.specs.declared.Refusal.{Refusal}
use Rattle.words.specs.Words.{words, bytes, long_at, unsigned}
use Rattle.ranges.specs.Ranges.{coordinate, stored}
use Rattle.views.specs.Views.{view_of}
use Rattle.views.specs.declared.Element.{Element}
use Rattle.views.specs.declared.Range.{Range}
use Rattle.range_checks.specs.InRange.{in_range_of}
use Rattle.fields.specs.Words.{longs, range_longs}
use Rattle.write_answers.specs.Writing.{fields_of}
use Rattle.dgn_writer.specs.Writing as elements
use Rattle.dgn_text_writer.specs.Writing as texts
use Rattle.demands.specs.Cases.{Case, case}
use Rattle.demands.specs.Shown.{signed_numbers, signed_all, with_marker}
use Rattle.demands.specs.Elements.{first_word, line, raw, text}

---- the coordinate of a stored long

abbrev pub coordinate_in : List ℕ → List ℕ
coordinate_in s = signed_numbers (coordinate (long_at (words s) 0))

-- 00 80 00 00 is 0; 1 and -1; the lowest and the highest
abbrev pub coordinate_cases : List Case
coordinate_cases =
    case (coordinate_in (0 ∷ 128 ∷ 0 ∷ 0 ∷ [])) (0 ∷ 0 ∷ []) ∷
    case (coordinate_in (0 ∷ 128 ∷ 1 ∷ 0 ∷ [])) (0 ∷ 1 ∷ []) ∷
    case (coordinate_in (255 ∷ 127 ∷ 255 ∷ 255 ∷ [])) (1 ∷ 1 ∷ []) ∷
    case (coordinate_in (0 ∷ 0 ∷ 0 ∷ 0 ∷ [])) (1 ∷ 2147483648 ∷ []) ∷
    case (coordinate_in (255 ∷ 255 ∷ 255 ∷ 255 ∷ [])) (0 ∷ 2147483647 ∷ []) ∷
    case (bytes (longs (stored (pos 0) ∷ [])) ++ (stored (negsuc 2147483647) ∷ stored (pos 2147483647) ∷ [])) (0 ∷ 128 ∷ 0 ∷ 0 ∷ 0 ∷ 4294967295 ∷ []) ∷
    []

---- elements with a range and points

-- the number -n
abbrev pub minus : ℕ → ℤ
minus zero = pos 0
minus (suc n) = negsuc n

-- a range of low and high coordinates, and points
abbrev pub range_words : List ℤ → List ℕ
range_words zs = longs (map stored zs)

abbrev pub point_words : List ℤ → List ℕ
point_words zs = longs (map unsigned zs)

-- an element by word 0, with a range and the words from 18 on
abbrev pub ranged : ℕ → List ℤ → List ℕ → List ℕ
ranged first zs own = first ∷ (16 + length own) ∷ range_words zs ++ (0 ∷ 0 ∷ 0 ∷ 0 ∷ own)

-- a live element of a type with N points, and a line
abbrev pub pointed : ℕ → List ℤ → ℕ → List ℤ → List ℕ
pointed kind zs n points = ranged (first_word kind 0 0 0) zs (n ∷ point_words points)

abbrev pub lined : List ℤ → List ℤ → List ℕ
lined zs points = ranged (first_word 3 0 0 0) zs (point_words points)

---- a view's range

abbrev pub range_shown : Option Range → List ℕ
range_shown None = 0 ∷ []
range_shown (Some range) = 1 ∷ signed_all (range.low_x ∷ range.low_y ∷ range.low_z ∷ range.high_x ∷ range.high_y ∷ range.high_z ∷ [])

abbrev pub range_seen : Result Element Refusal → List ℕ
range_seen (Ok e) = range_shown e.range
range_seen (Err refusal) = refusal.number ∷ refusal.place ∷ []

-- x from -5 to 5, y from -7 to 7, and a low z of 3 above a high one of -3, which a 2D file does not ask
abbrev pub small : List ℤ
small = minus 5 ∷ minus 7 ∷ pos 3 ∷ pos 5 ∷ pos 7 ∷ minus 3 ∷ []

-- the whole plane
abbrev pub widest : List ℤ
widest = minus 2147483648 ∷ minus 2147483648 ∷ pos 0 ∷ pos 2147483647 ∷ pos 2147483647 ∷ pos 0 ∷ []

-- the range of zero words is the lowest corner twice
abbrev pub view_cases : List Case
view_cases =
    case (range_seen (view_of 2 (with_marker (lined small (pos 0 ∷ pos 0 ∷ pos 0 ∷ pos 0 ∷ []))) 0)) (1 ∷ signed_all small) ∷
    case (range_seen (view_of 2 (with_marker (lined widest (pos 0 ∷ pos 0 ∷ pos 0 ∷ pos 0 ∷ []))) 0)) (1 ∷ signed_all widest) ∷
    case (range_seen (view_of 2 (with_marker (line 0)) 0)) (1 ∷ 1 ∷ 2147483648 ∷ 1 ∷ 2147483648 ∷ 1 ∷ 2147483648 ∷ 1 ∷ 2147483648 ∷ 1 ∷ 2147483648 ∷ 1 ∷ 2147483648 ∷ []) ∷
    case (range_seen (view_of 2 (with_marker (raw 0)) 0)) (0 ∷ []) ∷
    []

---- what the writers take

-- the sixteen fields that a writer for C is handed: type, level, C, deleted, a range, and zeros
abbrev pub handed : ℤ → ℤ → ℤ → ℤ → List ℤ → List ℤ
handed kind level c deleted zs = kind ∷ level ∷ c ∷ deleted ∷ zs ++ replicate 6 (pos 0)

-- the number of the first fault of a line, and of a text without characters
abbrev pub write_faults : ℤ → ℤ → ℤ → List ℤ → List ℕ
write_faults level c deleted zs =
    elements.given_fault 2 (handed (pos 3) level c deleted zs) (replicate 4 (pos 0)) [] 52
    ∷ texts.given_fault 2 (handed (pos 17) level c deleted zs) (replicate 12 (pos 0)) [] [] [] 60
    ∷ []

-- a range with a low x and a high z, its other coordinates 0
abbrev pub corners : ℤ → ℤ → List ℤ
corners low high = low ∷ pos 0 ∷ pos 0 ∷ pos 0 ∷ pos 0 ∷ high ∷ []

abbrev pub range_faults : ℤ → ℤ → List ℕ
range_faults low high = write_faults (pos 0) (pos 0) (pos 0) (corners low high)

abbrev pub taken_cases : List Case
taken_cases =
    case (range_longs (fields_of (handed (pos 3) (pos 0) (pos 0) (pos 0) (corners (minus 5) (pos 3)))))
    (2147483643 ∷ 2147483648 ∷ 2147483648 ∷ 2147483648 ∷ 2147483648 ∷ 2147483651 ∷ []) ∷
    -- from the lowest to the highest; one past each: 1
    case (range_faults (minus 2147483648) (pos 2147483647)) (0 ∷ 0 ∷ []) ∷
    case (range_faults (minus 2147483649) (pos 2147483647)) (1 ∷ 1 ∷ []) ∷
    case (range_faults (minus 2147483648) (pos 2147483648)) (1 ∷ 1 ∷ []) ∷
    -- no other field may be negative: level, C, deleted
    case (write_faults (minus 1) (pos 0) (pos 0) (corners (pos 0) (pos 0))) (1 ∷ 1 ∷ []) ∷
    case (write_faults (pos 0) (minus 1) (pos 0) (corners (pos 0) (pos 0))) (1 ∷ 1 ∷ []) ∷
    case (write_faults (pos 0) (pos 0) (minus 1) (corners (pos 0) (pos 0))) (1 ∷ 1 ∷ []) ∷
    []

---- points in their range

-- 0 and 1 for yes, 0 for no; or the refusal's number and place
abbrev pub answer_numbers : Result Bool Refusal → List ℕ
answer_numbers (Ok true) = 0 ∷ 1 ∷ []
answer_numbers (Ok false) = 0 ∷ 0 ∷ []
answer_numbers (Err refusal) = refusal.number ∷ refusal.place ∷ []

abbrev pub asks : ℕ → List ℕ → List ℕ → Case
asks dim ws given = case (answer_numbers (in_range_of dim (with_marker ws) 0)) given

abbrev pub yes : List ℕ
yes = 0 ∷ 1 ∷ []

abbrev pub no : List ℕ
no = 0 ∷ 0 ∷ []

-- a line from one corner to another, by its x and y; each end of each axis, and one past it
abbrev pub between : ℤ → ℤ → ℤ → ℤ → List ℕ
between a b c d = lined small (a ∷ b ∷ c ∷ d ∷ [])

abbrev pub flat_cases : List Case
flat_cases =
    asks 2 (between (minus 5) (minus 7) (pos 5) (pos 7)) yes ∷
    asks 2 (between (minus 6) (minus 7) (pos 5) (pos 7)) no ∷
    asks 2 (between (minus 5) (minus 8) (pos 5) (pos 7)) no ∷
    asks 2 (between (minus 5) (minus 7) (pos 6) (pos 7)) no ∷
    asks 2 (between (minus 5) (minus 7) (pos 5) (pos 8)) no ∷
    -- the lowest and the highest coordinate
    asks 2 (lined widest (minus 2147483648 ∷ minus 2147483648 ∷ pos 2147483647 ∷ pos 2147483647 ∷ [])) yes ∷
    -- low above high holds nothing, not even what lies between
    asks 2 (lined (pos 1 ∷ minus 7 ∷ pos 0 ∷ minus 1 ∷ pos 7 ∷ pos 0 ∷ []) (pos 0 ∷ pos 0 ∷ pos 0 ∷ pos 0 ∷ [])) no ∷
    -- a range and points of zero words: the range is the lowest corner
    asks 2 (line 0) no ∷
    -- a deleted line is asked alike
    asks 2 (ranged (first_word 3 0 0 1) small (point_words (minus 5 ∷ minus 7 ∷ pos 5 ∷ pos 7 ∷ []))) yes ∷
    []

-- in 3D by z too
abbrev pub solid : ℤ → ℤ → List ℕ
solid low high = lined (pos 0 ∷ pos 0 ∷ minus 2 ∷ pos 0 ∷ pos 0 ∷ pos 2 ∷ []) (pos 0 ∷ pos 0 ∷ low ∷ pos 0 ∷ pos 0 ∷ high ∷ [])

abbrev pub solid_cases : List Case
solid_cases =
    asks 3 (solid (minus 2) (pos 2)) yes ∷
    asks 3 (solid (minus 3) (pos 2)) no ∷
    asks 3 (solid (minus 2) (pos 3)) no ∷
    []

-- each point of more than two: the first, the middle or the last outside; the types that are asked and others
abbrev pub three : ℕ → ℤ → ℤ → ℤ → List ℕ
three kind a b c = pointed kind small 3 (a ∷ pos 0 ∷ b ∷ pos 0 ∷ c ∷ pos 0 ∷ [])

abbrev pub many_cases : List Case
many_cases =
    asks 2 (three 4 (pos 5) (pos 0) (minus 5)) yes ∷
    asks 2 (three 4 (pos 6) (pos 0) (minus 5)) no ∷
    asks 2 (three 4 (pos 5) (pos 6) (minus 5)) no ∷
    asks 2 (three 4 (pos 5) (pos 0) (minus 6)) no ∷
    asks 2 (three 6 (pos 5) (pos 0) (minus 5)) yes ∷
    asks 2 (three 11 (pos 5) (pos 0) (minus 6)) no ∷
    asks 2 (three 21 (pos 5) (pos 0) (minus 5)) (6 ∷ 0 ∷ []) ∷
    asks 2 (text 0) (6 ∷ 0 ∷ []) ∷
    asks 2 (raw 0) (6 ∷ 0 ∷ []) ∷
    -- 6 is at the element's place, after 13 and after the file's own
    case (answer_numbers (in_range_of 2 (with_marker (line 0 ++ raw 0)) 26)) (6 ∷ 26 ∷ []) ∷
    case (answer_numbers (in_range_of 2 (with_marker (line 0 ++ raw 0)) 25)) (13 ∷ 0 ∷ []) ∷
    case (answer_numbers (in_range_of 2 (bytes (raw 0)) 0)) (2 ∷ 2 ∷ []) ∷
    case (answer_numbers (in_range_of 4 (with_marker (raw 0)) 0)) (1 ∷ 0 ∷ []) ∷
    []

abbrev pub range_cases : List Case
range_cases = coordinate_cases ++ view_cases ++ taken_cases ++ flat_cases ++ solid_cases ++ many_cases
