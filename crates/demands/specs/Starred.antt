-- The worked cases that RULES.md marks with *, its table of fixed parts, its rules of what may stand where and of
-- bits 6 and 7, cases of its depths, totals, counts, stored names, attribute parts and texts, of its orders of checks, of
-- sessions, of an index, of deleted cells, of floats, of ellipses and arcs and of ranges, as one list. That all hold is one statement of the
-- page of demands.
use Rattle.std.specs.Prelude.{ℕ, zero, suc, ◌+◌, ◌*◌, List, [], ◌∷◌, ◌++◌, Bool, true, ◌&&◌, replicate, Err, None, Ok, Option, Result, Some}
use Rattle.refusals.specs.declared.Refusal.{Refusal}
use Rattle.words.specs.Words.{words, bytes, long_at, signed}
use Rattle.names.specs.Names.{word_of, packed, packed_numbers, unpacked, unpacked_numbers}
use Rattle.names.specs.declared.Name.{Name}
use Rattle.names.specs.declared.Unpacked.{Unpacked}
use Rattle.names.specs.declared.NoText.{NoText}
use Rattle.kinds.specs.FirstWord.{bit}
use Rattle.kinds.specs.Kinds.{fixed_part, may_stand}
use Rattle.limits.specs.Limits.{size_ok, used_ok}
use Rattle.headers.specs.Checks.{first_fault}
use Rattle.elements.specs.Rules.{extent_ok, content_checks}
use Rattle.files.specs.Judge.{judge_of, judged_numbers}
use Rattle.points_linkages.specs.Points.{point_of}
use Rattle.points_linkages.specs.declared.Point.TheVariants as point
use Rattle.points_linkages.specs.declared.Point.{Point}
use Rattle.text_views.specs.TextViews.{text_of, characters_of, field_of}
use Rattle.text_views.specs.declared.Origin.{Origin}
use Rattle.text_views.specs.declared.Origin.TheVariants as origin
use Rattle.text_views.specs.declared.Characters.{Characters}
use Rattle.text_views.specs.declared.Field.{Field}
use Rattle.text_views.specs.declared.Text.{Text}
use Rattle.demands.specs.Cases.{Case, case, holds}
use Rattle.demands.specs.Shown.{signed_numbers, signed_all, with_marker, judged2_d, judged3_d, fixed_parts, turn_shown}
use Rattle.demands.specs.Elements.{first_word, live, plain, attributed, raw, line, dead_line, text, texted, flat_text, solid_text, cell, named_cell, library_cell, chain, counting, in_cells, text00417, text417}
use Rattle.demands.specs.SessionCases.{session_cases}
use Rattle.demands.specs.BlockCases.{block_cases}
use Rattle.demands.specs.IndexCases.{index_cases}
use Rattle.demands.specs.FindCases.{deleted_cases}
use Rattle.demands.specs.CurveCases.{curve_cases}
use Rattle.demands.specs.RangeCases.{range_cases}
use Rattle.demands.specs.PlateCases.{plate_cases}

-- whether each case of a list holds
abbrev pub all_hold : List Case → Bool
all_hold [] = true
all_hold (c ∷ rest) = holds c && all_hold rest

-- 01 00 02 00 is 65538, FF FF FE FF is -2 when signed
abbrev pub long_cases : List Case
long_cases =
    case (long_at (words (1 ∷ 0 ∷ 2 ∷ 0 ∷ [])) 0 ∷ []) (65538 ∷ []) ∷
    case (signed_numbers (signed (long_at (words (255 ∷ 255 ∷ 254 ∷ 255 ∷ [])) 0))) (1 ∷ 2 ∷ []) ∷
    []

-- 00417 is 49234, 51080; 417 is 55677, 0; word 64000: 12
-- n numbers from one on, numbers times another, and the first words of texts of one letter
abbrev pub from : ℕ → ℕ → List ℕ
from zero k = []
from (suc n) k = k ∷ from n (k + 1)

abbrev pub times : ℕ → List ℕ → List ℕ
times m [] = []
times m (k ∷ ks) = m * k ∷ times m ks

abbrev pub firstWord? : Result Name Refusal → ℕ
firstWord? (Ok name) = name.first
firstWord? (Err refusal) = 65536

abbrev pub first_words : List ℕ → List ℕ
first_words [] = []
first_words (c ∷ cs) = firstWord? (packed (c ∷ [])) ∷ first_words cs

-- the numbers of an answer of unpacking, and of a text its letters behind them
abbrev pub unpacked_shown : Result Unpacked NoText → List ℕ
unpacked_shown (Ok t) = unpacked_numbers (Ok t) ++ t.letters
unpacked_shown (Err none) = unpacked_numbers (Err none)

abbrev pub name_cases : List Case
name_cases =
    case (packed_numbers (packed text00417)) (0 ∷ 49234 ∷ 51080 ∷ []) ∷
    case (packed_numbers (packed text417)) (0 ∷ 55677 ∷ 0 ∷ []) ∷
    case (unpacked_shown (unpacked 49234 51080)) (0 ∷ 5 ∷ text00417 ++ (0 ∷ [])) ∷
    case (unpacked_shown (unpacked 55677 0)) (0 ∷ 3 ∷ text417 ++ (0 ∷ 0 ∷ 0 ∷ [])) ∷
    case (unpacked_shown (unpacked 63999 63999)) (0 ∷ 6 ∷ 57 ∷ 57 ∷ 57 ∷ 57 ∷ 57 ∷ 57 ∷ []) ∷
    -- each letter of the set packs to its code: a space before A, then A-Z, $, . and 0-9
    case (packed_numbers (packed (32 ∷ 65 ∷ []))) (0 ∷ 40 ∷ 0 ∷ []) ∷
    case (first_words (from 26 65)) (times 1600 (from 26 1)) ∷
    case (first_words (36 ∷ 46 ∷ [])) (times 1600 (27 ∷ 28 ∷ [])) ∷
    case (first_words (from 10 48)) (times 1600 (from 10 30)) ∷
    -- a space inside a name stays
    case (unpacked_shown (unpacked 1601 0)) (0 ∷ 3 ∷ 65 ∷ 32 ∷ 65 ∷ 0 ∷ 0 ∷ 0 ∷ []) ∷
    case (unpacked_shown (unpacked 64000 0)) (12 ∷ 0 ∷ []) ∷
    case (unpacked_shown (unpacked 0 64000)) (12 ∷ 0 ∷ []) ∷
    []

-- the 2D cell of 46 words with total T and one 26-word line
abbrev pub cell_with_line : ℕ → List ℕ
cell_with_line total = cell 0 total ++ line 1

-- empty file: 2 at 0; only FF FF: accepted, 0 elements; one byte: 1
abbrev pub file_cases : List Case
file_cases =
    case (judged_numbers (judge_of 2 [])) (2 ∷ 0 ∷ []) ∷
    case (judged_numbers (judge_of 2 (255 ∷ 255 ∷ []))) (0 ∷ 0 ∷ 0 ∷ 0 ∷ []) ∷
    case (judged_numbers (judge_of 2 (0 ∷ []))) (1 ∷ 0 ∷ []) ∷
    []

-- 2D line of 26 words: accepted; of 25: 7
abbrev pub line_cases : List Case
line_cases =
    case (judged2_d (line 0)) (0 ∷ 1 ∷ 0 ∷ 26 ∷ []) ∷
    case (judged2_d (plain 3 0 25 [])) (7 ∷ 0 ∷ []) ∷
    []

-- 2D type 4 with N=2 needs 27 words; N=1 and N=102: 7; N=101 needs 423
abbrev pub point_cases : List Case
point_cases =
    case (judged2_d (plain 4 0 27 (2 ∷ []))) (0 ∷ 1 ∷ 0 ∷ 27 ∷ []) ∷
    case (judged2_d (plain 4 0 26 (2 ∷ []))) (7 ∷ 0 ∷ []) ∷
    case (judged2_d (plain 4 0 27 (1 ∷ []))) (7 ∷ 0 ∷ []) ∷
    case (judged2_d (plain 4 0 427 (102 ∷ []))) (7 ∷ 0 ∷ []) ∷
    case (judged2_d (plain 4 0 423 (101 ∷ []))) (0 ∷ 1 ∷ 0 ∷ 423 ∷ []) ∷
    case (judged2_d (plain 4 0 422 (101 ∷ []))) (7 ∷ 0 ∷ []) ∷
    []

-- 2D cell of 46 words with one 26-word line: T=53 accepted; 52: 3 at the line; 54: 3 at the marker's word
abbrev pub cell_cases : List Case
cell_cases =
    case (judged2_d (cell_with_line 53)) (0 ∷ 2 ∷ 1 ∷ 72 ∷ []) ∷
    case (judged2_d (cell_with_line 52)) (3 ∷ 46 ∷ []) ∷
    case (judged2_d (cell_with_line 54)) (3 ∷ 72 ∷ []) ∷
    []

-- the table of fixed parts: 1, 2, 3; 4, 6, 11, 21 with N=2 and N=101; 7, 12, 14; 17 with no characters
-- and fields, with one of each and with 255 of each; 18 and 19, in a 2D file refused, 6
abbrev pub table_cases : List Case
table_cases =
    case (fixed_parts 1 0) (35 ∷ 35 ∷ []) ∷
    case (fixed_parts 2 0) (46 ∷ 62 ∷ []) ∷
    case (fixed_parts 3 0) (26 ∷ 30 ∷ []) ∷
    case (fixed_parts 4 2) (27 ∷ 31 ∷ []) ∷
    case (fixed_parts 4 101) (423 ∷ 625 ∷ []) ∷
    case (fixed_parts 6 2) (27 ∷ 31 ∷ []) ∷
    case (fixed_parts 6 101) (423 ∷ 625 ∷ []) ∷
    case (fixed_parts 11 2) (27 ∷ 31 ∷ []) ∷
    case (fixed_parts 11 101) (423 ∷ 625 ∷ []) ∷
    case (fixed_parts 21 2) (27 ∷ 31 ∷ []) ∷
    case (fixed_parts 21 101) (423 ∷ 625 ∷ []) ∷
    case (fixed_parts 7 0) (35 ∷ 43 ∷ []) ∷
    case (fixed_parts 12 0) (20 ∷ 20 ∷ []) ∷
    case (fixed_parts 14 0) (20 ∷ 20 ∷ []) ∷
    case (fixed_parts 17 0) (30 ∷ 38 ∷ []) ∷
    case (fixed_parts 17 257) (32 ∷ 40 ∷ []) ∷
    case (fixed_parts 17 65535) (540 ∷ 548 ∷ []) ∷
    case (fixed_part 3 18 0 ∷ judged2_d (plain 18 0 21 (2 ∷ []))) (21 ∷ 6 ∷ 0 ∷ []) ∷
    case (fixed_part 3 19 0 ∷ judged2_d (plain 19 0 21 (2 ∷ []))) (21 ∷ 6 ∷ 0 ∷ []) ∷
    []

-- which of the types 1, 2, 3, 7, 12, 17, 19 and 25 may stand in a 3D file under a header of a type (0: at the top), 1 for each
abbrev pub standing : ℕ → ℕ → ℕ
standing under kind = bit (may_stand 3 under kind)

abbrev pub standing_under : ℕ → List ℕ
standing_under under =
    standing under 1
    ∷ standing under 2
    ∷ standing under 3
    ∷ standing under 7
    ∷ standing under 12
    ∷ standing under 17
    ∷ standing under 19
    ∷ standing under 25
    ∷ []

-- type 1 stands only at the top; under 7 only 17; under 12, 14, 18 and 19 no header; 24, 27 and 87 nowhere; 18 and 19 in 3D;
-- bits 6 and 7 of word 0 are not judged in type 9, in others 4 and 5
abbrev pub place_cases : List Case
place_cases =
    case (standing_under 0) (1 ∷ 1 ∷ 1 ∷ 1 ∷ 1 ∷ 1 ∷ 1 ∷ 1 ∷ []) ∷
    case (standing_under 1) (0 ∷ 1 ∷ 1 ∷ 1 ∷ 1 ∷ 1 ∷ 1 ∷ 1 ∷ []) ∷
    case (standing_under 2) (0 ∷ 1 ∷ 1 ∷ 1 ∷ 1 ∷ 1 ∷ 1 ∷ 1 ∷ []) ∷
    case (standing_under 7) (0 ∷ 0 ∷ 0 ∷ 0 ∷ 0 ∷ 1 ∷ 0 ∷ 0 ∷ []) ∷
    case (standing_under 12) (0 ∷ 0 ∷ 1 ∷ 0 ∷ 0 ∷ 1 ∷ 0 ∷ 1 ∷ []) ∷
    case (standing_under 14) (0 ∷ 0 ∷ 1 ∷ 0 ∷ 0 ∷ 1 ∷ 0 ∷ 1 ∷ []) ∷
    case (standing_under 18) (0 ∷ 0 ∷ 1 ∷ 0 ∷ 0 ∷ 1 ∷ 0 ∷ 1 ∷ []) ∷
    case (standing_under 19) (0 ∷ 0 ∷ 1 ∷ 0 ∷ 0 ∷ 1 ∷ 0 ∷ 1 ∷ []) ∷
    case (standing 0 24 ∷ standing 0 27 ∷ standing 0 87 ∷ []) (0 ∷ 0 ∷ 0 ∷ []) ∷
    case (judged3_d (plain 18 0 21 (2 ∷ []))) (0 ∷ 1 ∷ 0 ∷ 21 ∷ []) ∷
    case (judged2_d (first_word 9 1 1 0 ∷ 0 ∷ [])) (0 ∷ 1 ∷ 0 ∷ 2 ∷ []) ∷
    case (judged2_d (first_word 5 0 1 0 ∷ 0 ∷ [])) (4 ∷ 0 ∷ []) ∷
    case (judged2_d (first_word 5 1 0 0 ∷ 0 ∷ [])) (5 ∷ 0 ∷ []) ∷
    []

-- a 2D line with A set, its attribute part from word 16 + index on and four words behind its fixed part
abbrev pub linked : ℕ → ℕ → List ℕ
linked index first = attributed 3 30 index (0 ∷ 0 ∷ 0 ∷ 0 ∷ 0 ∷ 0 ∷ 0 ∷ 0 ∷ first ∷ [])

-- a count in word 19 that differs from the direct components: 9; a stored name with a word above 63999, in words 16-17 of
-- type 1 and 19-20 of type 2: 12; an attribute part that linkages fill, else 11, and 11 where it begins in the fixed part
abbrev pub rule_cases : List Case
rule_cases =
    case (judged2_d (chain 0 27 1 ++ line 1)) (0 ∷ 2 ∷ 1 ∷ 46 ∷ []) ∷
    case (judged2_d (chain 0 27 0 ++ line 1)) (9 ∷ 0 ∷ []) ∷
    case (judged2_d (library_cell 49234 51080)) (0 ∷ 1 ∷ 0 ∷ 35 ∷ []) ∷
    case (judged2_d (library_cell 64000 0)) (12 ∷ 0 ∷ []) ∷
    case (judged2_d (library_cell 0 64000)) (12 ∷ 0 ∷ []) ∷
    case (judged2_d (named_cell 27 55677 0)) (0 ∷ 1 ∷ 0 ∷ 46 ∷ []) ∷
    case (judged2_d (named_cell 27 64000 0)) (12 ∷ 0 ∷ []) ∷
    case (judged2_d (named_cell 27 0 64000)) (12 ∷ 0 ∷ []) ∷
    case (judged2_d (linked 10 0)) (0 ∷ 1 ∷ 0 ∷ 30 ∷ []) ∷
    case (judged2_d (linked 10 32768)) (0 ∷ 1 ∷ 0 ∷ 30 ∷ []) ∷
    case (judged2_d (linked 10 4099)) (0 ∷ 1 ∷ 0 ∷ 30 ∷ []) ∷
    case (judged2_d (linked 10 4096)) (11 ∷ 0 ∷ []) ∷
    case (judged2_d (linked 10 1)) (11 ∷ 0 ∷ []) ∷
    case (judged2_d (linked 9 0)) (11 ∷ 0 ∷ []) ∷
    []

-- lengths in bytes: of a file or buffer, with a used length, and of a used length in its buffer
abbrev pub length_cases : List Case
length_cases =
    -- 1,048,576 may be lent, 1,048,578 and an odd number not
    case (bit (size_ok 1048576) ∷ bit (size_ok 1048578) ∷ bit (size_ok 1048575) ∷ []) (1 ∷ 0 ∷ 0 ∷ []) ∷
    -- the same of a buffer with a used length
    case (bit (used_ok 1048576 1048576) ∷ bit (used_ok 1048578 2) ∷ bit (used_ok 1048575 2) ∷ []) (1 ∷ 0 ∷ 0 ∷ []) ∷
    -- a used length is not beyond its buffer, and even
    case (bit (used_ok 8 8) ∷ bit (used_ok 8 10) ∷ bit (used_ok 8 7) ∷ []) (1 ∷ 0 ∷ 0 ∷ []) ∷
    []

-- code 29 in a stored name: 12
abbrev pub code_cases : List Case
code_cases =
    -- as each letter of the first word
    case (judged2_d (named_cell 27 (word_of 29 1 1) 0)) (12 ∷ 0 ∷ []) ∷
    case (judged2_d (named_cell 27 (word_of 1 29 1) 0)) (12 ∷ 0 ∷ []) ∷
    case (judged2_d (named_cell 27 (word_of 1 1 29) 0)) (12 ∷ 0 ∷ []) ∷
    -- as each letter of the second word
    case (judged2_d (named_cell 27 0 (word_of 29 1 1))) (12 ∷ 0 ∷ []) ∷
    case (judged2_d (named_cell 27 0 (word_of 1 29 1))) (12 ∷ 0 ∷ []) ∷
    case (judged2_d (named_cell 27 0 (word_of 1 1 29))) (12 ∷ 0 ∷ []) ∷
    -- the codes beside it are letters
    case (judged2_d (named_cell 27 (word_of 28 30 28) (word_of 30 28 30))) (0 ∷ 1 ∷ 0 ∷ 46 ∷ []) ∷
    []

-- depths
abbrev pub depth_cases : List Case
depth_cases =
    -- depth 8 is the deepest allowed
    case (judged2_d (in_cells 8 (raw 1))) (0 ∷ 9 ∷ 8 ∷ 370 ∷ []) ∷
    -- depth 9: 10, at the element
    case (judged2_d (in_cells 9 (raw 1))) (10 ∷ 414 ∷ []) ∷
    []

-- totals
abbrev pub total_cases : List Case
total_cases =
    -- T = 65,517: 8
    case (judged2_d (cell 0 65517)) (8 ∷ 0 ∷ []) ∷
    -- with 65,536 words left, 65,516 is the greatest total
    case (bit (extent_ok (cell 0 65516) 0 65536) ∷ bit (extent_ok (cell 0 65517) 0 65536) ∷ []) (1 ∷ 0 ∷ []) ∷
    -- an extent that ends before its header does: 8
    case (judged2_d (cell 0 26)) (8 ∷ 0 ∷ []) ∷
    []

-- counts
abbrev pub count_cases : List Case
count_cases =
    -- a deleted component counts in the total and in the count
    case (judged2_d (chain 0 53 2 ++ line 1 ++ dead_line 1)) (0 ∷ 3 ∷ 1 ∷ 72 ∷ []) ∷
    -- left out of the count: 9
    case (judged2_d (chain 0 53 1 ++ line 1 ++ dead_line 1)) (9 ∷ 0 ∷ []) ∷
    -- left out of the total it stands at the top, where C is wrong
    case (judged2_d (chain 0 27 1 ++ line 1 ++ dead_line 1)) (5 ∷ 46 ∷ []) ∷
    -- the count of a text node, and one that differs
    case (judged2_d (counting 7 35 2 (text 1 ++ text 1))) (0 ∷ 3 ∷ 1 ∷ 95 ∷ []) ∷
    case (judged2_d (counting 7 35 1 (text 1 ++ text 1))) (9 ∷ 0 ∷ []) ∷
    -- of a shape
    case (judged2_d (counting 14 20 1 (line 1))) (0 ∷ 2 ∷ 1 ∷ 46 ∷ []) ∷
    case (judged2_d (counting 14 20 2 (line 1))) (9 ∷ 0 ∷ []) ∷
    -- of a surface
    case (judged3_d (counting 18 21 1 (raw 1))) (0 ∷ 2 ∷ 1 ∷ 23 ∷ []) ∷
    case (judged3_d (counting 18 21 0 (raw 1))) (9 ∷ 0 ∷ []) ∷
    -- of a solid
    case (judged3_d (counting 19 21 1 (raw 1))) (0 ∷ 2 ∷ 1 ∷ 23 ∷ []) ∷
    case (judged3_d (counting 19 21 0 (raw 1))) (9 ∷ 0 ∷ []) ∷
    -- no components at all is allowed, and counted
    case (judged2_d (counting 12 20 0 [])) (0 ∷ 1 ∷ 0 ∷ 20 ∷ []) ∷
    case (judged2_d (counting 12 20 1 [])) (9 ∷ 0 ∷ []) ∷
    []

-- attribute parts
abbrev pub attribute_cases : List Case
attribute_cases =
    -- one that begins at the element's end is empty
    case (judged2_d (linked 14 0)) (0 ∷ 1 ∷ 0 ∷ 30 ∷ []) ∷
    -- past the end: 11
    case (judged2_d (linked 15 0)) (11 ∷ 0 ∷ []) ∷
    -- an empty one on a cell, and one that begins in its fixed part: 11, at the header
    case (judged2_d (line 0 ++ attributed 2 46 30 (27 ∷ []))) (0 ∷ 2 ∷ 0 ∷ 72 ∷ []) ∷
    case (judged2_d (line 0 ++ attributed 2 46 29 (27 ∷ []))) (11 ∷ 26 ∷ []) ∷
    -- past the end of a chain's own words
    case (judged2_d (line 0 ++ attributed 12 20 5 (1 ∷ []))) (11 ∷ 26 ∷ []) ∷
    []

-- a text of three characters, in 2D, and one field of them
abbrev pub with_field : ℕ → ℕ → ℕ → List ℕ
with_field first size justification = judged2_d (flat_text 33 3 1 (65 ∷ 66 ∷ 67 ∷ first ∷ size ∷ justification ∷ []))

-- texts: the counts size the fixed part, and a field begins at a character, ends by the last and is justified -1, 0 or 1
abbrev pub text_cases : List Case
text_cases =
    -- an empty text, and one word fewer: 7; in 3D
    case (judged2_d (text 0)) (0 ∷ 1 ∷ 0 ∷ 30 ∷ []) ∷
    case (judged2_d (plain 17 0 29 [])) (7 ∷ 0 ∷ []) ∷
    case (judged3_d (plain 17 0 38 [])) (0 ∷ 1 ∷ 0 ∷ 38 ∷ []) ∷
    case (judged3_d (plain 17 0 37 [])) (7 ∷ 0 ∷ []) ∷
    -- a character and a field fill two words together, not one and two
    case (judged2_d (flat_text 32 1 1 (65 ∷ 1 ∷ 1 ∷ 0 ∷ []))) (0 ∷ 1 ∷ 0 ∷ 32 ∷ []) ∷
    case (judged2_d (flat_text 31 1 1 (65 ∷ 1 ∷ 1 ∷ 0 ∷ []))) (7 ∷ 0 ∷ []) ∷
    case (judged3_d (solid_text 40 1 1 (65 ∷ 1 ∷ 1 ∷ 0 ∷ []))) (0 ∷ 1 ∷ 0 ∷ 40 ∷ []) ∷
    case (judged3_d (solid_text 39 1 1 (65 ∷ 1 ∷ 1 ∷ 0 ∷ []))) (7 ∷ 0 ∷ []) ∷
    -- an odd last byte takes a word
    case (judged2_d (flat_text 31 1 0 (65 ∷ []))) (0 ∷ 1 ∷ 0 ∷ 31 ∷ []) ∷
    case (judged2_d (flat_text 30 1 0 (65 ∷ []))) (7 ∷ 0 ∷ []) ∷
    -- a field that ends at the last character, and one past it
    case (with_field 2 2 0) (0 ∷ 1 ∷ 0 ∷ 33 ∷ []) ∷
    case (with_field 2 3 0) (20 ∷ 0 ∷ []) ∷
    -- of length 0: it begins at a character all the same
    case (with_field 3 0 0) (0 ∷ 1 ∷ 0 ∷ 33 ∷ []) ∷
    case (with_field 4 0 0) (20 ∷ 0 ∷ []) ∷
    case (with_field 0 1 0) (20 ∷ 0 ∷ []) ∷
    -- a text without characters has no place for a field
    case (judged2_d (flat_text 32 0 1 (0 ∷ 0 ∷ 0 ∷ []))) (20 ∷ 0 ∷ []) ∷
    case (judged2_d (flat_text 32 0 1 (1 ∷ 0 ∷ 0 ∷ []))) (20 ∷ 0 ∷ []) ∷
    -- justifications
    case (with_field 1 3 255) (0 ∷ 1 ∷ 0 ∷ 33 ∷ []) ∷
    case (with_field 1 3 1) (0 ∷ 1 ∷ 0 ∷ 33 ∷ []) ∷
    case (with_field 1 3 2) (20 ∷ 0 ∷ []) ∷
    case (with_field 1 3 254) (20 ∷ 0 ∷ []) ∷
    -- 255 + 255 is 510
    case (judged2_d (flat_text 159 255 1 (replicate 255 65 ++ (255 ∷ 1 ∷ 0 ∷ [])))) (0 ∷ 1 ∷ 0 ∷ 159 ∷ []) ∷
    case (judged2_d (flat_text 159 255 1 (replicate 255 65 ++ (255 ∷ 255 ∷ 0 ∷ [])))) (20 ∷ 0 ∷ []) ∷
    -- the second of two fields, behind an odd number of characters; fields may overlap
    case (judged2_d (flat_text 34 1 2 (65 ∷ 1 ∷ 1 ∷ 0 ∷ 1 ∷ 1 ∷ 255 ∷ []))) (0 ∷ 1 ∷ 0 ∷ 34 ∷ []) ∷
    case (judged2_d (flat_text 34 1 2 (65 ∷ 1 ∷ 1 ∷ 0 ∷ 2 ∷ 1 ∷ 255 ∷ []))) (20 ∷ 0 ∷ []) ∷
    -- an attribute part that begins where the characters and fields end, and one in their words: 11
    case (judged2_d (attributed 17 32 16 (texted 11 1 1 (65 ∷ 1 ∷ 1 ∷ 0 ∷ [])))) (0 ∷ 1 ∷ 0 ∷ 32 ∷ []) ∷
    case (judged2_d (attributed 17 32 15 (texted 11 1 1 (65 ∷ 1 ∷ 1 ∷ 0 ∷ [])))) (11 ∷ 0 ∷ []) ∷
    -- in a text node 20 stands at the text
    case (judged2_d (counting 7 35 2 (text 1 ++ plain 17 1 32 (texted 11 1 1 (65 ∷ 1 ∷ 1 ∷ 0 ∷ []))))) (0 ∷ 3 ∷ 1 ∷ 97 ∷ []) ∷
    case (judged2_d (counting 7 35 2 (text 1 ++ plain 17 1 32 (texted 11 1 1 (65 ∷ 2 ∷ 1 ∷ 0 ∷ []))))) (20 ∷ 65 ∷ []) ∷
    []

-- what a 2D text of one character, one field and, by its word 1, 65,536 words is refused with
abbrev pub large_text : List ℕ → List ℕ
large_text given = first_fault (content_checks 2 (live 17 0 ∷ 65534 ∷ replicate 16 0 ++ texted 11 1 1 given) 0 65536) ∷ []

-- the order of checks of one element: 3, 4, 5, 10, 6, 7, 20, 8, 11, 21, 12, its components, 9; each case has two faults
-- (those of 21 are among the cases of ellipses and arcs)
abbrev pub order_cases : List Case
order_cases =
    -- cut, and bit 6 set
    case (judged2_d (first_word 5 0 1 0 ∷ 2 ∷ [])) (3 ∷ 0 ∷ []) ∷
    -- bit 6 set, and C set at the top
    case (judged2_d (first_word 5 1 1 0 ∷ 0 ∷ [])) (4 ∷ 0 ∷ []) ∷
    -- C clear in a component, and depth 9
    case (judged2_d (in_cells 9 (raw 0))) (5 ∷ 414 ∷ []) ∷
    -- depth 9, and a type that is not read
    case (judged2_d (in_cells 9 (live 24 1 ∷ 0 ∷ []))) (10 ∷ 414 ∷ []) ∷
    -- a surface in a 2D file, and shorter than its fixed part
    case (judged2_d (plain 18 0 20 [])) (6 ∷ 0 ∷ []) ∷
    -- a cell shorter than its fixed part, and its total too large
    case (judged2_d (plain 2 0 45 (65517 ∷ []))) (7 ∷ 0 ∷ []) ∷
    -- a text shorter than its fixed part, and a field outside the characters
    case (judged2_d (flat_text 31 1 1 (65 ∷ 2 ∷ 0 ∷ 0 ∷ []))) (7 ∷ 0 ∷ []) ∷
    -- a field outside the characters, and 65,536 words; the size alone
    case (large_text (65 ∷ 2 ∷ 0 ∷ 0 ∷ []) ++ large_text (65 ∷ 1 ∷ 1 ∷ 0 ∷ [])) (20 ∷ 8 ∷ []) ∷
    -- a field outside the characters, and an attribute part in the fixed part; the attribute part alone
    case (judged2_d (attributed 17 32 0 (texted 11 1 1 (65 ∷ 2 ∷ 0 ∷ 0 ∷ [])))) (20 ∷ 0 ∷ []) ∷
    case (judged2_d (attributed 17 32 0 (texted 11 1 1 (65 ∷ 1 ∷ 0 ∷ 0 ∷ [])))) (11 ∷ 0 ∷ []) ∷
    -- a total too large, and an attribute part in the fixed part
    case (judged2_d (attributed 2 46 0 (65517 ∷ []))) (8 ∷ 0 ∷ []) ∷
    -- an attribute part in the fixed part, and a word above 63999 in the name
    case (judged2_d (attributed 2 46 0 (27 ∷ 64000 ∷ []))) (11 ∷ 0 ∷ []) ∷
    -- a word above 63999 in the name, and a component with C clear
    case (judged2_d (named_cell 29 64000 0 ++ raw 0)) (12 ∷ 0 ∷ []) ∷
    -- a component with C clear, and a count that differs
    case (judged2_d (chain 0 3 0 ++ raw 0)) (5 ∷ 20 ∷ []) ∷
    []

-- point k of the element at the top of a file: the number of the answer, then each coordinate as two numbers
abbrev pub point_shown : Result Point Refusal → List ℕ
point_shown (Ok (point.Flat x y)) = 0 ∷ signed_all (x ∷ y ∷ [])
point_shown (Ok (point.Solid x y z)) = 0 ∷ signed_all (x ∷ y ∷ z ∷ [])
point_shown (Err refusal) = refusal.number ∷ refusal.place ∷ []

abbrev pub point_numbers : ℕ → List ℕ → ℕ → List ℕ
point_numbers dim ws k = point_shown (point_of dim (bytes (ws ++ (65535 ∷ []))) 0 k)

-- point 1 of a type with N points, in 2D (65538, -2) and in 3D (65538, -2, 7), and 13 for a point that is not there or another type
abbrev pub flat_points : ℕ → List ℕ
flat_points kind = plain kind 0 27 (2 ∷ 0 ∷ 0 ∷ 0 ∷ 0 ∷ 1 ∷ 2 ∷ 65535 ∷ 65534 ∷ [])

abbrev pub solid_points : ℕ → List ℕ
solid_points kind = plain kind 0 31 (2 ∷ 0 ∷ 0 ∷ 0 ∷ 0 ∷ 0 ∷ 0 ∷ 1 ∷ 2 ∷ 65535 ∷ 65534 ∷ 0 ∷ 7 ∷ [])

abbrev pub given_cases : List Case
given_cases =
    case (point_numbers 2 (flat_points 4) 1) (0 ∷ 0 ∷ 65538 ∷ 1 ∷ 2 ∷ []) ∷
    case (point_numbers 2 (flat_points 6) 1) (0 ∷ 0 ∷ 65538 ∷ 1 ∷ 2 ∷ []) ∷
    case (point_numbers 2 (flat_points 11) 1) (0 ∷ 0 ∷ 65538 ∷ 1 ∷ 2 ∷ []) ∷
    case (point_numbers 2 (flat_points 21) 1) (0 ∷ 0 ∷ 65538 ∷ 1 ∷ 2 ∷ []) ∷
    case (point_numbers 3 (solid_points 21) 1) (0 ∷ 0 ∷ 65538 ∷ 1 ∷ 2 ∷ 0 ∷ 7 ∷ []) ∷
    case (point_numbers 2 (plain 3 0 26 (0 ∷ 0 ∷ 0 ∷ 0 ∷ 1 ∷ 2 ∷ 65535 ∷ 65534 ∷ [])) 1) (0 ∷ 0 ∷ 65538 ∷ 1 ∷ 2 ∷ []) ∷
    case (point_numbers 2 (flat_points 21) 2) (13 ∷ 0 ∷ []) ∷
    case (point_numbers 2 (line 0) 2) (13 ∷ 0 ∷ []) ∷
    case (point_numbers 2 (text 0) 0) (13 ∷ 0 ∷ []) ∷
    []

-- what the calls for a text, its characters and a field give, of the element at the front of a file: 0 and the numbers, signed ones as
-- for points, the odd byte behind a 1; or the refusal
abbrev pub origin_shown : Origin → List ℕ
origin_shown (origin.Flat x y) = signed_all (x ∷ y ∷ [])
origin_shown (origin.Solid x y z) = signed_all (x ∷ y ∷ z ∷ [])

abbrev pub odd_shown : Option ℕ → List ℕ
odd_shown None = 0 ∷ []
odd_shown (Some value) = 1 ∷ value ∷ []

abbrev pub text_shown : Result Text Refusal → List ℕ
text_shown (Ok t) =
    0 ∷ t.font ∷ t.justification ∷ t.length ∷ t.height
    ∷ (turn_shown t.turn ++ (origin_shown t.origin ++ (t.characters ∷ t.fields ∷ odd_shown t.odd)))
text_shown (Err refusal) = refusal.number ∷ refusal.place ∷ []

abbrev pub characters_shown : Result Characters Refusal → List ℕ
characters_shown (Ok part) = 0 ∷ part.start ∷ part.length ∷ []
characters_shown (Err refusal) = refusal.number ∷ refusal.place ∷ []

abbrev pub field_shown : Result Field Refusal → List ℕ
field_shown (Ok field) = 0 ∷ field.first ∷ field.length ∷ signed_all (field.justification ∷ [])
field_shown (Err refusal) = refusal.number ∷ refusal.place ∷ []

-- `SEAL 7`, a field of its last two characters with justification -1, and an odd byte 42, in 2D and in 3D, every number another
abbrev pub seal_bytes : List ℕ
seal_bytes = 83 ∷ 69 ∷ 65 ∷ 76 ∷ 32 ∷ 55 ∷ 5 ∷ 2 ∷ 255 ∷ 42 ∷ []

abbrev pub flat_seal : List ℕ
flat_seal = plain 17 0 35 (1795 ∷ 0 ∷ 1000 ∷ 65535 ∷ 1 ∷ 1 ∷ 2 ∷ 65535 ∷ 65534 ∷ 0 ∷ 5 ∷ 262 ∷ words seal_bytes)

abbrev pub solid_seal : List ℕ
solid_seal =
    plain 17 0 43
    (1795 ∷ 0 ∷ 1000 ∷ 65535 ∷ 1 ∷ 1 ∷ 2 ∷ 0 ∷ 11 ∷ 0 ∷ 12 ∷ 65535 ∷ 13 ∷ 65535 ∷ 65534 ∷ 0 ∷ 5 ∷ 65535 ∷ 65529 ∷ 262 ∷ words seal_bytes)

abbrev pub read_cases : List Case
read_cases =
    case (text_shown (text_of 2 (with_marker flat_seal) 0)) (0 ∷ 3 ∷ 7 ∷ 1000 ∷ 4294901761 ∷ 65538 ∷ 1 ∷ 2 ∷ 0 ∷ 5 ∷ 6 ∷ 1 ∷ 1 ∷ 42 ∷ []) ∷
    case (text_shown (text_of 3 (with_marker solid_seal) 0))
    (0 ∷ 3 ∷ 7 ∷ 1000 ∷ 4294901761 ∷ 65538 ∷ 11 ∷ 12 ∷ 4294901773 ∷ 1 ∷ 2 ∷ 0 ∷ 5 ∷ 1 ∷ 7 ∷ 6 ∷ 1 ∷ 1 ∷ 42 ∷ []) ∷
    case (text_shown (text_of 2 (with_marker (text 0)) 0)) (0 ∷ 0 ∷ 0 ∷ 0 ∷ 0 ∷ 0 ∷ 0 ∷ 0 ∷ 0 ∷ 0 ∷ 0 ∷ 0 ∷ 0 ∷ []) ∷
    case (text_shown (text_of 2 (with_marker (line 0)) 0)) (6 ∷ 0 ∷ []) ∷
    case (text_shown (text_of 2 (with_marker flat_seal) 1)) (13 ∷ 0 ∷ []) ∷
    case (characters_shown (characters_of 2 (with_marker flat_seal) 0)) (0 ∷ 60 ∷ 6 ∷ []) ∷
    case (characters_shown (characters_of 3 (with_marker solid_seal) 0)) (0 ∷ 76 ∷ 6 ∷ []) ∷
    case (characters_shown (characters_of 2 (with_marker (raw 0 ++ flat_seal)) 2)) (0 ∷ 64 ∷ 6 ∷ []) ∷
    case (field_shown (field_of 2 (with_marker flat_seal) 0 0)) (0 ∷ 5 ∷ 2 ∷ 1 ∷ 1 ∷ []) ∷
    case (field_shown (field_of 3 (with_marker solid_seal) 0 0)) (0 ∷ 5 ∷ 2 ∷ 1 ∷ 1 ∷ []) ∷
    case (field_shown (field_of 2 (with_marker flat_seal) 0 1)) (13 ∷ 0 ∷ []) ∷
    case (field_shown (field_of 2 (with_marker (line 0)) 0 0)) (6 ∷ 0 ∷ []) ∷
    []

-- the one list
abbrev pub starred : List Case
starred =
    long_cases ++ name_cases ++ file_cases ++ line_cases ++ point_cases ++ cell_cases ++ table_cases ++ place_cases ++ rule_cases
    ++ length_cases ++ given_cases ++ code_cases ++ depth_cases ++ total_cases ++ count_cases ++ attribute_cases ++ text_cases
    ++ read_cases ++ order_cases ++ session_cases ++ block_cases ++ index_cases ++ deleted_cases ++ curve_cases ++ range_cases ++ plate_cases
