-- What a view gives of an element (RULES.md, "Reading calls"): ws are the file's words, at is the element's
-- place.
use Rattle.std.specs.Prelude.{ℕ, ◌+◌, ◌/◌, ◌%◌, List, Bool, true, false, cond, length, eqb, leb, ltb, ℤ, Err, None, Ok, Option, Result, Some}
use Rattle.words.specs.Words.{words, word_at, long_at}
use Rattle.ranges.specs.Ranges.{coordinate}
use Rattle.kinds.specs.FirstWord.{level_of, c_of, deleted_of}
use Rattle.headers.specs.Header.{type_at, size_at, points_at, count_at, name_first, name_second, total_at}
use Rattle.kinds.specs.Kinds.{is_header, is_counted, is_pointed, is_linked, is_cell}
use Rattle.places.specs.Places.{spotted_at}
use Rattle.places.specs.declared.Above.{Above}
use Rattle.views.specs.declared.Element.{Element}
use Rattle.places.specs.declared.Spotted.{Spotted}
use Rattle.refusals.specs.Refusals.{refused_with}
use Rattle.refusals.specs.declared.Refusal.{Refusal}
use Rattle.views.specs.Display.{display_with}
use Rattle.views.specs.Name.{name_with}
use Rattle.views.specs.Range.{longs_with}
use Rattle.views.specs.declared.Display.{Display}
use Rattle.views.specs.declared.Name.{Name}
use Rattle.views.specs.declared.Range.{Range}

-- a coordinate of a range, by the place of its long
abbrev pub coordinate_at : List ℕ → ℕ → ℤ
coordinate_at ws i = coordinate (long_at ws i)

-- words 2-13: six longs, low x y z, high x y z, as coordinates
abbrev pub six_at : List ℕ → ℕ → Option Range
six_at ws at =
    longs_with (coordinate_at ws (at + 2)) (coordinate_at ws (at + 4)) (coordinate_at ws (at + 6))
    (coordinate_at ws (at + 8)) (coordinate_at ws (at + 10)) (coordinate_at ws (at + 12))

-- the range; none where the element has fewer than 14 words
unfoldable pub range_of : List ℕ → ℕ → Option Range
range_of ws at = cond (leb 14 (size_at ws at)) (six_at ws at) None

-- words 14-17 of known types other than 1
unfoldable pub display_of : List ℕ → ℕ → Option Display
display_of ws at =
    cond (is_linked (type_at ws at))
    (display_with (word_at ws (at + 14)) (word_at ws (at + 15)) (word_at ws (at + 16)) (word_at ws (at + 17) % 8) (word_at ws (at + 17) / 8 % 32) (word_at ws (at + 17) / 256))
    None

-- a number that only some types have
abbrev pub number_if : Bool → ℕ → Option ℕ
number_if true n = Some n
number_if false n = None

-- the two name words of a cell
unfoldable pub name_words : List ℕ → ℕ → Option Name
name_words ws at = cond (is_cell (type_at ws at)) (name_with (name_first ws at) (name_second ws at)) None

-- all of it
unfoldable pub element_view : List ℕ → ℕ → ℕ → Above → Element
element_view ws at depth above = record {
  level = level_of (word_at ws at);
  c = eqb (c_of (word_at ws at)) 1;
  kind = type_at ws at;
  deleted = eqb (deleted_of (word_at ws at)) 1;
  size = size_at ws at;
  depth = depth;
  above = above;
  range = range_of ws at;
  display = display_of ws at;
  points = number_if (is_pointed (type_at ws at)) (points_at ws at);
  name = name_words ws at;
  total = number_if (is_header (type_at ws at)) (total_at ws at);
  count = number_if (is_counted (type_at ws at)) (count_at ws at);
}

-- of an element whose depth and direct header are known, 13 where no word stands
unfoldable pub element_in : List ℕ → ℕ → ℕ → Above → Result Element Refusal
element_in ws at depth above = cond (ltb at (length ws)) (Ok (element_view ws at depth above)) (refused_with 13 0)

abbrev pub view_by : Result Spotted Refusal → List ℕ → ℕ → Result Element Refusal
view_by (Ok spot) ws at = Ok (element_view ws at spot.depth spot.above)
view_by (Err refusal) ws at = Err refusal

unfoldable pub view_of : ℕ → List ℕ → ℕ → Result Element Refusal
view_of dim s at = view_by (spotted_at dim s at) (words s) at
