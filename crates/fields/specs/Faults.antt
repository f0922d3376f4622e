-- The checks of what is handed to the writer (RULES.md, "Writing"), in their order.
use Rattle.std.specs.Prelude.{ℕ, ◌-◌, ◌*◌, ◌/◌, ◌%◌, Bool, true, cond, not, ◌&&◌, ◌||◌, List, [], ◌∷◌, length, eqb, leb, ℤ}
use Rattle.words.specs.Words.{words}
use Rattle.ranges.specs.Ranges.{is_coordinate}
use Rattle.limits.specs.Limits.{dim_ok}
use Rattle.kinds.specs.Kinds.{one_of, is_pointed, points_within}
use Rattle.linkages.specs.Linkages.{linkages_fill}
use Rattle.elements.specs.Attributes.{linkages_ok}
use Rattle.headers.specs.Checks.{Check, check, first_fault}
use Rattle.fields.specs.Words.{range_coordinates, points_in, size_of, element_words}
use Rattle.fields.specs.declared.Fields.{Fields}

-- each number of a list is at most m
abbrev pub each_at_most : ℕ → List ℕ → Bool
each_at_most m [] = true
each_at_most m (x ∷ xs) = leb x m && each_at_most m xs

-- each is a coordinate
abbrev pub each_coordinate : List ℤ → Bool
each_coordinate [] = true
each_coordinate (z ∷ zs) = is_coordinate z && each_coordinate zs

-- the types that are written
abbrev pub is_written : ℕ → Bool
is_written = one_of (3 ∷ 4 ∷ 6 ∷ 11 ∷ [])

-- each field is in its range
abbrev pub words_ok : Fields → Bool
words_ok f = each_at_most 65535 (f.group ∷ f.index ∷ f.properties ∷ [])

abbrev pub symbology_ok : Fields → Bool
symbology_ok f = leb f.style 7 && (leb f.weight 31 && leb f.colour 255)

unfoldable pub fields_ok : Fields → Bool
fields_ok f = leb f.level 63 && (each_coordinate (range_coordinates f) && (words_ok f && symbology_ok f))

-- so many coordinates are two points for type 3, a whole number of points for the others
unfoldable pub points_fit : ℕ → ℕ → ℕ → Bool
points_fit dim kind n = cond (eqb kind 3) (eqb n (2 * dim)) (eqb (n % dim) 0)

-- 1 unless the dimension, the type, the fields, the number of coordinates and of the tail's bytes are right
unfoldable pub arguments_ok : ℕ → Fields → ℕ → ℕ → Bool
arguments_ok dim f points tail =
    dim_ok dim
    && (is_written f.kind && (fields_ok f && (points_fit dim f.kind points && eqb (tail % 2) 0)))

-- 7 unless N is from 2 to 101
unfoldable pub point_number_ok : ℕ → ℕ → Bool
point_number_ok kind n = not (is_pointed kind) || points_within n

-- the attribute part of a tail whose first word has the attribute index `first`: where A is set it begins not before the tail
-- nor after its end, and linkages fill it
unfoldable pub tail_ok : Fields → ℕ → List ℕ → Bool
tail_ok f first tail =
    not (eqb (f.properties / 2048 % 2) 1)
    || (leb first f.index
    && (leb (f.index - first) (length tail / 2)
    && linkages_fill (words tail) (f.index - first) (length tail / 2)))

-- the checks, with a buffer of so many bytes: 8 is of the size, 11 of the attribute part, 15 of the room
abbrev pub write_checks : ℕ → Fields → List ℤ → List ℕ → ℕ → List Check
write_checks dim f points tail room =
    check (arguments_ok dim f (length points) (length tail)) 1
    ∷ check (point_number_ok f.kind (points_in dim points)) 7
    ∷ check (leb (size_of dim f points tail) 65535) 8
    ∷ check (linkages_ok dim (element_words dim f points tail) 0) 11
    ∷ check (leb (2 * size_of dim f points tail) room) 15
    ∷ []

-- the number of the first fault, 0 where there is none
unfoldable pub write_fault : ℕ → Fields → List ℤ → List ℕ → ℕ → ℕ
write_fault dim f points tail room = first_fault (write_checks dim f points tail room)
