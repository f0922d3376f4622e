-- The words of an element of type 3, 4, 6 or 11 (RULES.md, "Element header" and "Writing"), by its header fields,
-- its points (a list of coordinates) and the bytes of its tail, in a file of 2 or 3 dimensions.
use Rattle.std.specs.Prelude.{ℕ, ◌+◌, ◌-◌, ◌*◌, ◌/◌, ◌%◌, cond, List, [], ◌∷◌, ◌++◌, map, length, ℤ}
use Rattle.words.specs.Words.{words, unsigned}
use Rattle.ranges.specs.Ranges.{stored}
use Rattle.kinds.specs.FirstWord.{bit}
use Rattle.kinds.specs.Kinds.{is_pointed, fixed_part}
use Rattle.fields.specs.declared.Fields.{Fields}

-- longs as words, high word first
abbrev pub longs : List ℕ → List ℕ
longs [] = []
longs (v ∷ vs) = v / 65536 ∷ v % 65536 ∷ longs vs

-- word 0: level, C, type and deleted; the reserved bit is zero
unfoldable pub first_word : Fields → ℕ
first_word f = f.level + 128 * bit f.c + 256 * f.kind + 32768 * bit f.deleted

-- the six coordinates of the range, and the longs that stand for them
abbrev pub range_coordinates : Fields → List ℤ
range_coordinates f = f.low_x ∷ f.low_y ∷ f.low_z ∷ f.high_x ∷ f.high_y ∷ f.high_z ∷ []

abbrev pub range_longs : Fields → List ℕ
range_longs f = map stored (range_coordinates f)

-- the symbology word: style, weight and colour
unfoldable pub symbology : Fields → ℕ
symbology f = f.style + 8 * f.weight + 256 * f.colour

-- words 14 to 17
abbrev pub display_words : Fields → List ℕ
display_words f = f.group ∷ f.index ∷ f.properties ∷ symbology f ∷ []

-- words 0 to 17 of an element of a size
unfoldable pub header_words : Fields → ℕ → List ℕ
header_words f size = first_word f ∷ (size - 2) ∷ (longs (range_longs f) ++ display_words f)

-- how many points: a point has as many coordinates as the file has dimensions
abbrev pub points_in : ℕ → List ℤ → ℕ
points_in dim points = length points / dim

-- N, of the types that have it
abbrev pub count_words : ℕ → ℕ → List ℕ
count_words kind n = cond (is_pointed kind) (n ∷ []) []

-- the size: the fixed part and the tail
unfoldable pub size_of : ℕ → Fields → List ℤ → List ℕ → ℕ
size_of dim f points tail = fixed_part dim f.kind (points_in dim points) + length tail / 2

-- N and the points, as signed longs: the fixed part behind the header
abbrev pub point_words : ℕ → ℕ → List ℤ → List ℕ
point_words dim kind points = count_words kind (points_in dim points) ++ longs (map unsigned points)

-- all words of an element of a size: the header, its body, which is the rest of the fixed part, and the tail
abbrev pub element_of : Fields → ℕ → List ℕ → List ℕ → List ℕ
element_of f size body tail = header_words f size ++ (body ++ words tail)

unfoldable pub element_words : ℕ → Fields → List ℤ → List ℕ → List ℕ
element_words dim f points tail = element_of f (size_of dim f points tail) (point_words dim f.kind points) tail
