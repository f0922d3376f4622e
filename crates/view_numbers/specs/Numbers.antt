-- A view as 32 signed numbers: of a part that may be absent, 1 and its numbers or 0 and zeros. Only the coordinates of the range may be
-- negative.
use Rattle.std.specs.Prelude.{ℕ, ◌+◌, cond, List, [], ◌∷◌, ◌++◌, map, length, leb, ltb, ℤ, pos, None, Option, Some}
use Rattle.std.proofs.lemmas.List.Edits.{sets}
use Rattle.places.specs.declared.Above.{Above}
use Rattle.places.specs.declared.Above.TheVariants as aboves
use Rattle.views.specs.declared.Element.{Element}
use Rattle.kinds.specs.FirstWord.{bit}
use Rattle.views.specs.declared.Display.{Display}
use Rattle.views.specs.declared.Name.{Name}
use Rattle.views.specs.declared.Range.{Range}

-- the parts of a view
abbrev pub above_numbers : Above → List ℕ
above_numbers aboves.Top = 0 ∷ 0 ∷ []
above_numbers (aboves.Under place) = 1 ∷ place ∷ []

abbrev pub number_numbers : Option ℕ → List ℕ
number_numbers None = 0 ∷ 0 ∷ []
number_numbers (Some value) = 1 ∷ value ∷ []

abbrev pub range_numbers : Option Range → List ℤ
range_numbers None = pos 0 ∷ pos 0 ∷ pos 0 ∷ pos 0 ∷ pos 0 ∷ pos 0 ∷ pos 0 ∷ []
range_numbers (Some range) = pos 1 ∷ range.low_x ∷ range.low_y ∷ range.low_z ∷ range.high_x ∷ range.high_y ∷ range.high_z ∷ []

abbrev pub display_numbers : Option Display → List ℕ
display_numbers None = 0 ∷ 0 ∷ 0 ∷ 0 ∷ 0 ∷ 0 ∷ 0 ∷ []
display_numbers (Some display) = 1 ∷ display.group ∷ display.index ∷ display.properties ∷ display.style ∷ display.weight ∷ display.colour ∷ []

abbrev pub name_numbers : Option Name → List ℕ
name_numbers None = 0 ∷ 0 ∷ 0 ∷ []
name_numbers (Some name) = 1 ∷ name.first ∷ name.second ∷ []

-- what every element has
abbrev pub common_numbers : Element → List ℕ
common_numbers e =
    (e.level ∷ bit e.c ∷ e.kind ∷ bit e.deleted ∷ e.size ∷ e.depth ∷ []) ++ above_numbers e.above

-- what only some types have, and the element's place
abbrev pub kind_numbers : ℕ → Element → List ℕ
kind_numbers place e =
    display_numbers e.display ++ (number_numbers e.points ++ (name_numbers e.name
    ++ (number_numbers e.total ++ (number_numbers e.count ++ (place ∷ [])))))

-- all of them, the range behind what every element has; f makes the others signed numbers
abbrev pub view_numbers : (ℕ → ℤ) → ℕ → Element → List ℤ
view_numbers f place e = map f (common_numbers e) ++ (range_numbers e.range ++ map f (kind_numbers place e))

abbrev pub view_given : ℕ → Element → List ℤ
view_given place e = view_numbers pos place e

-- a slice with the numbers of any element from a place of it on, 0 for one above the greatest signed number, which no view has
-- (proofs/Small); where it has no room for the 32 numbers it stays
abbrev pub as_signed : ℕ → ℤ
as_signed n = pos (cond (ltb n 9223372036854775808) n 0)

unfoldable pub put_view : List ℤ → ℕ → ℕ → Element → List ℤ
put_view s at place e = cond (leb (at + 32) (length s)) (sets s at (view_numbers as_signed place e)) s
