-- A text as 15 signed numbers: font, justification, length and height multipliers, four for the turn, three for the
-- origin, how many characters and fields, the odd last byte, and the byte of the file where the characters begin.
use Rattle.std.specs.Prelude.{ℕ, ◌+◌, cond, List, [], ◌∷◌, ◌++◌, length, leb, ℤ, pos, negsuc, None, Option, Some}
use Rattle.std.proofs.lemmas.List.Edits.{sets}
use Rattle.turns.specs.Turns.{turn_numbers}
use Rattle.text_views.specs.declared.Origin.{Origin}
use Rattle.text_views.specs.declared.Origin.TheVariants as origins
use Rattle.text_views.specs.declared.Text.{Text}

-- z is 0 in 2D
abbrev pub origin_numbers : Origin → List ℤ
origin_numbers (origins.Flat x y) = x ∷ y ∷ pos 0 ∷ []
origin_numbers (origins.Solid x y z) = x ∷ y ∷ z ∷ []

-- -1 where there is none
abbrev pub odd_number : Option ℕ → ℤ
odd_number None = negsuc 0
odd_number (Some value) = pos value

-- all of them
abbrev pub first_numbers : Text → List ℤ
first_numbers t = pos t.font ∷ pos t.justification ∷ pos t.length ∷ pos t.height ∷ []

abbrev pub last_numbers : ℕ → Text → List ℤ
last_numbers start t = pos t.characters ∷ pos t.fields ∷ odd_number t.odd ∷ pos start ∷ []

abbrev pub text_numbers : ℕ → Text → List ℤ
text_numbers start t = first_numbers t ++ (turn_numbers t.turn ++ (origin_numbers t.origin ++ last_numbers start t))

-- a slice with them from a place of it on; where it has no room for the 15 numbers it stays
unfoldable pub put_text : List ℤ → ℕ → ℕ → Text → List ℤ
put_text s at start t = cond (leb (at + 15) (length s)) (sets s at (text_numbers start t)) s
