-- An ellipse or an arc as 7 signed numbers, its type, where it starts, what it sweeps (of an ellipse 0 and 0) and four for the turn, and
-- as 5 floats, its two axes and its origin.
use Rattle.std.specs.Prelude.{ℕ, ◌+◌, Bool, false, cond, ◌&&◌, List, [], ◌∷◌, length, leb, ℤ, pos, Float, Err, Ok, Result}
use Rattle.std.proofs.lemmas.List.Edits.{sets}
use Rattle.std.specs.Float.{fin}
use Rattle.refusals.specs.declared.Refusal.{Refusal}
use Rattle.turns.specs.Turns.{turn_numbers}
use Rattle.turns.specs.declared.Turn.{Turn}
use Rattle.curve_views.specs.declared.Origin.{Origin}
use Rattle.curve_views.specs.declared.Origin.TheVariants as origins
use Rattle.curve_views.specs.declared.Curve.TheVariants.{Ellipse, Arc}
use Rattle.curve_views.specs.declared.Curve.{Curve}

abbrev pub long_numbers : ℕ → ℕ → ℕ → Turn → List ℤ
long_numbers kind start sweep turn = pos kind ∷ pos start ∷ pos sweep ∷ turn_numbers turn

-- z is 0 in 2D
abbrev pub zero : Float
zero = fin false 0 (pos 0)

abbrev pub origin_floats : Origin → List Float
origin_floats (origins.Flat x y) = x ∷ y ∷ zero ∷ []
origin_floats (origins.Solid x y z) = x ∷ y ∷ z ∷ []

-- all of them
abbrev pub curve_numbers : Curve → List ℤ
curve_numbers (Ellipse primary secondary turn origin) = long_numbers 15 0 0 turn
curve_numbers (Arc start sweep primary secondary turn origin) = long_numbers 16 start sweep turn

abbrev pub curve_floats : Curve → List Float
curve_floats (Ellipse primary secondary turn origin) = primary ∷ secondary ∷ origin_floats origin
curve_floats (Arc start sweep primary secondary turn origin) = primary ∷ secondary ∷ origin_floats origin

-- those of an answer; a refusal has none
abbrev pub numbers_of : Result Curve Refusal → List ℤ
numbers_of (Ok curve) = curve_numbers curve
numbers_of (Err refusal) = []

abbrev pub floats_of : Result Curve Refusal → List Float
floats_of (Ok curve) = curve_floats curve
floats_of (Err refusal) = []

-- slices have room for the 7 numbers from one place on and the 5 floats from another
abbrev pub room_for : List ℤ → ℕ → List Float → ℕ → Bool
room_for numbers at floats from = leb (at + 7) (length numbers) && leb (from + 5) (length floats)

-- the slices with them; where one has no room both stay
unfoldable pub put_numbers : List ℤ → ℕ → List Float → ℕ → Result Curve Refusal → List ℤ
put_numbers numbers at floats from c = cond (room_for numbers at floats from) (sets numbers at (numbers_of c)) numbers

unfoldable pub put_floats : List ℤ → ℕ → List Float → ℕ → Result Curve Refusal → List Float
put_floats numbers at floats from c = cond (room_for numbers at floats from) (sets floats from (floats_of c)) floats
