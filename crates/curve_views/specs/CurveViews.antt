-- What is read of an ellipse or an arc (RULES.md, "Ellipses and arcs"): ws are the file's words, at is the element's place.
use Rattle.std.specs.Prelude.{ℕ, ◌+◌, List, cond, length, eqb, leb, Float, Ok, Result}
use Rattle.words.specs.Words.{words, word_at, long_at}
use Rattle.dfloats.specs.Reading.{d_float}
use Rattle.curves.specs.Curves.{axes_word, turn_word, origin_word, floats_ok}
use Rattle.turns.specs.Turns.{turn_at}
use Rattle.kinds.specs.Kinds.{is_curve, fixed_part}
use Rattle.headers.specs.Header.{type_at}
use Rattle.places.specs.Places.{spotted_at}
use Rattle.places.specs.OfType.{of_type, of_place}
use Rattle.refusals.specs.Refusals.{refused_with}
use Rattle.refusals.specs.declared.Refusal.{Refusal}
use Rattle.curve_views.specs.declared.Origin.{Origin}
use Rattle.curve_views.specs.declared.Origin.TheVariants as origins
use Rattle.curve_views.specs.declared.Curve.TheVariants.{Ellipse, Arc}
use Rattle.curve_views.specs.declared.Curve.{Curve}

-- the float of the four words from place i on
unfoldable pub float_at : List ℕ → ℕ → Float
float_at ws i = d_float (word_at ws i) (word_at ws (i + 1)) (word_at ws (i + 2)) (word_at ws (i + 3))

-- the origin from place i on: x and y, in 3D z
unfoldable pub origin_at : ℕ → List ℕ → ℕ → Origin
origin_at dim ws i =
    cond (eqb dim 2) (origins.Flat (float_at ws i) (float_at ws (i + 4)))
    (origins.Solid (float_at ws i) (float_at ws (i + 4)) (float_at ws (i + 8)))

-- an ellipse: the primary and the secondary axis, how it is turned, its origin
abbrev pub ellipse_at : ℕ → List ℕ → ℕ → Result Curve Refusal
ellipse_at dim ws at =
    Ok (Ellipse (float_at ws (at + axes_word 15)) (float_at ws (at + axes_word 15 + 4)) (turn_at dim ws (at + turn_word 15)) (origin_at dim ws (at + origin_word dim 15)))

-- an arc: the angles where it starts and that it sweeps, unsigned longs in words 18 and 20, and then the same
abbrev pub arc_at : ℕ → List ℕ → ℕ → Result Curve Refusal
arc_at dim ws at =
    Ok (Arc (long_at ws (at + 18)) (long_at ws (at + 20))
    (float_at ws (at + axes_word 16)) (float_at ws (at + axes_word 16 + 4)) (turn_at dim ws (at + turn_word 16)) (origin_at dim ws (at + origin_word dim 16)))

-- by its type; 3 where the file ends before its fixed part does, 21 where a float is refused, neither of which an accepted file has
unfoldable pub curve_at : ℕ → List ℕ → ℕ → Result Curve Refusal
curve_at dim ws at =
    cond (leb (at + fixed_part dim (type_at ws at) 0) (length ws))
    (cond (floats_ok dim (type_at ws at) ws at) (cond (eqb (type_at ws at) 15) (ellipse_at dim ws at) (arc_at dim ws at)) (refused_with 21 at))
    (refused_with 3 at)

-- of the element at a place of a judged file: 6 at it where it is neither
unfoldable pub curve_in : ℕ → List ℕ → ℕ → Result Curve Refusal
curve_in dim ws at = of_type is_curve refused_with ws at (curve_at dim ws at)

-- the call: 1, the file's own refusals, 13 where no element starts there, then this
unfoldable pub curve_of : ℕ → List ℕ → ℕ → Result Curve Refusal
curve_of dim s at = of_place refused_with (spotted_at dim s at) (curve_in dim (words s) at)
