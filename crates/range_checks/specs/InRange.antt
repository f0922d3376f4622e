-- Whether all points of an element lie in its range (RULES.md, "Reading calls"): ws are the file's words, at is the element's place.
use Rattle.std.specs.Prelude.{ℕ, zero, suc, ◌+◌, List, [], ◌∷◌, Bool, true, false, cond, ◌&&◌, eqb, ℤ, Err, None, Ok, Option, Result, Some}
use Rattle.std.specs.Int.Signed.{le_z}
use Rattle.words.specs.Words.{words}
use Rattle.kinds.specs.Kinds.{one_of}
use Rattle.places.specs.Places.{spotted_at}
use Rattle.places.specs.OfType.{of_type, of_place}
use Rattle.views.specs.Views.{range_of}
use Rattle.points_linkages.specs.Points.{point_count, before_points, point_at}
use Rattle.points_linkages.specs.declared.Point.TheVariants as point
use Rattle.points_linkages.specs.declared.Point.{Point}
use Rattle.refusals.specs.Refusals.{refused_with}
use Rattle.refusals.specs.declared.Refusal.{Refusal}
use Rattle.views.specs.declared.Range.{Range}

-- the types that are asked: lines, line strings, shapes and curves
abbrev pub is_range_checked : ℕ → Bool
is_range_checked = one_of (3 ∷ 4 ∷ 6 ∷ 11 ∷ [])

-- from low to high, both included
abbrev pub between : ℤ → ℤ → ℤ → Bool
between low high z = le_z low z && le_z z high

-- a point of a 2D file lies in a range by its x and y, one of a 3D file by its z too
abbrev pub lies_in : Option Range → Result Point Refusal → Bool
lies_in None p = false
lies_in (Some range) (Ok (point.Flat x y)) = between range.low_x range.high_x x && between range.low_y range.high_y y
lies_in (Some range) (Ok (point.Solid x y z)) = between range.low_x range.high_x x && (between range.low_y range.high_y y && between range.low_z range.high_z z)
lies_in (Some range) (Err refusal) = false

-- the words of a point
abbrev pub point_words : ℕ → ℕ
point_words dim = cond (eqb dim 2) 4 6

-- each of n points, one behind another from a place on, lies in a range
abbrev pub each_lies : ℕ → Option Range → ℕ → List ℕ → ℕ → Bool
each_lies zero r dim ws q = true
each_lies (suc n) r dim ws q = lies_in r (point_at dim ws q) && each_lies n r dim ws (q + point_words dim)

-- all points of the element at a place lie in its range
unfoldable pub in_range : ℕ → List ℕ → ℕ → Bool
in_range dim ws at = each_lies (point_count ws at) (range_of ws at) dim ws (at + before_points ws at)

-- what is answered of it: yes or no, and 6 at it where its type is not asked
unfoldable pub in_range_in : ℕ → List ℕ → ℕ → Result Bool Refusal
in_range_in dim ws at = of_type is_range_checked refused_with ws at (Ok (in_range dim ws at))

-- the call: 1, the file's own refusals, 13 where no element starts there, then this
unfoldable pub in_range_of : ℕ → List ℕ → ℕ → Result Bool Refusal
in_range_of dim s at = of_place refused_with (spotted_at dim s at) (in_range_in dim (words s) at)
