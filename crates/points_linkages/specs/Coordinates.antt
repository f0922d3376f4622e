-- Coordinates one after another: of points, as the calls for one point give them, and as signed longs of a file's words.
use Rattle.std.specs.Prelude.{ℕ, zero, suc, ◌+◌, List, [], ◌∷◌, ◌++◌, ℤ, Err, Ok, Result}
use Rattle.words.specs.Words.{long_at, signed}
use Rattle.points_linkages.specs.declared.Point.TheVariants as point
use Rattle.points_linkages.specs.Points.{point_of}
use Rattle.points_linkages.specs.declared.Point.{Point}
use Rattle.refusals.specs.declared.Refusal.{Refusal}

-- the coordinates of a point
abbrev pub coordinates : Result Point Refusal → List ℤ
coordinates (Ok (point.Flat x y)) = x ∷ y ∷ []
coordinates (Ok (point.Solid x y z)) = x ∷ y ∷ z ∷ []
coordinates (Err refusal) = []

-- the coordinates of n points from number k on, one call for each
unfoldable pub points_from : ℕ → ℕ → ℕ → List ℕ → ℕ → List ℤ
points_from zero k dim s at = []
points_from (suc n) k dim s at = coordinates (point_of dim s at k) ++ points_from n (k + 1) dim s at

-- n signed longs from a place on
abbrev pub longs : ℕ → List ℕ → ℕ → List ℤ
longs zero ws q = []
longs (suc n) ws q = signed (long_at ws q) ∷ longs n ws (q + 2)
