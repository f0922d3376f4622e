-- The points of the elements number k, k + 1, .. in file order, as many elements as a slice of numbers holds whole.
use Rattle.std.specs.Prelude.{ℕ, ◌+◌, ◌*◌, List, [], ◌∷◌, map, cond, ℤ, pos, drop, eqb}
use Rattle.files.specs.Spots.{spots_of}
use Rattle.order.specs.Order.{place_of}
use Rattle.order.specs.Fitting.{Fitting, part_of, items_from}
use Rattle.points_linkages.specs.Points.{point_count, before_points}
use Rattle.points_linkages.specs.Coordinates.{longs}

-- the numbers of the element at a place: none where it has no points; else its place, how many points it has, and their
-- coordinates, as many longs for each as the file has dimensions
unfoldable pub point_numbers : ℕ → List ℕ → ℕ → List ℤ
point_numbers dim ws at =
    cond (eqb (point_count ws at) 0) []
    (pos at ∷ pos (point_count ws at) ∷ longs (point_count ws at * dim) ws (at + before_points ws at))

-- those of a file
unfoldable pub points_part : ℕ → List ℕ → ℕ → ℕ → Fitting ℤ
points_part dim ws room k = part_of room k (map (λ x. point_numbers dim ws x.place) (drop k (spots_of dim ws)))

-- the same of n elements from number k on, by places
abbrev pub points_from : ℕ → ℕ → List ℕ → ℕ → List (List ℤ)
points_from n dim ws k = items_from n (λ i. point_numbers dim ws (place_of ws i)) k
