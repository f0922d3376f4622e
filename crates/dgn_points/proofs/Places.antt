-- The numbers by places are those of the list of elements of an accepted file.
use Prim.Native.Nat.{ℕ, ◌-◌}
use mathlib.Core.Path.{◌≡◌, ap}
use mathlib.Core.List.{List}
use lib.IntN.{ℤ}
use Rattle.words.specs.Words.{words}
use Rattle.files.specs.Judge.{judge_of}
use Rattle.order.specs.Order.{place_of}
use Rattle.order.specs.Fitting.{part_of}
use Rattle.order.proofs.Items.{items_are}
use Rattle.dgn_points.specs.Points.{point_numbers, points_part, points_from}
use Rattle.files.specs.Accepted.{accepted_with}

pub points_are : (dim : ℕ) (s : List ℕ) (e d m : ℕ) → judge_of dim s ≡ accepted_with e d m → (room k : ℕ) →
    part_of room k (points_from (e - k) dim (words s) k) ≡ points_part dim (words s) room k
unfolding points_part
points_are dim s e d m accepted room k = ap (part_of room k) (items_are dim s e d m accepted (point_numbers dim (words s)) k)

-- the numbers of element number i
abbrev pub numbers_of : ℕ → List ℕ → ℕ → List ℤ
numbers_of dim file i = point_numbers dim (words file) (place_of (words file) i)
