-- Calls of dgn_points one after another, from element 0 on, each from where the last one stopped: they give all points of the file,
-- each point as the call for one point gives it, in small numbers.
use Rattle.std.specs.Prelude.{ℕ, ◌≡◌, cond, List, [], ◌∷◌, ℤ, pos, get_or, eqb}
use Rattle.words.specs.Words.{words, Below}
use Rattle.files.specs.Judge.{judge_of}
use Rattle.files.specs.Spots.{Spot, spots_of}
use Rattle.points_linkages.specs.Points.{point_count}
use Rattle.points_linkages.specs.Coordinates.{points_from}
use Rattle.order.specs.Fitting.{all_of}
use Rattle.order.specs.Parts.{Lent, InParts, numbers_call, Called, GivesAll, NumbersSmall}
use Rattle.dgn_points.specs.Answers.{PointsGiven}
use Rattle.files.specs.Accepted.{accepted_with}

-- of the element at a place: none where it has no points; else its place, how many points it has, and their coordinates by the calls
-- for point 0, 1, ..
abbrev pub element_points : ℕ → List ℕ → ℕ → List ℤ
element_points dim s at =
    cond (eqb (point_count (words s) at) 0) []
    (pos at ∷ pos (point_count (words s) at) ∷ points_from (point_count (words s) at) 0 dim s at)

-- of elements, one after another
abbrev pub points_of : ℕ → List ℕ → List Spot → List ℤ
points_of dim s = all_of (λ x. element_points dim s x.place)

-- the call by its contract; its answer is the number of the element to go on with, and how many numbers there are. A slice of 305 numbers
-- holds any element, and one of 2 the answer
abbrev pub points_call : ℕ → List ℕ → InParts Lent (List ℤ)
points_call dim s = numbers_call (λ k x n y. PointsGiven dim s k x.numbers x.out n y.numbers y.out) (λ k out. get_or out 0 0) (λ out. get_or out 1 0) 305 2

abbrev pub AllPoints : Type 0
AllPoints =
    (dim : ℕ) (s : List ℕ) (e d m : ℕ) → judge_of dim s ≡ accepted_with e d m → (calls : List Lent) (got : List ℤ) (last : ℕ) →
    Called (points_call dim s) 0 calls got last → GivesAll (points_call dim s) (spots_of dim (words s)) (points_of dim s) calls got last

-- a call that is done gives numbers from -2,147,483,648 to 2,147,483,647
abbrev pub PointsWithin : Type 0
PointsWithin =
    (dim : ℕ) (s : List ℕ) (k : ℕ) (numbers numbers' : List ℤ) (out out' : List ℕ) → Below 256 s → PointsGiven dim s k numbers out 0 numbers' out' →
    NumbersSmall 2147483648 k numbers numbers' out'
