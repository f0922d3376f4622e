-- What dgn_points answers, and what it leaves in the slice of numbers.
use Rattle.std.specs.Prelude.{ℕ, ◌≡◌, List, [], ◌∷◌, ℤ, length}
use Rattle.words.specs.Words.{words}
use Rattle.files.specs.Judge.{judge_of}
use Rattle.answers.specs.Answers.{Reply, with_room, Replied}
use Rattle.answers.specs.Besides.{besides}
use Rattle.order.specs.Calls.{reply_by}
use Rattle.dgn_points.specs.Points.{points_part}

-- 15 where an element is left and none fits; done: the next element's number and how many numbers
unfoldable pub points_reply : ℕ → List ℕ → ℕ → ℕ → Reply ℕ
points_reply dim s k room =
    let q = points_part dim (words s) room k in
    reply_by (judge_of dim s) (length q.given) q.next (q.next ∷ length q.given ∷ [])

-- the answer, and the slice of numbers, which takes them at its front where the call is done
pub record PointsGiven (dim : ℕ) (s : List ℕ) (k : ℕ) (numbers : List ℤ) (out : List ℕ) (r : ℕ) (numbers' : List ℤ) (out' : List ℕ) : Type 0 where
  pub replied : Replied 2 (points_reply dim s k (length numbers)) out r out'
  pub given : numbers' ≡ besides (with_room 2 (points_reply dim s k (length numbers)) out) (points_part dim (words s) (length numbers) k).given numbers
