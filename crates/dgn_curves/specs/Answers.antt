-- What dgn_curves answers, and what it leaves in the two slices.
use Rattle.std.specs.Prelude.{ℕ, ◌≡◌, List, [], ◌∷◌, length}
use Rattle.words.specs.Words.{words}
use Rattle.files.specs.Judge.{judge_of}
use Rattle.answers.specs.Answers.{Reply, with_room, Replied}
use Rattle.answers.specs.Besides.{if_done}
use Rattle.order.specs.Calls.{reply_by}
use Rattle.dgn_curves.specs.Curves.{Both, in_both, curves_part}

-- 15 where a curve is left and none fits; done: the next element's number and how many curves
unfoldable pub curves_reply : ℕ → List ℕ → ℕ → ℕ → Reply ℕ
curves_reply dim s k room =
    let q = curves_part dim (words s) room k in
    reply_by (judge_of dim s) (length q.given) q.next (q.next ∷ length q.given ∷ [])

-- the answer, and the two slices, which take numbers and floats at their front where the call is done
pub record CurvesGiven (dim : ℕ) (s : List ℕ) (k : ℕ) (was : Both) (out : List ℕ) (r : ℕ) (now : Both) (out' : List ℕ) : Type 0 where
  pub replied : Replied 2 (curves_reply dim s k (in_both.room was)) out r out'
  pub given : now ≡ if_done (with_room 2 (curves_reply dim s k (in_both.room was)) out) (in_both.put was 0 (curves_part dim (words s) (in_both.room was) k).given) was
