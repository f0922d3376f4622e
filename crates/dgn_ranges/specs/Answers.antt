-- What dgn_ranges answers, and what it leaves in the slice of places.
use Rattle.std.specs.Prelude.{ℕ, ◌≡◌, List, [], ◌∷◌, ℤ, length}
use Rattle.files.specs.Judge.{judge_of}
use Rattle.answers.specs.Answers.{Reply, with_room, Replied}
use Rattle.answers.specs.Besides.{besides}
use Rattle.order.specs.Calls.{reply_by}
use Rattle.dgn_ranges.specs.Ranges.{ranges_part}

-- 15 where such an element is left and none fits; done: the next element's number and how many places
unfoldable pub ranges_reply : ℕ → List ℕ → ℕ → ℕ → Reply ℕ
ranges_reply dim s k room =
    let q = ranges_part dim s room k in
    reply_by (judge_of dim s) (length q.given) q.next (q.next ∷ length q.given ∷ [])

-- the answer, and the slice of places, which takes them at its front where the call is done
pub record RangesGiven (dim : ℕ) (s : List ℕ) (k : ℕ) (places : List ℤ) (out : List ℕ) (r : ℕ) (places' : List ℤ) (out' : List ℕ) : Type 0 where
  pub replied : Replied 2 (ranges_reply dim s k (length places)) out r out'
  pub given : places' ≡ besides (with_room 2 (ranges_reply dim s k (length places)) out) (ranges_part dim s (length places) k).given places
