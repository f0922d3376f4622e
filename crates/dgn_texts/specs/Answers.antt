-- What dgn_texts answers, and what it leaves in the slice of numbers.
use Rattle.std.specs.Prelude.{ℕ, ◌/◌, ◌≡◌, List, [], ◌∷◌, ℤ, length}
use Rattle.files.specs.Judge.{judge_of}
use Rattle.answers.specs.Answers.{Reply, with_room, Replied}
use Rattle.answers.specs.Besides.{besides}
use Rattle.order.specs.Calls.{reply_by}
use Rattle.dgn_texts.specs.Texts.{texts_part}

-- 15 where a text is left and none fits; done: the next element's number and how many texts
unfoldable pub texts_reply : ℕ → List ℕ → ℕ → ℕ → Reply ℕ
texts_reply dim s k room =
    let q = texts_part dim s room k in
    reply_by (judge_of dim s) (length q.given) q.next (q.next ∷ length q.given / 18 ∷ [])

-- the answer, and the slice of numbers, which takes them at its front where the call is done
pub record TextsGiven (dim : ℕ) (s : List ℕ) (k : ℕ) (numbers : List ℤ) (out : List ℕ) (r : ℕ) (numbers' : List ℤ) (out' : List ℕ) : Type 0 where
  pub replied : Replied 2 (texts_reply dim s k (length numbers)) out r out'
  pub given : numbers' ≡ besides (with_room 2 (texts_reply dim s k (length numbers)) out) (texts_part dim s (length numbers) k).given numbers
