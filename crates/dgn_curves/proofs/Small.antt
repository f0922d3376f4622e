-- Every refusal of dgn_curves is small.
use Prim.Native.Nat.{ℕ}
use mathlib.Core.List.{List, [], ◌∷◌}
use lib.ListN.{length}
use Rattle.words.specs.Words.{words}
use Rattle.answers.specs.Answers.{SmallReply}
use Rattle.order.proofs.Answers.{reply_small}
use Rattle.dgn_curves.specs.Curves.{curves_part}
use Rattle.dgn_curves.specs.Answers.{curves_reply}

pub curves_small : (dim : ℕ) (s : List ℕ) (k room : ℕ) → SmallReply (curves_reply dim s k room)
unfolding curves_reply
curves_small dim s k room = let q = curves_part dim (words s) room k in reply_small dim s (length q.given) q.next (q.next ∷ length q.given ∷ [])
