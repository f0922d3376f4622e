-- Every refusal of dgn_texts is small: the file's own, or 15 at 0.
use Prim.Native.Nat.{ℕ, ◌/◌}
use mathlib.Core.List.{List, [], ◌∷◌}
use lib.ListN.{length}
use Rattle.answers.specs.Answers.{SmallReply}
use Rattle.order.proofs.Answers.{reply_small}
use Rattle.dgn_texts.specs.Texts.{texts_part}
use Rattle.dgn_texts.specs.Answers.{texts_reply}

pub texts_small : (dim : ℕ) (s : List ℕ) (k room : ℕ) → SmallReply (texts_reply dim s k room)
unfolding texts_reply
texts_small dim s k room = let q = texts_part dim s room k in reply_small dim s (length q.given) q.next (q.next ∷ length q.given / 18 ∷ [])
