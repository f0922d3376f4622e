-- The part that is written holds the numbers (`part_put`).
use native.Mathlib.Omega.{arith}
use Rattle.text_numbers.proofs.Laws.{part_put}
use Rattle.text_numbers.proofs.put_numbers.Goals as goal

pub returns : goal.returns
returns c = part_put _ _ _ _ _ c.copy_from_slice.ensures.after (omega arith) (omega arith)
