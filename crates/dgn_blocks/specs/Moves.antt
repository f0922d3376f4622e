-- What the C interface's two functions for stored journals leave.
use Rattle.std.specs.Prelude.{ℕ, ◌≡◌, cond, List, [], ◌∷◌, length, leb, Err, Ok, Result}
use Rattle.blocks.specs.Calls.{left_by}
use Rattle.answers.specs.Answers.{Reply, done, refuse, Replied}
use Rattle.refusals.specs.declared.Refusal.{Refusal}

-- how many bytes were written, or the refusal
abbrev pub moved_reply : Result ℕ Refusal → Reply ℕ
moved_reply (Ok n) = done (n ∷ [])
moved_reply (Err refusal) = refuse refusal.number refusal.place

-- the number that is returned, the answer slice and the buffer as they then are, where x is to be written; with no room for the
-- answer both stay
pub record MovedBy (answer : Result ℕ Refusal) (x buffer out : List ℕ) (n : ℕ) (last t : List ℕ) : Type 0 where
  pub reply : Replied 1 (moved_reply answer) out n t
  pub bytes : last ≡ cond (leb 1 (length out)) (left_by answer x buffer) buffer
