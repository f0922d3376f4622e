-- With room for the answer the functions leave what the library does, and without it nothing.
use Prim.Native.Nat.{ℕ, ◌≤◌, ◌<◌}
use mathlib.Core.Path.{refl, sym, subst}
use mathlib.Core.List.{List}
use lib.ListN.{length}
use borrow.Author.Tests.{le-leb, lt-leb}
use Rattle.std.specs.Prelude.{Result}
use Rattle.blocks.specs.Calls.{Moves}
use Rattle.answers.specs.Answers.{Replied, SmallReply}
use Rattle.answers.proofs.Laws.{too_short}
use Rattle.refusals.specs.declared.Refusal.{Refusal}
use Rattle.dgn_blocks.specs.Moves.{moved_reply, MovedBy}

-- an answer is as small as what it equals
pub small_answer : (m : Result ℕ Refusal) (x b : List ℕ) (r : Result ℕ Refusal) (last : List ℕ) → Moves m x b r last → SmallReply (moved_reply m) → SmallReply (moved_reply r)
small_answer m x b r last w = subst (λ a. SmallReply (moved_reply a)) (sym w.is)

module _ (m : Result ℕ Refusal) (x b out : List ℕ) where
  pub not_answered : length out < 1 → MovedBy m x b out 1 b out
  not_answered h = record { reply = too_short 1 (moved_reply m) out h; bytes = rw (lt-leb 1 (length out) h) refl }

  pub moved : (r : Result ℕ Refusal) (last t : List ℕ) (n : ℕ) → 1 ≤ length out → Moves m x b r last → Replied 1 (moved_reply r) out n t → MovedBy m x b out n last t
  moved r last t n h w q = record { reply = rw w.is at q; bytes = rw (le-leb 1 (length out) h) w.bytes }
