-- Every refusal of the two functions is small: a stored journal has at most 2,065 blocks.
use Prim.Native.Nat.{ℕ, ◌*◌, ◌%◌, ◌≤◌}
use mathlib.Core.Path.{◌≡◌, refl}
use mathlib.Core.Bool.{Bool, true, false, cond, and-eq-true_iff}
use mathlib.Core.List.{List}
use native.Mathlib.Omega.{arith}
use lib.ListN.{length}
use lib.Dec.{eqb, leb}
use borrow.Author.Tests.{leb-true}
use Rattle.std.specs.Prelude.{Ok}
use Rattle.limits.specs.Limits.{size_ok}
use Rattle.blocks.specs.Blocks.{blocks_for, blocks_in, first_bad, flat_of, stored_ok}
use Rattle.blocks.specs.Calls.{within, to_blocks, from_blocks}
use Rattle.blocks.proofs.Answers.{first_within}
use Rattle.answers.specs.Answers.{SmallReply}
use Rattle.refusals.specs.Refusals.{refused_with}
use Rattle.dgn_blocks.specs.Moves.{moved_reply}

within_small : (n room : ℕ) → SmallReply (moved_reply (within n room))
within_small n room = go (leb n room)
  where
    go : (b : Bool) → SmallReply (moved_reply (cond b (Ok n) (refused_with 15 0)))
    go true = tt
    go false = (omega arith, omega arith, omega arith)

pub to_small : (j : List ℕ) (room : ℕ) → SmallReply (moved_reply (to_blocks j room))
to_small j room = go (size_ok (length j))
  where
    go : (b : Bool) → SmallReply (moved_reply (cond b (within (512 * blocks_for (length j)) room) (refused_with 1 0)))
    go true = within_small (512 * blocks_for (length j)) room
    go false = (omega arith, omega arith, omega arith)

blocks_few : (n : ℕ) → n ≤ 1057280 → blocks_in n ≤ 2065
unfolding blocks_in
blocks_few n h = omega arith

bad_small : (s : List ℕ) → stored_ok (length s) ≡ true → first_bad s ≤ 524288
bad_small s e =
    let l = leb-true (length s) 1057280 ((and-eq-true_iff (eqb (length s % 2) 0) (leb (length s) 1057280)).0 e).1 in
    let b = first_within s in
    let f = blocks_few (length s) l in
    omega arith

pub from_small : (s : List ℕ) (room : ℕ) → SmallReply (moved_reply (from_blocks s room))
from_small s room = go (stored_ok (length s)) refl (eqb (first_bad s) (blocks_in (length s)))
  where
    go : (a : Bool) → stored_ok (length s) ≡ a → (b : Bool) →
        SmallReply (moved_reply (cond a (cond b (within (length (flat_of s)) room) (refused_with 22 (first_bad s))) (refused_with 1 0)))
    go false e b = (omega arith, omega arith, omega arith)
    go true e true = within_small (length (flat_of s)) room
    go true e false = (omega arith, omega arith, bad_small s e)
