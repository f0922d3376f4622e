-- What the two calls answer and leave of the buffer that they write to (RULES.md, "Stored journals").
use Rattle.std.specs.Prelude.{◌≡◌, ℕ, ◌*◌, cond, List, length, ◌==◌, nat_le, Err, Ok, Result}
use Rattle.words.specs.Words.{over}
use Rattle.limits.specs.Limits.{size_ok}
use Rattle.refusals.specs.Refusals.{refused_with}
use Rattle.refusals.specs.declared.Refusal.{Refusal}
use Rattle.blocks.specs.Blocks.{blocks_for, blocks_in, first_bad, flat_of, stored_ok}

-- n bytes are written where there is room for them
abbrev pub within : ℕ → ℕ → Result ℕ Refusal
within n room = cond (nat_le n room) (Ok n) (refused_with 15 0)

-- a journal to blocks: 1 where it is odd or too long, then 15
abbrev pub to_blocks : List ℕ → ℕ → Result ℕ Refusal
to_blocks j room = cond (size_ok (length j)) (within (512 * blocks_for (length j)) room) (refused_with 1 0)

-- blocks to the journal: 1 where they are odd or too long, then 22 with the number of the first bad block, then 15
abbrev pub from_blocks : List ℕ → ℕ → Result ℕ Refusal
from_blocks s room =
    cond (stored_ok (length s))
    (cond (first_bad s == blocks_in (length s)) (within (length (flat_of s)) room) (refused_with 22 (first_bad s)))
    (refused_with 1 0)

-- the buffer s with x at its front, where it is written; a refusal leaves it
abbrev pub left_by : Result ℕ Refusal → List ℕ → List ℕ → List ℕ
left_by (Ok n) x s = over s 0 x
left_by (Err refusal) x s = s

-- the answer r and the buffer t as it then is
pub record Moves (answer : Result ℕ Refusal) (x s : List ℕ) (r : Result ℕ Refusal) (t : List ℕ) : Type 0 where
  pub is : r ≡ answer
  pub bytes : t ≡ left_by answer x s
