-- A way out for each answer.
use Rattle.std.proofs.Common.{◌≡◌, true, length, sym, ◌∙◌, arith}
use Rattle.limits.specs.Limits.{size_ok}
use Rattle.blocks.proofs.Journal.{for_high, flat_parts}
use Rattle.blocks.proofs.Ways.{to_call, to_full, to_done}
use Rattle.blocks.proofs.to_blocks.Goals as goal
use Rattle.blocks.proofs.to_blocks.Goals.{Else-not-size_ok}

-- past the first test the length is right
lent : (c : Else-not-size_ok) → size_ok (length c.args.journal.now) ≡ true
lent c = sym c.size_ok.ensures ∙ c.if-not-size_ok.false

pub returns-then-not-size_ok : goal.returns-then-not-size_ok
returns-then-not-size_ok c = to_call c.args.journal.now _ (sym c.size_ok.ensures ∙ c.if-not-size_ok.true)

pub blocks_for-n-requires : goal.blocks_for-n-requires
blocks_for-n-requires c = (flat_parts (length c.args.journal.now) (lent (goal.at.blocks_for-n-requires c).Else-not-size_ok)).1

pub overflow_mul-n : goal.overflow_mul-n
overflow_mul-n c =
    let len = length c.args.journal.now in
    omega (arith, c.blocks_for-n.ensures, for_high len, (flat_parts len (lent (goal.at.overflow_mul-n c).Else-not-size_ok)).1)

pub returns-then-out-n : goal.returns-then-out-n
returns-then-out-n c =
    to_full c.args.journal.now _ (lent (goal.at.returns-then-out-n c).Else-not-size_ok) _ c.blocks_for-n.ensures c.if-out-n.true

pub returns : goal.returns
returns c =
    to_done c.args.journal.now _ (lent (goal.at.returns c).Else-not-size_ok) _ c.blocks_for-n.ensures _ c.if-out-n.false
    c.fill.ensures
