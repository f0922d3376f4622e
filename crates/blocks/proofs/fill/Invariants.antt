-- The invariant: the first k blocks stand (`fill_turn`).
use Rattle.std.proofs.Common.{◌≡◌}
use Rattle.words.specs.Words.{over}
use Rattle.blocks.specs.Blocks.{stored_from}
use Rattle.blocks.proofs.fill.Given as goal

abbrev pub invariant-loop-k : goal.invariant-loop-k
invariant-loop-k l = l.s ≡ over l.initial.s 0 (stored_from l.k l.j)
