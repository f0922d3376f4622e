-- The invariant: the first k chunks stand (`gather_turn`).
use Rattle.std.proofs.Common.{◌≡◌, length}
use Rattle.words.specs.Words.{over}
use Rattle.blocks.specs.Blocks.{flat_from}
use Rattle.blocks.proofs.gather.Given as goal

abbrev pub invariant-loop-k : goal.invariant-loop-k
invariant-loop-k l = (l.t ≡ length (flat_from l.k l.s)) × (l.out ≡ over l.initial.out 0 (flat_from l.k l.s))
