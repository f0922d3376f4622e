-- The invariant: the size of the first k chunks (`flat_turn`).
use Rattle.std.proofs.Common.{◌≡◌, length}
use Rattle.blocks.specs.Blocks.{flat_from}
use Rattle.blocks.proofs.flat_size.Given as goal

abbrev pub invariant-loop-k : goal.invariant-loop-k
invariant-loop-k l = l.t ≡ length (flat_from l.k l.s)
