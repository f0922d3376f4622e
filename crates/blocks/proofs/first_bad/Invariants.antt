-- What is left to judge decides (`bad_turn`).
use Rattle.std.proofs.Common.{◌≡◌, ◌-◌, ◌*◌, drop}
use Rattle.blocks.specs.Blocks.{first_bad, bad_from}
use Rattle.blocks.proofs.first_bad.Given as goal

abbrev pub invariant-loop-k : goal.invariant-loop-k
invariant-loop-k l = first_bad l.s ≡ bad_from (l.n - l.k) l.k (drop (512 * l.k) l.s)
