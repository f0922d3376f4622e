-- `thirds::third` meets its contract. The loop's invariant: what is counted and a third of what is left are a third of the number.
use Prim.Native.Nat.{◌+◌, ◌/◌}
use mathlib.Core.Path.{◌≡◌}
use Rattle.thirds.proofs.third.Given as goal

abbrev pub invariant-loop-rest : goal.invariant-loop-rest
invariant-loop-rest l = l.q + l.rest / 3 ≡ l.n / 3

abbrev pub decreases-loop-rest : goal.decreases-loop-rest
decreases-loop-rest l = l.rest
