-- The invariant is `Going`: what is left to do from here is what is left of the whole.
use Prim.Native.Nat.{◌-◌}
use Rattle.entries.specs.Entries.{entries}
use Rattle.lookup.proofs.Turns.{Going}
use Rattle.lookup.proofs.halve.Given as goal

abbrev pub invariant-loop-low : goal.invariant-loop-low
invariant-loop-low l = Going (entries l.s) l.name l.low l.high l.looks

abbrev pub decreases-loop-low : goal.decreases-loop-low
decreases-loop-low l = l.high - l.low
