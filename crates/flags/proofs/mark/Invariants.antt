-- The invariant `Marks`: what is put and packed from `here` on, behind the words so far, is all of it. The measure is the words left.
use Prim.Native.Nat.{◌-◌}
use Rattle.flags.proofs.Sixteens.{Marks}
use Rattle.flags.proofs.mark.Given as goal

abbrev pub invariant-loop-here : goal.invariant-loop-here
invariant-loop-here l = Marks l.initial.used l.initial.out l.at l.end l.deleted l.used l.out l.here l.i

abbrev pub decreases-loop-here : goal.decreases-loop-here
decreases-loop-here l = l.end - l.here
