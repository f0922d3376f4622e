-- The loop's invariant: the elements at the top before `here` are judged, and the answer is that of all elements up to
-- there (Looks). A refused file is answered as it is judged.
use Rattle.finder.proofs.Looks.{Searched}
use Prim.Native.Nat.{◌-◌, ◌/◌}
use lib.ListN.{length}
use Rattle.finder.proofs.search.Given as goal

abbrev pub invariant-loop-before : goal.invariant-loop-before
invariant-loop-before l = Searched l.wanted l.dim l.file l.name.first l.name.second l.here l.answer

abbrev pub decreases-loop-before : goal.decreases-loop-before
decreases-loop-before l = length l.file / 2 - l.here
