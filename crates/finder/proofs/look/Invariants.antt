-- The loop's invariant: what the elements from a place on answer, after n others, is what all of the part answer.
use Prim.Native.Nat.{◌-◌, ◌≤◌}
use Rattle.words.specs.Words.{words}
use Rattle.finder.specs.Look.{FirstFrom}
use Rattle.finder.proofs.look.Given as goal
use Rattle.std.specs.Prelude.{Result}
use Rattle.finder.specs.declared.Found.{Found}
use Rattle.finder.specs.declared.Missed.{Missed}

abbrev pub invariant-loop-at : goal.invariant-loop-at
invariant-loop-at l =
    (l.n ≤ l.at) × ((r : Result Found Missed) → FirstFrom l.wanted (words l.file) l.name.first l.name.second l.n l.at l.to r → FirstFrom l.wanted (words l.file) l.name.first l.name.second l.before l.from l.to r)

abbrev pub decreases-loop-at : goal.decreases-loop-at
decreases-loop-at l = l.to - l.at
