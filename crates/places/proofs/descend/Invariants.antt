-- The loop's invariant: what the descent finds from the element at `here` on is what it finds from where it began.
use Prim.Native.Nat.{◌-◌, ◌≤◌}
use Rattle.words.specs.Words.{words}
use Rattle.places.specs.declared.Above.TheVariants.{Top}
use Rattle.places.specs.Descent.{IsLocated}
use Rattle.places.proofs.descend.Given as goal
use Rattle.std.specs.Prelude.{Result}
use Rattle.places.specs.declared.Spotted.{Spotted}
use Rattle.refusals.specs.declared.Refusal.{Refusal}

abbrev pub invariant-loop-here : goal.invariant-loop-here
invariant-loop-here l =
    (l.depth ≤ l.here) × ((r : Result Spotted Refusal) → IsLocated (words l.file) l.here l.depth l.above l.place r → IsLocated (words l.file) l.top 0 Top l.place r)

abbrev pub decreases-loop-here : goal.decreases-loop-here
decreases-loop-here l = l.place - l.here
