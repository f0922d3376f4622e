-- The loop's invariant is a continuation: so many elements from `here` on are so many more from `at` on. The measure is the words left.
use Prim.Native.Nat.{ℕ, ◌+◌, ◌-◌, ◌≤◌}
use Rattle.words.specs.Words.{words}
use Rattle.flags.proofs.Turns.{Counts}
use Rattle.flags.proofs.count.Given as goal

abbrev pub invariant-loop-here : goal.invariant-loop-here
invariant-loop-here l = (l.n ≤ l.here) × ((m : ℕ) → Counts (words l.used) l.end l.here m → Counts (words l.used) l.end l.at (l.n + m))

abbrev pub decreases-loop-here : goal.decreases-loop-here
decreases-loop-here l = l.end - l.here
