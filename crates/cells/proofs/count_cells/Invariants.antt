-- The loop's invariant: so many counted and those from here on are all.
use Prim.Native.Nat.{ℕ, ◌+◌, ◌-◌, ◌≤◌}
use mathlib.Core.Path.{◌≡◌}
use lib.ListN.{length}
use Rattle.words.specs.Words.{words}
use Rattle.cells.specs.Cells.{cells_between}
use Rattle.cells.proofs.Counts.{Counts}
use Rattle.cells.proofs.count_cells.Given as goal

abbrev pub invariant-loop-at : goal.invariant-loop-at
invariant-loop-at l =
    (l.n ≤ l.at) × ((l.end ≤ length l.s) × ((k : ℕ) → Counts (words l.s) l.at l.end k → l.n + k ≡ length (cells_between (words l.s) l.from l.to)))

abbrev pub decreases-loop-at : goal.decreases-loop-at
decreases-loop-at l = l.end - l.at
