-- The loop's invariant: the entries stored, and then those of the cells from here on put over what follows, are all; and so the count.
use Prim.Native.Nat.{ℕ, ◌+◌, ◌-◌, ◌≤◌}
use mathlib.Core.Path.{◌≡◌}
use mathlib.Core.List.{List, ◌++◌}
use lib.ListN.{length, take, drop}
use Rattle.words.specs.Words.{words}
use Rattle.entries.specs.Entries.{entries}
use Rattle.cells.specs.Cells.{Cell}
use Rattle.cells.specs.Index.{entries_of}
use Rattle.indexing.specs.Indexing.{cells_to, over}
use Rattle.indexing.proofs.Fills.{Left}
use Rattle.indexing.proofs.gather.Given as goal

-- what is known of the cells that are left at a place
pub record Ahead (s₀ file : List ℕ) (to i : ℕ) (s : List ℕ) (cs : List Cell) : Type 0 where
  pub stored : over (entries_of (cells_to file to)) (entries s₀) ≡ take i (entries s) ++ over (entries_of cs) (drop i (entries s))
  pub count : length (cells_to file to) ≡ i + length cs

abbrev pub invariant-loop-at : goal.invariant-loop-at
invariant-loop-at l =
    (l.i ≤ l.at) × ((l.end ≤ length l.file) × ((length l.s ≡ length l.initial.s) × ((cs : List Cell) → Left (words l.file) l.at l.end cs → Ahead l.initial.s l.file l.to l.i l.s cs)))

abbrev pub decreases-loop-at : goal.decreases-loop-at
decreases-loop-at l = l.end - l.at
