-- The loop's invariant: what is counted and what the rest comes to make up the counts of all; no count is above the place.
use Prim.Native.Nat.{ℕ, ◌+◌, ◌-◌, ◌≤◌}
use mathlib.Core.Path.{◌≡◌}
use lib.ListN.{length, get_or}
use Rattle.words.specs.Words.{words}
use Rattle.plates.specs.Hops.{hops, slot_count}
use Rattle.plates.proofs.tally.Given as goal

abbrev pub invariant-loop-here : goal.invariant-loop-here
invariant-loop-here l = (length l.counts ≡ 7) × ((k : ℕ) → get_or l.counts k 0 ≤ l.here) × ((k : ℕ) → get_or l.counts k 0 + slot_count k (words l.file) (hops (words l.file) l.here l.end) ≡ slot_count k (words l.file) (hops (words l.file) l.from l.end))

abbrev pub decreases-loop-here : goal.decreases-loop-here
decreases-loop-here l = l.end - l.here
