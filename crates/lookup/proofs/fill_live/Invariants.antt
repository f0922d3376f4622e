-- The loop's invariant: the live cells before the place are marked (Table), in a table as long as it was.
use Prim.Native.Nat.{◌-◌}
use lib.ListN.{length}
use mathlib.Core.Path.{◌≡◌}
use Rattle.words.specs.Words.{words}
use Rattle.lookup.proofs.Table.{Filling}
use Rattle.lookup.proofs.fill_live.Given as goal

abbrev pub invariant-loop-at : goal.invariant-loop-at
invariant-loop-at l = (length l.t ≡ length l.initial.t) × Filling (words l.file) l.to l.at l.t

abbrev pub decreases-loop-at : goal.decreases-loop-at
decreases-loop-at l = l.to - l.at
