-- The invariant: the first k bytes of src stand at `at` (`copy_turn`).
use mathlib.Core.Path.{◌≡◌}
use lib.ListN.{length, take}
use Rattle.words.specs.Words.{over}
use Rattle.copies.proofs.copy_in.Given as goal

abbrev pub invariant-loop-k : goal.invariant-loop-k
invariant-loop-k l = (length l.s ≡ length l.initial.s) × (l.s ≡ over l.initial.s l.at (take l.k l.src))
