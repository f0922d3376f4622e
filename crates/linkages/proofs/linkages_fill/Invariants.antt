-- The loop's invariant is a continuation: every answer of the words from `here` on is the answer of the words from `at` on.
-- The measure is the words left.
use Prim.Native.Nat.{◌-◌}
use mathlib.Core.Bool.{Bool}
use Rattle.words.specs.Words.{words}
use Rattle.linkages.proofs.Laws.{IsFill}
use Rattle.linkages.proofs.linkages_fill.Given as goal

abbrev pub invariant-loop-here : goal.invariant-loop-here
invariant-loop-here l = (r : Bool) → IsFill (words l.s) l.here l.end r → IsFill (words l.s) l.at l.end r

abbrev pub decreases-loop-here : goal.decreases-loop-here
decreases-loop-here l = l.end - l.here
