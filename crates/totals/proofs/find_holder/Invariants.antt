-- The invariant: the search from here on answers what the search from the start does. Every extent has two words or more,
-- so the words up to the place fall.
use Prim.Native.Nat.{suc, ◌-◌}
use mathlib.Core.Path.{◌≡◌}
use Rattle.words.specs.Words.{words}
use Rattle.totals.specs.Totals.{holder_of}
use Rattle.totals.proofs.find_holder.Given as goal

abbrev pub invariant-loop-here : goal.invariant-loop-here
invariant-loop-here l = holder_of (words l.file) l.start l.place ≡ holder_of (words l.file) l.here l.place

abbrev pub decreases-loop-here : goal.decreases-loop-here
decreases-loop-here l = suc l.place - l.here
