-- The loop's invariant is a continuation: every answer of the walk from `here` on, with the linkages not yet passed, is the answer
-- of the walk from `at` on to linkage k.
use Prim.Native.Nat.{◌-◌}
use Rattle.std.specs.Prelude.{Option}
use Rattle.words.specs.Words.{words}
use Rattle.linkages.specs.declared.Linkage.{Linkage}
use Rattle.linkages.proofs.Laws.{IsWalk}
use Rattle.linkages.proofs.linkage_in.Given as goal

abbrev pub invariant-loop : goal.invariant-loop
invariant-loop l = (r : Option Linkage) → IsWalk (words l.s) l.here l.end (l.k - l.counter) r → IsWalk (words l.s) l.at l.end l.k r
