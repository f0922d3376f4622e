-- The loop's invariant is `Stepping`: what is left to do from an entry with the name on is what is left from entry low on.
use Rattle.entries.specs.Entries.{entries}
use Rattle.lookup.specs.Table.{marked}
use Rattle.lookup.proofs.Steps.{Stepping}
use Rattle.lookup.proofs.go_on.Given as goal

abbrev pub invariant-loop-i : goal.invariant-loop-i
invariant-loop-i l = Stepping (marked l.t) (entries l.s) l.name l.low l.looks l.i l.n
