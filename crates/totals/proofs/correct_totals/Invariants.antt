-- The invariant: correcting from here, with the depth left, gives what correcting from the top does.
use Prim.Native.Nat.{◌-◌}
use mathlib.Core.Path.{◌≡◌}
use Rattle.totals.specs.Totals.{totals_from, totals_put}
use Rattle.totals.proofs.correct_totals.Given as goal

abbrev pub invariant-loop : goal.invariant-loop
invariant-loop l = totals_put l.up l.n l.header l.initial.file ≡ totals_from (9 - l.counter) l.up l.n l.header l.at l.file
