-- The invariant: the search from here, with the depth left, answers what the search from the top does.
use Prim.Native.Nat.{◌-◌}
use mathlib.Core.Path.{◌≡◌}
use Rattle.words.specs.Words.{words}
use Rattle.totals.specs.Totals.{room_from, room_of}
use Rattle.totals.proofs.room_fault.Given as goal

abbrev pub invariant-loop : goal.invariant-loop
invariant-loop l = room_of l.n l.header l.file ≡ room_from (9 - l.counter) l.n l.header l.at (words l.file)
