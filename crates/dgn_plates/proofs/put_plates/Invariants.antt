-- The loop's invariant: what was put so far stands before what the rest of the room takes.
use Prim.Native.Nat.{◌-◌}
use mathlib.Core.Path.{◌≡◌}
use Rattle.words.specs.Words.{words}
use Rattle.order.specs.Order.{place_of}
use Rattle.dgn_plates.proofs.Places.{So-far}
use Rattle.dgn_plates.proofs.put_plates.Given as goal

abbrev pub invariant-loop-i : goal.invariant-loop-i
invariant-loop-i l = (l.at ≡ place_of (words l.file) l.i) × So-far l.file l.elements l.k l.initial.numbers l.numbers l.i l.used
