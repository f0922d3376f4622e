-- The loop's invariant: what was put so far stands before what the rest of the room takes.
use Prim.Native.Nat.{◌-◌}
use mathlib.Core.Path.{◌≡◌}
use lib.ListN.{length}
use Rattle.words.specs.Words.{words}
use Rattle.order.specs.Order.{place_of}
use Rattle.order.specs.Fitting.{part_of, in_numbers}
use Rattle.order.proofs.Fitting.{lays_numbers, Going}
use Rattle.dgn_points.specs.Points.{points_from}
use Rattle.dgn_points.proofs.Places.{numbers_of}
use Rattle.dgn_points.proofs.put_points.Given as goal

abbrev pub invariant-loop-i : goal.invariant-loop-i
invariant-loop-i l = (l.at ≡ place_of (words l.file) l.i) × Going in_numbers lays_numbers (part_of (length l.initial.numbers) l.k (points_from (l.elements - l.k) l.dim (words l.file) l.k)) l.initial.numbers (numbers_of l.dim l.file) l.elements l.i l.used l.numbers
