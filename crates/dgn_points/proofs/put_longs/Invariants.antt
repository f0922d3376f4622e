-- The loop's invariant: the first j longs are put.
use mathlib.Core.Path.{◌≡◌}
use lib.Seq.{sets}
use Rattle.words.specs.Words.{words}
use Rattle.points_linkages.specs.Coordinates.{longs}
use Rattle.dgn_points.proofs.put_longs.Given as goal

abbrev pub invariant-loop-j : goal.invariant-loop-j
invariant-loop-j l = l.numbers ≡ sets l.initial.numbers l.from (longs l.j (words l.file) l.first)
