-- The invariant: the longs of the first k coordinates are laid from `at` on. A turn lays one long more (`next_point`).
use mathlib.Core.Path.{◌≡◌}
use mathlib.Core.List.{map}
use lib.ListN.{take}
use Rattle.words.specs.Words.{unsigned}
use Rattle.fields.specs.Words.{longs}
use Rattle.writer.specs.Writing.{laid}
use Rattle.writer.proofs.put_points.Given as goal

abbrev pub invariant-loop-k : goal.invariant-loop-k
invariant-loop-k l = l.out ≡ laid l.initial.out l.at (longs (take l.k (map unsigned l.points)))
