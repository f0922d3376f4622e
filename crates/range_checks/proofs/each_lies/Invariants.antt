-- The loop's invariant: the points from number k on decide.
use Prim.Native.Nat.{◌+◌, ◌-◌, ◌*◌, ◌/◌, ◌≤◌}
use mathlib.Core.Path.{◌≡◌}
use mathlib.Core.Bool.{true}
use lib.ListN.{length}
use Rattle.words.specs.Words.{words}
use Rattle.range_checks.specs.InRange.{point_words, each_lies}
use Rattle.range_checks.proofs.each_lies.Given as goal

abbrev pub invariant-loop-k : goal.invariant-loop-k
invariant-loop-k l =
    (l.known ≡ true → l.first + point_words l.dim * l.n ≤ length l.file / 2)
    × (each_lies l.n l.range l.dim (words l.file) l.first ≡ each_lies (l.n - l.k) l.range l.dim (words l.file) (l.first + point_words l.dim * l.k))
