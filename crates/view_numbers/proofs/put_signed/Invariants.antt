-- The invariant: the first k numbers are put as signed ones (`signed_turn`).
use mathlib.Core.Path.{◌≡◌}
use mathlib.Core.List.{map}
use lib.Seq.{paste}
use Rattle.view_numbers.specs.Numbers.{as_signed}
use Rattle.view_numbers.proofs.put_signed.Given as goal

abbrev pub invariant-loop-k : goal.invariant-loop-k
invariant-loop-k l = l.out ≡ paste l.initial.out l.at (map as_signed l.numbers) l.k
