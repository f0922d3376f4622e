-- `printing::print_lines` is safe and ends. The loop's invariant: the part keeps its length, and the bytes that wait are
-- within it.
use Rattle.std.specs.Prelude.{◌≡◌, ◌≤◌, length}
use Rattle.printing.proofs.print_lines.Given as goal

abbrev pub invariant-loop : goal.invariant-loop
invariant-loop g l = (length l.part ≡ 16384) × (l.n ≤ length l.part)
