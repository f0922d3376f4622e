-- `closed_to` answers `closed_to`: closing from the depth d that is left answers the same at every turn.
use mathlib.Core.Path.{◌≡◌}
use Rattle.walking.specs.Walk.{closed_to}
use Rattle.walking.proofs.closed_to.Given as goal

abbrev pub invariant-loop-d : goal.invariant-loop-d
invariant-loop-d l = closed_to l.depth l.ends l.next ≡ closed_to l.d l.ends l.next
