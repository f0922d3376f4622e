-- The invariant: the bytes that are left decide.
use mathlib.Core.Path.{◌≡◌}
use lib.ListN.{length}
use Rattle.text_fields.specs.Faults.{triples_ok}
use Rattle.text_fields.proofs.triples_ok.Given as goal

abbrev pub invariant-loop-rest : goal.invariant-loop-rest
invariant-loop-rest l = triples_ok l.c l.triples ≡ triples_ok l.c l.rest

abbrev pub decreases-loop-rest : goal.decreases-loop-rest
decreases-loop-rest l = length l.rest
