-- The two tests are the definition's, in its order (`and_no`, `and_on`).
use mathlib.Core.Path.{sym, ◌∙◌}
use Rattle.fields.proofs.Bounds.{and_no, and_on}
use Rattle.text_fields.specs.Faults.{numbers_ok}
use Rattle.text_fields.proofs.numbers_ok.Goals as goal

pub returns-then-not-bytes_ok : goal.returns-then-not-bytes_ok
unfolding numbers_ok
returns-then-not-bytes_ok c = and_no _ (sym c.bytes_ok.ensures ∙ c.if-not-bytes_ok.true)

pub returns : goal.returns
unfolding numbers_ok
returns c = and_on (sym c.bytes_ok.ensures ∙ c.if-not-bytes_ok.false) (c.longs_ok.ensures)
