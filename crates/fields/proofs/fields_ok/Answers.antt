-- The level's comparison, then the three groups of fields, in the definition's order (`and_no`, `and_on`).
use mathlib.Core.Path.{sym, ◌∙◌}
use borrow.Author.Tests.{le-leb, lt-leb}
use Rattle.fields.specs.Faults.{fields_ok}
use Rattle.fields.proofs.Bounds.{and_no, and_on}
use Rattle.fields.proofs.fields_ok.Goals as goal

pub returns-then-fields-gt63 : goal.returns-then-fields-gt63
unfolding fields_ok
returns-then-fields-gt63 c = and_no _ (lt-leb _ _ (c.if-fields-gt63.true))

pub returns-then-not-range_ok : goal.returns-then-not-range_ok
unfolding fields_ok
returns-then-not-range_ok c = and_on (le-leb _ _ (c.if-fields-gt63.false)) (and_no _ (sym c.range_ok.ensures ∙ c.if-not-range_ok.true))

pub returns-then-not-words_ok : goal.returns-then-not-words_ok
unfolding fields_ok
returns-then-not-words_ok c = and_on (le-leb _ _ (c.if-fields-gt63.false)) (and_on (sym c.range_ok.ensures ∙ c.if-not-range_ok.false) (and_no _ (sym c.words_ok.ensures ∙ c.if-not-words_ok.true)))

pub returns : goal.returns
unfolding fields_ok
returns c =
    and_on (le-leb _ _ c.if-fields-gt63.false)
    (and_on (sym c.range_ok.ensures ∙ c.if-not-range_ok.false)
    (and_on (sym c.words_ok.ensures ∙ c.if-not-words_ok.false) c.symbology_ok.ensures))
