-- `names::text_length` meets its contract: the tests, from the last code down, are those by which `kept` drops a space.
use borrow.Author.Tests.{eq-eqb, ne_eqb}
use Rattle.names.specs.Names.{text_in}
use Rattle.names.proofs.text_length.Goals as goal

pub returns-then-m-ne0 : goal.returns-then-m-ne0
unfolding text_in
returns-then-m-ne0 c = simp (ne_eqb _ _ c.if-m-ne0.true)

pub returns-then-m-ne0-2 : goal.returns-then-m-ne0-2
unfolding text_in
returns-then-m-ne0-2 c = simp (ne_eqb _ _ c.if-m-ne0-2.true, eq-eqb _ _ c.if-m-ne0.false)

pub returns-then-m-ne0-3 : goal.returns-then-m-ne0-3
unfolding text_in
returns-then-m-ne0-3 c =
    simp (ne_eqb _ _ c.if-m-ne0-3.true, eq-eqb _ _ c.if-m-ne0-2.false, eq-eqb _ _ c.if-m-ne0.false)

pub returns-then-l-ne0 : goal.returns-then-l-ne0
unfolding text_in
returns-then-l-ne0 c =
    simp (ne_eqb _ _ c.if-l-ne0.true, eq-eqb _ _ c.if-m-ne0-3.false, eq-eqb _ _ c.if-m-ne0-2.false, eq-eqb _ _ c.if-m-ne0.false)

pub returns-then-l-ne0-2 : goal.returns-then-l-ne0-2
unfolding text_in
returns-then-l-ne0-2 c =
    simp (ne_eqb _ _ c.if-l-ne0-2.true, eq-eqb _ _ c.if-l-ne0.false, eq-eqb _ _ c.if-m-ne0-3.false, eq-eqb _ _ c.if-m-ne0-2.false, eq-eqb _ _ c.if-m-ne0.false)

pub returns-then-l-ne0-3 : goal.returns-then-l-ne0-3
unfolding text_in
returns-then-l-ne0-3 c =
    simp
    (ne_eqb _ _ c.if-l-ne0-3.true, eq-eqb _ _ c.if-l-ne0-2.false, eq-eqb _ _ c.if-l-ne0.false, eq-eqb _ _ c.if-m-ne0-3.false, eq-eqb _ _ c.if-m-ne0-2.false, eq-eqb _ _ c.if-m-ne0.false)

pub returns : goal.returns
unfolding text_in
returns c =
    simp
    (eq-eqb _ _ c.if-l-ne0-3.false, eq-eqb _ _ c.if-l-ne0-2.false, eq-eqb _ _ c.if-l-ne0.false, eq-eqb _ _ c.if-m-ne0-3.false, eq-eqb _ _ c.if-m-ne0-2.false, eq-eqb _ _ c.if-m-ne0.false)
