-- `names::word_ok` meets its contract: its tests are those of `word_ok`, in the same order.
use borrow.Author.Tests.{lt-leb, eq-eqb, ne_eqb}
use Rattle.names.specs.Names.{word_ok}
use Rattle.names.proofs.Stored.{by_codes}
use Rattle.names.proofs.word_ok.Goals as goal

pub returns-then-word-gt63999 : goal.returns-then-word-gt63999
unfolding word_ok
returns-then-word-gt63999 c = simp (lt-leb _ _ c.if-word-gt63999.true)

pub returns-then-l-eq29 : goal.returns-then-l-eq29
returns-then-l-eq29 c =
    by_codes c.if-word-gt63999.false c.letters-l.ensures
    (simp (eq-eqb _ _ c.if-l-eq29.true))

pub returns-then-l-eq29-2 : goal.returns-then-l-eq29-2
returns-then-l-eq29-2 c =
    by_codes c.if-word-gt63999.false c.letters-l.ensures
    (simp (ne_eqb _ _ c.if-l-eq29.false, eq-eqb _ _ c.if-l-eq29-2.true))

pub returns-then-l-eq29-3 : goal.returns-then-l-eq29-3
returns-then-l-eq29-3 c =
    by_codes c.if-word-gt63999.false c.letters-l.ensures
    (simp (ne_eqb _ _ c.if-l-eq29.false, ne_eqb _ _ c.if-l-eq29-2.false, eq-eqb _ _ c.if-l-eq29-3.true))

pub returns : goal.returns
returns c =
    by_codes c.if-word-gt63999.false c.letters-l.ensures
    (simp (ne_eqb _ _ c.if-l-eq29.false, ne_eqb _ _ c.if-l-eq29-2.false, ne_eqb _ _ c.if-l-eq29-3.false))
