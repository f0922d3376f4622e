-- `names::good_text` meets its contract: its tests are those of `good_text`, in the same order.
use mathlib.Core.Path.{sym}
use borrow.Author.Tests.{lt-leb, le-leb}
use Rattle.names.proofs.good_text.Goals as goal

pub returns-then-text-gt6 : goal.returns-then-text-gt6
returns-then-text-gt6 c = simp (lt-leb _ _ c.if-text-gt6.true)

pub returns-then-ends_in_space : goal.returns-then-ends_in_space
returns-then-ends_in_space c = simp (le-leb _ _ c.if-text-gt6.false, sym c.ends_in_space.ensures, c.if-ends_in_space.true)

pub returns : goal.returns
returns c =
    simp (le-leb _ _ c.if-text-gt6.false, sym c.ends_in_space.ensures, c.if-ends_in_space.false)
    c.all_letters.ensures
