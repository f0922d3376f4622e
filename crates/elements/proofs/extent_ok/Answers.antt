-- The tests are those of the contract.
use mathlib.Core.Path.{sym}
use native.Mathlib.Omega.{arith}
use borrow.Author.Tests.{le-leb, lt-leb}
use Rattle.elements.proofs.extent_ok.Goals as goal

pub overflow_add-at : goal.overflow_add-at
overflow_add-at c = omega arith

pub word-extent-requires : goal.word-extent-requires
word-extent-requires c = tt

pub overflow_add-extent : goal.overflow_add-extent
overflow_add-extent c = omega arith

pub returns-then-extent-size : goal.returns-then-extent-size
returns-then-extent-size c = simp (sym (c.word-extent.ensures.is), lt-leb _ _ (c.if-extent-size.true))

pub returns-then-room-extent : goal.returns-then-room-extent
returns-then-room-extent c = simp (sym (c.word-extent.ensures.is), le-leb _ _ (c.if-extent-size.false), lt-leb _ _ (c.if-room-extent.true))

pub returns : goal.returns
returns c = simp (sym (c.word-extent.ensures.is), le-leb _ _ (c.if-extent-size.false), le-leb _ _ (c.if-room-extent.false))
