-- The tests are those of the definition, with the fixed part that was given.
use mathlib.Core.Path.{sym}
use native.Mathlib.Omega.{arith}
use borrow.Author.Tests.{le-leb, lt-leb, eq-eqb, ne_eqb}
use Rattle.elements.specs.Attributes.{attributes_ok}
use Rattle.elements.proofs.attributes_ok.Goals as goal

pub overflow_add-at : goal.overflow_add-at
overflow_add-at c = omega arith

pub word-requires : goal.word-requires
word-requires c = tt

pub returns-then-word-ne1 : goal.returns-then-word-ne1
returns-then-word-ne1 c = λ dim e. rw (sym (c.word.ensures.is), ne_eqb _ _ (c.if-word-ne1.true))

pub overflow_add-at-2 : goal.overflow_add-at-2
overflow_add-at-2 c = omega arith

pub word-part-requires : goal.word-part-requires
word-part-requires c = tt

pub overflow_add-part : goal.overflow_add-part
overflow_add-part c = omega arith

pub returns-then-part-fixed : goal.returns-then-part-fixed
unfolding attributes_ok
returns-then-part-fixed c = λ dim e. rw (sym (c.word.ensures.is), eq-eqb _ _ (c.if-word-ne1.false), sym (c.word-part.ensures.is), sym e, lt-leb _ _ (c.if-part-fixed.true))

pub returns-then-size-part : goal.returns-then-size-part
unfolding attributes_ok
returns-then-size-part c =
    λ dim e. rw (
      sym c.requires.size_value,
      sym c.word.ensures.is,
      eq-eqb _ _ c.if-word-ne1.false,
      sym
          c.word-part.ensures.is,
      sym e,
      le-leb _ _ c.if-part-fixed.false,
      lt-leb _ _ c.if-size-part.true,
    )

pub overflow_add-at-3 : goal.overflow_add-at-3
overflow_add-at-3 c = omega arith

pub overflow_add-at-4 : goal.overflow_add-at-4
overflow_add-at-4 c = omega arith

pub linkages_fill-requires : goal.linkages_fill-requires
linkages_fill-requires c = tt

pub returns : goal.returns
unfolding attributes_ok
returns c =
    λ dim e. rw (
      sym c.requires.size_value,
      sym c.word.ensures.is,
      eq-eqb _ _ c.if-word-ne1.false,
      sym
          c.word-part.ensures.is,
      sym e,
      le-leb _ _ c.if-part-fixed.false,
      le-leb _ _ c.if-size-part.false,
    )
    c.linkages_fill.ensures
