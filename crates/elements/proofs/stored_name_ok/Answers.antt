-- The type decides whether there is a name, and where.
use Prim.Native.Nat.{◌+◌}
use mathlib.Core.Path.{◌≡◌, sym}
use native.Mathlib.Omega.{arith}
use borrow.Author.Tests.{ne_eqb}
use Rattle.elements.specs.Rules.{stored_name_ok}
use Rattle.elements.proofs.stored_name_ok.Goals as goal

pub overflow_add-at : goal.overflow_add-at
overflow_add-at c = omega arith

pub word-requires : goal.word-requires
word-requires c = tt

pub overflow_add-at-then-t-eq1 : goal.overflow_add-at-then-t-eq1
overflow_add-at-then-t-eq1 c = omega arith

pub word-requires-then-t-eq1 : goal.word-requires-then-t-eq1
word-requires-then-t-eq1 c = tt

pub name_ok-requires : goal.name_ok-requires
name_ok-requires c = tt

pub returns-then-t-eq1 : goal.returns-then-t-eq1
unfolding stored_name_ok
returns-then-t-eq1 c =
    let e : c.args.at + 16 + 1 ≡ c.args.at + 17 = omega arith in
    rw (
      sym c.requires.0,
      c.if-t-eq1.true,
      e,
      sym c.word.ensures.is,
      sym
          c.word-then-t-eq1.ensures.is,
    )
    c.name_ok.ensures

pub overflow_add-at-then-t-eq2 : goal.overflow_add-at-then-t-eq2
overflow_add-at-then-t-eq2 c = omega arith

pub word-requires-then-t-eq2 : goal.word-requires-then-t-eq2
word-requires-then-t-eq2 c = tt

pub overflow_add-at-then-t-eq2-2 : goal.overflow_add-at-then-t-eq2-2
overflow_add-at-then-t-eq2-2 c = omega arith

pub word-requires-then-t-eq2-2 : goal.word-requires-then-t-eq2-2
word-requires-then-t-eq2-2 c = tt

pub name_ok-requires-then-t-eq2 : goal.name_ok-requires-then-t-eq2
name_ok-requires-then-t-eq2 c = tt

pub returns-then-t-eq2 : goal.returns-then-t-eq2
unfolding stored_name_ok
returns-then-t-eq2 c =
    let e : c.args.at + 19 + 1 ≡ c.args.at + 20 = omega arith in
    rw (
      sym c.requires.0,
      c.if-t-eq2.true,
      e,
      sym c.word-then-t-eq2.ensures.is,
      sym
          c.word-then-t-eq2-2.ensures.is,
    )
    c.name_ok-then-t-eq2.ensures

pub returns : goal.returns
unfolding stored_name_ok
returns c = simp (sym c.requires.0, ne_eqb _ _ c.if-t-eq1.false, ne_eqb _ _ c.if-t-eq2.false)
