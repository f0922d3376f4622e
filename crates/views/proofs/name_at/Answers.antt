-- The type says where the two words are, as in `name_words`.
use Prim.Native.Nat.{◌+◌}
use mathlib.Core.Path.{◌≡◌, sym, ◌∙◌}
use native.Mathlib.Omega.{arith}
use borrow.Author.Tests.{eq-eqb, ne_eqb}
use Rattle.views.specs.Views.{name_words}
use Rattle.views.proofs.name_at.Goals as goal

pub returns-then-t-eq1 : goal.returns-then-t-eq1
unfolding name_words
returns-then-t-eq1 c =
    let at = c.args.at in
    let e : at + 16 + 1 ≡ at + 17 = omega arith in
    rw (
      c.word.ensures.is,
      c.word-then-t-eq1.ensures.is,
      ← e,
      eq-eqb _ 1
          (sym c.type_at-t.ensures ∙ c.if-t-eq1.true),
    )

pub returns-then-t-eq2 : goal.returns-then-t-eq2
unfolding name_words
returns-then-t-eq2 c =
    let at = c.args.at in
    let e : at + 19 + 1 ≡ at + 20 = omega arith in
    rw (
      c.word-then-t-eq2.ensures.is,
      c.word-then-t-eq2-2.ensures.is,
      ← e,
      ne_eqb _ 1
          (rw c.type_at-t.ensures at c.if-t-eq1.false),
      eq-eqb _ 2
          (sym c.type_at-t.ensures ∙ c.if-t-eq2.true),
    )

pub returns : goal.returns
unfolding name_words
returns c = rw (ne_eqb _ 1 (rw c.type_at-t.ensures at c.if-t-eq1.false), ne_eqb _ 2 (rw c.type_at-t.ensures at c.if-t-eq2.false))
