-- `lines::name_of` meets its contract: the type decides which case of the definition is left, and another type has words that are no name.
use Prim.Native.Nat.{◌+◌}
use mathlib.Core.Path.{◌≡◌, sym}
use native.Mathlib.Omega.{arith}
use borrow.Author.Tests.{ne_eqb}
use Rattle.lines.specs.Element.{name_text}
use Rattle.lines.proofs.Names.{named, no_name}
use Rattle.lines.proofs.name_of.Goals as goal

pub returns-then-kind-eq1 : goal.returns-then-kind-eq1
unfolding name_text
returns-then-kind-eq1 c =
    let at = c.args.at in
    let e : at + 16 + 1 ≡ at + 17 = omega arith in
    named _ _ _ _ _ c.unpack.ensures
    (rw (sym c.requires, c.if-kind-eq1.true, e, sym c.word_of.ensures.is, sym c.word_of-then-kind-eq1.ensures.is))

pub returns-then-kind-eq2 : goal.returns-then-kind-eq2
unfolding name_text
returns-then-kind-eq2 c =
    let at = c.args.at in
    let e : at + 19 + 1 ≡ at + 20 = omega arith in
    named _ _ _ _ _ c.unpack-then-kind-eq2.ensures
    (rw (sym c.requires, c.if-kind-eq2.true, e, sym c.word_of-then-kind-eq2.ensures.is, sym c.word_of-then-kind-eq2-2.ensures.is))

pub returns : goal.returns
unfolding name_text
returns c =
    named _ _ _ _ _ c.unpack-2.ensures
    (rw (sym c.requires, ne_eqb _ _ c.if-kind-eq1.false, ne_eqb _ _ c.if-kind-eq2.false) no_name)
