-- The invariant: correcting from here, with the depth left, gives what correcting from the top does. A header around the place starts
-- before it (`holder_around`), so its words are in the file.
use Prim.Native.Nat.{◌+◌, ◌-◌}
use mathlib.Core.Path.{◌≡◌, sym, ap, ◌∙◌}
use mathlib.Core.Bool.{false}
use native.Mathlib.Omega.{arith}
use Rattle.totals.specs.Totals.{header_put, totals_from}
use Rattle.totals.proofs.Holders.{holder_around}
use Rattle.totals.proofs.Descent.{totals_none, totals_nowhere, totals_itself, totals_inside, put_here, put_nowhere}
use Rattle.totals.proofs.correct_totals.Goals as goal

pub returns-then-file-header : goal.returns-then-file-header
returns-then-file-header c = sym (put_nowhere _ _ _ _ c.if-file-header.true)

pub loop-init : goal.loop-init
loop-init c = put_here _ _ _ _ c.if-file-header.false

pub returns-in-Nowhere : goal.returns-in-Nowhere
returns-in-Nowhere c =
    sym (c.loop.invariant ∙ totals_nowhere _ _ _ _ (9 - c.loop.counter) _ (λ e. omega (arith, c.loop-test.true)) (sym c.find_holder.ensures ∙ c.in-Nowhere.is))

pub returns-in-Itself : goal.returns-in-Itself
returns-in-Itself c =
    c.correct_header.ensures ∙ sym
    (c.loop.invariant ∙ totals_itself _ _ _ _ (9 - c.loop.counter) _ (λ e. omega (arith, c.loop-test.true)) (sym c.find_holder.ensures ∙ c.in-Itself.is))

pub correct_header-requires-in-Inside : goal.correct_header-requires-in-Inside
correct_header-requires-in-Inside c =
    let w = holder_around _ _ _ _ (sym c.in-Inside.is ∙ c.find_holder.ensures) in
    omega arith

pub loop-preserved : goal.loop-preserved
loop-preserved c =
    let a = c.args in
    let less : 9 - c.loop.counter - 1 ≡ 9 - (c.loop.counter + 1) = omega arith in
    c.loop.invariant ∙ totals_inside _ _ _ _ (9 - c.loop.counter) _ (λ e. omega (arith, c.loop-test.true)) _ _ (sym c.find_holder.ensures ∙ c.in-Inside.is)
    ∙ rw c.correct_header-in-Inside.ensures (ap (λ left. totals_from left a.up a.n a.header c.in-Inside.inner (header_put a.up a.n false c.in-Inside.place c.loop.file)) less)

pub returns : goal.returns
returns c = sym (c.loop.invariant ∙ totals_none _ _ _ _ (9 - c.loop.counter) _ (omega (arith, c.loop-test.false)))
