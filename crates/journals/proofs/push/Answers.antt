-- The payload and the six words behind it are the record pushed (`push_copies`); where a test fails it does not fit.
use mathlib.Core.Path.{sym, ◌∙◌}
use native.Mathlib.Omega.{arith}
use Rattle.words.proofs.Laws.{lent_below}
use Rattle.copies.proofs.Copies.{copied_fits}
use Rattle.journals.proofs.Pushed.{push_copies, pushed_fits, pushed_not}
use Rattle.journals.proofs.push.Goals as goal

pub returns-then-jused-ne0 : goal.returns-then-jused-ne0
returns-then-jused-ne0 c = pushed_not _ _ _ _ _ _ (λ a b l. c.if-jused-ne0.true a)

pub returns-then-n-ne0 : goal.returns-then-n-ne0
returns-then-n-ne0 c = pushed_not _ _ _ _ _ _ (λ a b l. c.if-n-ne0.true b)

pub returns-then-journal-jused : goal.returns-then-journal-jused
returns-then-journal-jused c = pushed_not _ _ _ _ _ _ (λ a b l. omega arith)

pub returns-then-journal-jused-2 : goal.returns-then-journal-jused-2
returns-then-journal-jused-2 c = pushed_not _ _ _ _ _ _ (λ a b l. omega arith)

pub returns-then-journal-jused-lt12 : goal.returns-then-journal-jused-lt12
returns-then-journal-jused-lt12 c = pushed_not _ _ _ _ _ _ (λ a b l. omega arith)

pub returns : goal.returns
returns c =
    let args = c.args in
    let payload = lent_below args.payload.now c.type_inv.payload in
    let even = c.if-jused-ne0.false in
    let even_payload = c.if-n-ne0.false in
    push_copies _ _ _ _ _ _ args.header args.place payload even_payload (omega arith)
    (c.copy_in.ensures ∙ copied_fits _ _ _ (omega arith)) c.put_six.ensures ∙ sym
    (pushed_fits _ _ _ _ _ _ even even_payload (omega arith))
