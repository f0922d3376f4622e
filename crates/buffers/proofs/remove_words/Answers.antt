-- What moved down and the zeros behind it are the cut words stored (`remove_moves`); where a test fails nothing fits.
use mathlib.Core.Path.{sym, ◌∙◌}
use native.Mathlib.Omega.{arith}
use Rattle.words.proofs.Laws.{lent_below}
use Rattle.copies.proofs.Clears.{cleared_in}
use Rattle.buffers.proofs.Stored.{remove_moves}
use Rattle.buffers.proofs.Over.{moved_over}
use Rattle.buffers.proofs.Fits.{removed_fits, removed_not}
use Rattle.buffers.proofs.remove_words.Goals as goal

pub returns-then-used-ne0 : goal.returns-then-used-ne0
returns-then-used-ne0 c = removed_not _ _ _ _ (λ a l h. c.if-used-ne0.true a)

pub returns-then-file-used : goal.returns-then-file-used
returns-then-file-used c = removed_not _ _ _ _ (λ a l h. omega arith)

pub returns-then-used-place : goal.returns-then-used-place
returns-then-used-place c = removed_not _ _ _ _ (λ a l h. omega arith)

pub returns-then-used-place-2 : goal.returns-then-used-place-2
returns-then-used-place-2 c = removed_not _ _ _ _ (λ a l h. omega arith)

pub returns : goal.returns
returns c =
    let args = c.args in
    let file = lent_below args.file.now c.slice_known-1.given in
    let even = c.if-used-ne0.false in
    remove_moves _ _ _ file even (omega arith) _ _ _ (omega arith) (c.copy_within.ensures.after ∙ moved_over _ _ _ _ (omega arith))
    (c.clear.ensures ∙ cleared_in _ _ _ (omega arith) (omega (arith, c.copy_within.auto.self))) ∙ sym (removed_fits _ _ _ _ even (omega arith) (omega arith))
