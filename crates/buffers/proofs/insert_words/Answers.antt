-- What moved up and what was copied in are the spliced words stored (`insert_moves`); where a test fails nothing fits.
use mathlib.Core.Path.{sym, ◌∙◌}
use native.Mathlib.Omega.{arith}
use Rattle.words.proofs.Laws.{lent_below}
use Rattle.buffers.proofs.Stored.{insert_moves}
use Rattle.copies.proofs.Copies.{copied_fits}
use Rattle.buffers.proofs.Over.{moved_over}
use Rattle.buffers.proofs.Fits.{inserted_fits, inserted_not}
use Rattle.buffers.proofs.insert_words.Goals as goal

pub returns-then-used-ne0 : goal.returns-then-used-ne0
returns-then-used-ne0 c = inserted_not _ _ _ _ (λ a b l h. c.if-used-ne0.true a)

pub returns-then-n-ne0 : goal.returns-then-n-ne0
returns-then-n-ne0 c = inserted_not _ _ _ _ (λ a b l h. c.if-n-ne0.true b)

pub returns-then-file-used : goal.returns-then-file-used
returns-then-file-used c = inserted_not _ _ _ _ (λ a b l h. omega arith)

pub returns-then-file-used-2 : goal.returns-then-file-used-2
returns-then-file-used-2 c = inserted_not _ _ _ _ (λ a b l h. omega arith)

pub returns-then-used-place : goal.returns-then-used-place
returns-then-used-place c = inserted_not _ _ _ _ (λ a b l h. omega arith)

pub returns : goal.returns
returns c =
    let args = c.args in
    let file = lent_below args.file.now c.slice_known-1.given in
    let piece = lent_below args.piece.now c.type_inv.piece in
    let even = c.if-used-ne0.false in
    let even_piece = c.if-n-ne0.false in
    insert_moves _ _ _ file even (omega arith) _ _ _ piece even_piece (omega arith) (omega arith)
    (c.copy_within.ensures.after ∙ moved_over _ _ _ _ (omega arith)) (c.copy_in.ensures ∙ copied_fits _ _ _ (omega arith)) ∙ sym
    (inserted_fits _ _ _ _ even even_piece (omega arith) (omega arith))
