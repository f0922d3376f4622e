-- What the piece is judged to be, with its end compared to the piece's words.
use mathlib.Core.Path.{sym, ◌∙◌}
use borrow.Author.Tests.{eq-eqb, ne_eqb}
use Rattle.std.proofs.lemmas.Result.{err_from_is_err_and}
use Rattle.words.proofs.Laws.{length_words}
use Rattle.faults.proofs.piece_fault.Goals as goal

pub returns-in_err-judged : goal.returns-in_err-judged
returns-in_err-judged c =
    let p = err_from_is_err_and c.from_residual.result c.from_residual.ensures.1 in
    rw (p.1, p.2, length_words _, sym c.element.ensures ∙ c.in_err-judged.was)

pub returns-then-judged-size : goal.returns-then-judged-size
returns-then-judged-size c = rw (length_words _, sym c.element.ensures ∙ c.in_ok-judged.was, eq-eqb _ _ c.if-judged-size.true)

pub returns : goal.returns
returns c = rw (length_words _, sym c.element.ensures ∙ c.in_ok-judged.was, ne_eqb _ _ c.if-judged-size.false)
