-- Each way of the call; a text of a file begins at a small place.
use Prim.Native.Nat.{◌≤◌, ◌<◌}
use mathlib.Core.Path.{sym, ap, ◌∙◌}
use native.Mathlib.Omega.{arith}
use Rattle.texts.proofs.Laws.{counts_early}
use Rattle.answers.proofs.Laws.{too_short, answered}
use Rattle.dgn_text.specs.TextReplies.{text_reply}
use Rattle.dgn_text.proofs.Small.{text_small, text_refused_small}
use Rattle.dgn_text.proofs.Done.{text_done}
use Rattle.dgn_text.proofs.dgn_text.Goals as goal
use Rattle.dgn_text.proofs.dgn_text.Goals.{After-counts_word}

-- the text begins at a small place, and the word of its counts is near
near : (c : After-counts_word) → (c.counts_word.result ≤ 37) × (c.args.place < 524288)
near c =
    let early = counts_early c.args.dim in
    let is = c.counts_word.ensures in
    (omega arith, text_small c.args.dim c.args.file.now c.args.place _ (sym c.text_at.ensures ∙ c.in-Ok.is))

pub returns-then-out-lt15 : goal.returns-then-out-lt15
returns-then-out-lt15 c = too_short 15 _ c.args.out.now c.if-out-lt15.true

pub overflow_add-start : goal.overflow_add-start
overflow_add-start c = omega (arith, near (goal.at.overflow_add-start c).After-counts_word)

pub overflow_add-start-in-Ok : goal.overflow_add-start-in-Ok
overflow_add-start-in-Ok c = omega (arith, near (goal.at.overflow_add-start-in-Ok c).After-counts_word)

pub overflow_mul-start : goal.overflow_mul-start
overflow_mul-start c = omega (arith, near (goal.at.overflow_mul-start c).After-counts_word)

pub overflow_cast-start : goal.overflow_cast-start
overflow_cast-start c = omega (arith, near (goal.at.overflow_cast-start c).After-counts_word)

pub overflow_mul-result : goal.overflow_mul-result
overflow_mul-result c = let b = text_refused_small _ _ _ _ _ (sym c.text_at.ensures ∙ c.in-Err.is) in omega arith

pub overflow_add-result : goal.overflow_add-result
overflow_add-result c = let b = text_refused_small _ _ _ _ _ (sym c.text_at.ensures ∙ c.in-Err.is) in omega arith

pub returns-in-Ok : goal.returns-in-Ok
returns-in-Ok c =
    text_done c.args.dim c.args.file.now c.args.place _ _ c.args.out.now _ (sym c.text_at.ensures ∙ c.in-Ok.is) c.counts_word.ensures c.if-out-lt15.false c.put_text.ensures

pub returns-in-Err : goal.returns-in-Err
returns-in-Err c =
    answered 15 _ _ c.args.out.now (ap (text_reply c.args.dim c.args.place) (sym c.text_at.ensures ∙ c.in-Err.is)) c.if-out-lt15.false
