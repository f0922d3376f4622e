-- The tests, one after the other (`on_top`, `on_inside`).
use mathlib.Core.Bool.{false≢true}
use native.Mathlib.Omega.{arith}
use Rattle.words.proofs.Laws.{lent_below}
use Rattle.headers.proofs.Laws.{size_small}
use Rattle.dgn_all_views.proofs.Puts.{on_top, on_inside}
use Rattle.dgn_all_views.proofs.goes_on.Goals as goal

pub returns-then-file-place : goal.returns-then-file-place
returns-then-file-place c = λ q. absurd (false≢true q)

pub returns-then-extent_words-size : goal.returns-then-extent_words-size
returns-then-extent_words-size c = λ q. absurd (false≢true q)

pub returns-then-depth-eq0 : goal.returns-then-depth-eq0
returns-then-depth-eq0 c =
    λ q. on_top c.args.file.now c.args.place c.args.depth c.args.end _
    c.if-file-place.false _ c.extent_words.ensures c.size_at-size.ensures
    c.if-extent_words-size.false c.if-depth-eq0.true

pub overflow_add-result : goal.overflow_add-result
overflow_add-result c =
    omega (
      arith,
      c.size_at-size.ensures,
      size_small c.args.file.now
          (lent_below c.args.file.now c.type_inv.file) c.args.place,
      c.if-file-place.false,
    )

pub returns : goal.returns
returns c =
    λ q. on_inside c.args.file.now c.args.place c.args.depth c.args.end _
    c.if-file-place.false _ c.extent_words.ensures c.size_at-size.ensures
    c.if-extent_words-size.false q
