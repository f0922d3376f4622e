-- A slice that is too short leaves all; else the answer of each case and the buffer that building leaves.
use mathlib.Core.Path.{refl, ap, sym, ◌∙◌}
use native.Mathlib.Omega.{arith}
use borrow.Author.Tests.{lt-leb, le-leb}
use Rattle.answers.proofs.Laws.{too_short, answered}
use Rattle.dgn_index.specs.IndexNumbers.{index_reply}
use Rattle.dgn_index.proofs.Small.{built_small}
use Rattle.dgn_index.proofs.dgn_index.Goals as goal

pub returns-then-out-lt1 : goal.returns-then-out-lt1
returns-then-out-lt1 c = record { answer = too_short 1 _ _ (c.if-out-lt1.true); index_is = rw (lt-leb 1 _ (c.if-out-lt1.true)) refl }

pub overflow_mul-result : goal.overflow_mul-result
overflow_mul-result c =
    let b = built_small _ _ _ _ _ (sym (c.build.ensures.answer) ∙ c.in-Err.is) in omega arith

pub overflow_add-result : goal.overflow_add-result
overflow_add-result c =
    let b = built_small _ _ _ _ _ (sym (c.build.ensures.answer) ∙ c.in-Err.is) in omega arith

pub returns-in-Ok : goal.returns-in-Ok
returns-in-Ok c =
    record { answer = answered 1 _ _ (c.args.out.now) (ap index_reply (sym (c.build.ensures.answer) ∙ c.in-Ok.is)) (c.if-out-lt1.false); index_is = rw (le-leb 1 _ (c.if-out-lt1.false)) (c.build.ensures.bytes) }

pub returns-in-Err : goal.returns-in-Err
returns-in-Err c =
    record { answer = answered 1 _ _ (c.args.out.now) (ap index_reply (sym (c.build.ensures.answer) ∙ c.in-Err.is)) (c.if-out-lt1.false); index_is = rw (le-leb 1 _ (c.if-out-lt1.false)) (c.build.ensures.bytes) }
