-- A slice that is too short stays; any other takes the letters, and stays where the words are refused.
use native.Mathlib.Omega.{arith}
use mathlib.Core.Path.{sym, ap, ◌∙◌}
use Rattle.dgn_names.specs.PackUnpack.{unpack_reply}
use Rattle.answers.proofs.Laws.{too_short, answered}
use Rattle.dgn_names.proofs.Small.{unpack_refused_small}
use Rattle.dgn_names.proofs.dgn_unpack.Goals as goal

pub returns-then-text-lt7 : goal.returns-then-text-lt7
returns-then-text-lt7 c = too_short 7 _ (c.args.text.now) (c.if-text-lt7.true)

pub overflow_mul-result : goal.overflow_mul-result
overflow_mul-result c = let b = unpack_refused_small _ _ _ _ _ (sym c.unpack.ensures ∙ c.in-Err.is) in omega arith

pub overflow_add-result : goal.overflow_add-result
overflow_add-result c = let b = unpack_refused_small _ _ _ _ _ (sym c.unpack.ensures ∙ c.in-Err.is) in omega arith

pub returns : goal.returns
returns c =
    rw c.put_letters.ensures
    (answered 7 _ _ c.args.text.now (ap unpack_reply (sym c.unpack.ensures ∙ c.in-Ok.is)) c.if-text-lt7.false)

pub returns-in-Err : goal.returns-in-Err
returns-in-Err c =
    answered 7 _ _ c.args.text.now (ap unpack_reply (sym c.unpack.ensures ∙ c.in-Err.is)) c.if-text-lt7.false
