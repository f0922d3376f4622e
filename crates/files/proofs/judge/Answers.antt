-- `judge` answers `judge_of`: the top list is judged by the inner contract, with the file's words as its bound.
use mathlib.Core.Path.{sym, ◌∙◌}
use native.Mathlib.Omega.{arith}
use Rattle.std.proofs.lemmas.Result.{err_from_is_err_and}
use Rattle.files.proofs.Laws.{judge_call, judge_top}
use Rattle.files.proofs.judge.Goals as goal

pub judge_all-requires : goal.judge_all-requires
judge_all-requires c = omega arith

pub returns-then-not-call_ok : goal.returns-then-not-call_ok
returns-then-not-call_ok c = judge_call _ _ (sym c.call_ok.ensures ∙ c.if-not-call_ok.true)

pub returns-in_err-all : goal.returns-in_err-all
returns-in_err-all c =
    let p = err_from_is_err_and c.from_residual.result c.from_residual.ensures.1 in
    rw (p.1, p.2) (judge_top _ c.args.file.now _ (sym c.call_ok.ensures ∙ c.if-not-call_ok.false) c.in_err-all.ensures.is)

pub returns : goal.returns
returns c = judge_top _ c.args.file.now _ (sym c.call_ok.ensures ∙ c.if-not-call_ok.false) c.in_ok-all.ensures.is
