-- The file's refusal, or the index of the cells up to its marker, which are the file's (`judged_put`).
use mathlib.Core.Path.{sym, ◌∙◌}
use Rattle.std.proofs.lemmas.Result.{err_from_is_err_and}
use Rattle.indexing.proofs.Puts.{judged_refused, judged_put}
use Rattle.indexing.proofs.build.Goals as goal

pub returns-in_err-accepted : goal.returns-in_err-accepted
returns-in_err-accepted c =
    let p = err_from_is_err_and c.from_residual.result c.from_residual.ensures.1 in
    rw (p.1, p.2) (judged_refused _ _ _ _ (sym c.judge.ensures ∙ c.in_err-accepted.was))

pub returns : goal.returns
returns c =
    judged_put _ _ _ _ _ _ _ _ (sym c.judge.ensures ∙ c.in_ok-accepted.was) c.put_index.ensures _ c.ok_or.ensures.value
