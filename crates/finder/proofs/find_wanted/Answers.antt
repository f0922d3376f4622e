-- It answers `find_of`: by the text's words the search, else the file's refusal before the text's.
use mathlib.Core.Path.{sym, ap, ◌∙◌}
use Rattle.std.specs.Prelude.{Err}
use Rattle.std.proofs.lemmas.Result.{err_from_is_err_and}
use Rattle.finder.proofs.Looks.{find_search, file_refused, text_refused}
use Rattle.finder.proofs.find_wanted.Goals as goal

pub returns-in-Ok : goal.returns-in-Ok
returns-in-Ok c = c.search.ensures ∙ find_search _ _ _ _ _ _ (sym (c.pack.ensures) ∙ c.in-Ok.is)

pub returns-in_err-judge-in-Err : goal.returns-in_err-judge-in-Err
returns-in_err-judge-in-Err c =
    let p = err_from_is_err_and c.from_residual.result c.from_residual.ensures.1 in
    p.1 ∙ ap Err p.2 ∙ file_refused _ _ _ _ _ (sym c.judge.ensures ∙ c.in_err-judge-in-Err.was)

pub returns-in_ok-judge-in-Err : goal.returns-in_ok-judge-in-Err
returns-in_ok-judge-in-Err c =
    ap Err c.from.ensures ∙ text_refused _ _ _ _ _ _ (sym c.judge.ensures ∙ c.in_ok-judge-in-Err.was) (sym c.pack.ensures ∙ c.in-Err.is)
