-- A piece of a wrong length is 1 (`not_lent`); what opening refuses is the call's refusal (`closed`); what it opens is what
-- `insert_opened` asks for.
use mathlib.Core.Path.{sym, ◌∙◌}
use Rattle.std.proofs.lemmas.Result.{err_from_is_err_and}
use Rattle.opening.proofs.OpenSession.{opened_ready, opened_refused}
use Rattle.opening.proofs.Steps.{closed, not_lent}
use Rattle.moving.proofs.insert.Goals as goal

pub returns-then-not-size_ok : goal.returns-then-not-size_ok
returns-then-not-size_ok c = rw c.refused.ensures (not_lent _ _ _ (sym (c.size_ok.ensures) ∙ c.if-not-size_ok.true))

pub insert_opened-requires : goal.insert_opened-requires
insert_opened-requires c =
    let o = opened_ready c.args.dim c.args.file.now c.args.used c.args.journal.now
    c.args.jused _ _ c.open_at.ensures _ c.in_ok-opened.was in
    record { fact = o.0; marker_value = o.1; piece_value = sym c.size_ok.ensures ∙ c.if-not-size_ok.false }

pub returns-in_err-opened : goal.returns-in_err-opened
returns-in_err-opened c =
    let p = err_from_is_err_and c.from_residual.result c.from_residual.ensures.1 in
    rw (p.1, p.2)
    (closed _ _ _ _ _ (sym c.size_ok.ensures ∙ c.if-not-size_ok.false)
    (opened_refused c.args.dim c.args.file.now c.args.used c.args.journal.now
    c.args.jused _ _ c.open_at.ensures _ c.in_err-opened.was))
