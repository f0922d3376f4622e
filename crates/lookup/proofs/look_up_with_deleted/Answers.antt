-- 1, then the text's refusal, else the used bytes are lent to the rule.
use mathlib.Core.Path.{◌≡◌, sym, ap, ◌∙◌}
use Rattle.std.specs.Prelude.{Err}
use Rattle.std.proofs.lemmas.Result.{err_from_is_err_and}
use mathlib.Core.Bool.{true}
use native.Mathlib.Omega.{arith}
use lib.ListN.{length}
use lib.Seq.{length-take-le}
use Rattle.names.proofs.OneToOne.{pack_stored}
use Rattle.entries.specs.Entries.{entries_ok}
use Rattle.entries.proofs.Laws.{ok_within}
use Rattle.lookup.proofs.Turns.{call_bad, call_text, call_in}
use Rattle.lookup.proofs.look_up_with_deleted.Goals as goal
use Rattle.lookup.proofs.look_up_with_deleted.Goals.{Else-not-entries_ok}

-- the used length is one of whole entries
used_ok : (c : Else-not-entries_ok) → entries_ok (length c.args.index.now) c.args.used ≡ true
used_ok c = sym c.entries_ok.ensures ∙ c.if-not-entries_ok.false

pub returns-then-not-entries_ok : goal.returns-then-not-entries_ok
returns-then-not-entries_ok c = ap Err c.from.ensures ∙ call_bad _ _ _ (sym c.entries_ok.ensures ∙ c.if-not-entries_ok.true)

pub slice_bounds-find-end : goal.slice_bounds-find-end
slice_bounds-find-end c = sym (length-take-le _ _ (ok_within _ _ (used_ok (goal.at.slice_bounds-find-end c).Else-not-entries_ok)))

pub overflow_mul-name : goal.overflow_mul-name
overflow_mul-name c = omega (arith, (pack_stored _ _ _ (sym c.pack.ensures ∙ c.in_ok-name.was)).first)

pub overflow_add-name : goal.overflow_add-name
overflow_add-name c =
    let s = pack_stored _ _ _ (sym c.pack.ensures ∙ c.in_ok-name.was) in
    omega (arith, s.first, s.second)

pub returns-in_err-name : goal.returns-in_err-name
returns-in_err-name c =
    let p = err_from_is_err_and c.from_residual.result c.from_residual.ensures.1 in
    p.1 ∙ ap Err p.2 ∙ call_text _ _ _ _ (used_ok (goal.at.returns-in_err-name c).Else-not-entries_ok) (sym c.pack.ensures ∙ c.in_err-name.was)

pub returns : goal.returns
returns c =
    c.find.ensures ∙ call_in _ _ _ _ _ (used_ok (goal.at.returns c).Else-not-entries_ok) (sym c.pack.ensures ∙ c.in_ok-name.was)
