-- The index's 1, the file's refusal, the text's; else the used bytes and the elements up to the marker are lent to the rule.
use mathlib.Core.Path.{◌≡◌, sym, ap, ◌∙◌}
use Rattle.std.specs.Prelude.{Err}
use Rattle.std.proofs.lemmas.Result.{err_from_is_err_and}
use mathlib.Core.Bool.{true}
use native.Mathlib.Omega.{arith}
use lib.ListN.{length}
use lib.Seq.{length-take-le}
use Rattle.names.proofs.OneToOne.{pack_stored}
use Rattle.entries.specs.Entries.{entries_ok}
use Rattle.entries.proofs.Laws.{ok_within}
use Rattle.lookup.proofs.Calls.{marker_few, live_bad, live_file, live_text, live_words}
use Rattle.lookup.proofs.look_up.Goals as goal
use Rattle.lookup.proofs.look_up.Goals.{Else-not-entries_ok}

-- the used length is one of whole entries
used_ok : (c : Else-not-entries_ok) → entries_ok (length c.args.index.now) c.args.used ≡ true
used_ok c = sym c.entries_ok.ensures ∙ c.if-not-entries_ok.false

pub returns-then-not-entries_ok : goal.returns-then-not-entries_ok
returns-then-not-entries_ok c = ap Err c.from.ensures ∙ live_bad _ _ _ _ _ (sym c.entries_ok.ensures ∙ c.if-not-entries_ok.true)

pub slice_bounds-find_live-end : goal.slice_bounds-find_live-end
slice_bounds-find_live-end c =
    sym (length-take-le _ _ (ok_within _ _ (used_ok (goal.at.slice_bounds-find_live-end c).Else-not-entries_ok)))

pub overflow_mul-name : goal.overflow_mul-name
overflow_mul-name c = omega (arith, (pack_stored _ _ _ (sym c.pack.ensures ∙ c.in_ok-name.was)).first)

pub overflow_add-name : goal.overflow_add-name
overflow_add-name c =
    let s = pack_stored _ _ _ (sym c.pack.ensures ∙ c.in_ok-name.was) in
    omega (arith, s.first, s.second)

pub find_live-requires : goal.find_live-requires
find_live-requires c = marker_few _ _ _ _ _ (sym c.judge.ensures ∙ c.in_ok-accepted.was)

pub returns-in_err-accepted : goal.returns-in_err-accepted
returns-in_err-accepted c =
    let p = err_from_is_err_and c.from_residual.result c.from_residual.ensures.1 in
    p.1 ∙ ap Err p.2 ∙ live_file _ _ _ _ _ (used_ok (goal.at.returns-in_err-accepted c).Else-not-entries_ok)
    (sym c.judge.ensures ∙ c.in_err-accepted.was)

pub returns-in_err-name : goal.returns-in_err-name
returns-in_err-name c =
    let p = err_from_is_err_and c.from_residual-in_err-name.result c.from_residual-in_err-name.ensures.1 in
    p.1 ∙ ap Err p.2 ∙ live_text _ _ _ _ _ (used_ok (goal.at.returns-in_err-name c).Else-not-entries_ok)
    (sym c.judge.ensures ∙ c.in_ok-accepted.was) (sym c.pack.ensures ∙ c.in_err-name.was)

pub returns : goal.returns
returns c =
    live_words _ _ _ _ _ (used_ok (goal.at.returns c).Else-not-entries_ok) (sym c.judge.ensures ∙ c.in_ok-accepted.was)
    (sym c.pack.ensures ∙ c.in_ok-name.was) c.find_live.ensures
