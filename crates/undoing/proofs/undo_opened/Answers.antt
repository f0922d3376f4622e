-- An empty journal is 17 and a bad record 19; any other is the reversal of its kind, with the bounds that the record's words
-- have (Reversals, the laws `read-`).
use mathlib.Core.Path.{ap, ◌∙◌}
use mathlib.Core.Bool.{false}
use Prim.Native.Nat.{◌+◌, ◌*◌, ◌≤◌}
use lib.ListN.{length}
use Rattle.std.specs.Prelude.{Some}
use Rattle.std.proofs.lemmas.Result.{err_from_is_err_and}
use Rattle.refusals.proofs.Laws.{refusal_is}
use native.Mathlib.Omega.{arith}
use Rattle.undoing.specs.Undoing.{place_in}
use Rattle.undoing.proofs.Ways.{open_file}
use Rattle.opening.proofs.OpenSession.{journal_most}
use Rattle.undoing.proofs.Ways.{undo_nothing}
use Rattle.undoing.proofs.Reversals.{read_bad, read_flags, read_flag, read_name, read_renamed, read_inserted, read_within, read_even, read_removed}
use Rattle.undoing.proofs.undo_opened.Goals as goal
use Rattle.undoing.proofs.undo_opened.Goals.{In-Removed}

pub returns-then-jused-eq0 : goal.returns-then-jused-eq0
returns-then-jused-eq0 c = let o = c.requires.fact in rw c.refused.ensures (undo_nothing _ _ _ o.ready c.if-jused-eq0.true)

pub overflow_mul-count : goal.overflow_mul-count
overflow_mul-count c =
    omega (
      arith,
      read_flags _ _ _ _ _ c.requires.fact.ready c.if-jused-eq0.false false _ c.requires.last_read _ _ _
          (c.in_ok-record.ensures.ok_part ∙ ap Some c.in-Flag.is),
      journal_most c.requires.fact,
    )

pub overflow_add-before : goal.overflow_add-before
overflow_add-before c =
    omega (
      arith,
      read_flags _ _ _ _ _ c.requires.fact.ready c.if-jused-eq0.false false _ c.requires.last_read _ _ _
          (c.in_ok-record.ensures.ok_part ∙ ap Some c.in-Flag.is),
      journal_most c.requires.fact,
    )

pub slice_bounds-undo_flag-end : goal.slice_bounds-undo_flag-end
slice_bounds-undo_flag-end c =
    read_flags _ _ _ _ _ c.requires.fact.ready c.if-jused-eq0.false false _ c.requires.last_read _ _ _
    (c.in_ok-record.ensures.ok_part ∙ ap Some c.in-Flag.is)

pub undo_flag-requires : goal.undo_flag-requires
undo_flag-requires c = record {
  open_file = open_file c.args.dim c.args.file.now c.args.used c.args.journal.now c.args.jused _ _ _ (ap place_in (c.in_ok-record.ensures.ok_part ∙ ap Some c.in-Flag.is)) c.requires.fact;
  marker_value = c.requires.marker_value;
}

pub overflow_cast-first : goal.overflow_cast-first
overflow_cast-first c =
    record
    { fits = (read_name _ _ _ _ _ c.requires.fact.ready c.if-jused-eq0.false false _ c.requires.last_read _ _ _ _ (c.in_ok-record.ensures.ok_part ∙ ap Some c.in-Renamed.is)).0 }

pub overflow_cast-second : goal.overflow_cast-second
overflow_cast-second c =
    record
    { fits = (read_name _ _ _ _ _ c.requires.fact.ready c.if-jused-eq0.false false _ c.requires.last_read _ _ _ _ (c.in_ok-record.ensures.ok_part ∙ ap Some c.in-Renamed.is)).1 }

pub undo_renamed-requires : goal.undo_renamed-requires
undo_renamed-requires c =
    record {
      open_file = open_file c.args.dim c.args.file.now c.args.used c.args.journal.now c.args.jused _ _ _ (ap place_in (c.in_ok-record.ensures.ok_part ∙ ap Some c.in-Renamed.is)) c.requires.fact;
      marker_value = c.requires.marker_value;
    }

pub undo_inserted-requires : goal.undo_inserted-requires
undo_inserted-requires c =
    open_file c.args.dim c.args.file.now c.args.used c.args.journal.now
    c.args.jused _ _ _ (ap place_in (c.in_ok-record.ensures.ok_part ∙ ap Some c.in-Inserted.is)) c.requires.fact

-- the words that were removed stand in the journal
within : (c : In-Removed) → c.in-Removed.before + 2 * c.in-Removed.count ≤ length c.args.journal.now
within c =
    read_within _ _ _ _ _ c.requires.fact.ready c.if-jused-eq0.false false _ c.requires.last_read _ _ _ _ (c.in_ok-record.ensures.ok_part ∙ ap Some c.in-Removed.is)

pub overflow_mul-count-in-Removed : goal.overflow_mul-count-in-Removed
overflow_mul-count-in-Removed c = omega (arith, within (goal.at.overflow_mul-count-in-Removed c).In-Removed, journal_most c.requires.fact)

pub overflow_add-before-in-Removed : goal.overflow_add-before-in-Removed
overflow_add-before-in-Removed c = omega (arith, within (goal.at.overflow_add-before-in-Removed c).In-Removed, journal_most c.requires.fact)

pub slice_bounds-undo_removed-end : goal.slice_bounds-undo_removed-end
slice_bounds-undo_removed-end c = within (goal.at.slice_bounds-undo_removed-end c).In-Removed

pub undo_removed-requires : goal.undo_removed-requires
undo_removed-requires c = record {
  open_file = open_file c.args.dim c.args.file.now c.args.used c.args.journal.now c.args.jused _ _ _ (ap place_in (c.in_ok-record.ensures.ok_part ∙ ap Some c.in-Removed.is)) c.requires.fact;
  marker_value = c.requires.marker_value;
  piece_len = read_even _ _ _ _ _ c.requires.fact.ready c.if-jused-eq0.false false _ c.requires.last_read _ _ _ _ (c.in_ok-record.ensures.ok_part ∙ ap Some c.in-Removed.is);
}

pub returns-in_err-record : goal.returns-in_err-record
returns-in_err-record c =
    let p = err_from_is_err_and c.from_residual.result c.from_residual.ensures.1 in
    let none = c.in_err-record.ensures.ok_part in
    rw (p.1, p.2, refusal_is (rw none at c.in_err-record.ensures.value), c.refused-2.ensures)
    (read_bad _ _ _ _ _ c.requires.fact.ready c.if-jused-eq0.false c.args.full _ c.requires.last_read none)

pub returns-in-Flag : goal.returns-in-Flag
returns-in-Flag c =
    read_flag _ _ _ _ _ c.requires.fact.ready c.if-jused-eq0.false _ _ c.requires.last_read _ _ _
    (c.in_ok-record.ensures.ok_part ∙ ap Some c.in-Flag.is) _ _ c.undo_flag.ensures

pub returns-in-Renamed : goal.returns-in-Renamed
returns-in-Renamed c =
    read_renamed _ _ _ _ _ c.requires.fact.ready c.if-jused-eq0.false _ _ c.requires.last_read _ _ _ _
    (c.in_ok-record.ensures.ok_part ∙ ap Some c.in-Renamed.is) _ _ c.undo_renamed.ensures

pub returns-in-Inserted : goal.returns-in-Inserted
returns-in-Inserted c =
    read_inserted _ _ _ _ _ c.requires.fact.ready c.if-jused-eq0.false _ _ c.requires.last_read _ _ _
    (c.in_ok-record.ensures.ok_part ∙ ap Some c.in-Inserted.is) _ _ c.undo_inserted.ensures

pub returns-in-Removed : goal.returns-in-Removed
returns-in-Removed c =
    read_removed _ _ _ _ _ c.requires.fact.ready c.if-jused-eq0.false _ _ c.requires.last_read _ _ _ _
    (c.in_ok-record.ensures.ok_part ∙ ap Some c.in-Removed.is) _ _ c.undo_removed.ensures
