-- Wrong lengths are 1 (`lengths_wrong`); else the extent is removed with the room that the counts of cells leave, and all is completed by the index (`remove_done`).
use mathlib.Core.Path.{sym, ◌∙◌}
use lib.Seq.{length-take-le}
use Rattle.words.proofs.Laws.{lent_below}
use Rattle.edits.specs.Calls.{remove_call}
use Rattle.indexed.proofs.Ways.{lengths_wrong}
use Rattle.indexed.proofs.Calls.{Lent, may_count, room_fits, finishes, remove_done}
use Rattle.indexed.proofs.remove.Goals as goal
use Rattle.indexed.proofs.remove.Goals.{Else-not-lent_ok}

-- what is lent, once the lengths are right
abbrev lent : Else-not-lent_ok → Lent
lent e =
    record {
      dim = e.args.dim;
      file = e.args.file.now;
      used = e.args.used;
      journal = e.args.journal.now;
      jused = e.args.jused;
      index = e.args.index.now;
      iused = e.args.iused;
      ok = sym e.lent_ok.ensures ∙ e.if-not-lent_ok.false;
      below = lent_below e.args.file.now e.slice_known-1.given;
      journal_below = lent_below e.args.journal.now e.type_inv.journal;
    }

pub returns-then-not-lent_ok : goal.returns-then-not-lent_ok
returns-then-not-lent_ok c = lengths_wrong _ _ _ _ _ _ _ (sym (c.lent_ok.ensures) ∙ c.if-not-lent_ok.true) _

pub cells_used-requires : goal.cells_used-requires
cells_used-requires c = (may_count (lent (goal.at.cells_used-requires c).Else-not-lent_ok)).used_within

pub cells_under-requires : goal.cells_under-requires
cells_under-requires c =
    (may_count (lent (goal.at.cells_under-requires c).Else-not-lent_ok)).used_within

pub slice_bounds-remove-end : goal.slice_bounds-remove-end
slice_bounds-remove-end c =
    room_fits (lent (goal.at.slice_bounds-remove-end c).Else-not-lent_ok) (c.is_full-full.result) (c.pick-room.result) (c.pick-room.ensures)

pub slice_bounds-remove-end-2 : goal.slice_bounds-remove-end-2
slice_bounds-remove-end-2 c =
    sym (length-take-le _ _ (room_fits (lent (goal.at.slice_bounds-remove-end-2 c).Else-not-lent_ok) (c.is_full-full.result) (c.pick-room.result) (c.pick-room.ensures)))

pub finish-requires : goal.finish-requires
finish-requires c =
    finishes (lent (goal.at.finish-requires c).Else-not-lent_ok) (remove_call c.args.place) tt (c.pick-room.result) _ _ _ (c.remove-answer.ensures)

pub returns : goal.returns
returns c =
    remove_done (lent (goal.at.returns c).Else-not-lent_ok) (c.saturating_sub-fewer.result) (c.is_full-full.result) (c.is_full-full.ensures) (c.pick-room.result) (c.pick-room.ensures) _ _ _ _ _ (c.finish.ensures) _ _ _
    (c.cells_used.ensures) (c.cells_under.ensures) (c.saturating_sub-fewer.ensures) (c.remove-answer.ensures)
