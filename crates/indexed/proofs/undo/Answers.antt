-- Wrong lengths are 1 (`lengths_wrong`); else the undo is told whether the index will fit (`fullness`), and completed by it (`undo_done`).
use mathlib.Core.Path.{sym, ◌∙◌}
use Rattle.words.proofs.Laws.{lent_below}
use Rattle.indexed.proofs.Ways.{lengths_wrong}
use Rattle.indexed.proofs.Calls.{Lent, may_count, undo_finishes, undo_done}
use Rattle.indexed.proofs.undo.Goals as goal
use Rattle.indexed.proofs.undo.Goals.{Else-not-lent_ok}

-- what is lent, once the lengths are right
abbrev lent : Else-not-lent_ok → Lent
lent e =
    record {
      dim = e.args.dim;
      file = e.args.file.now;
      used = e.args.used;
      journal = e.args.journal.now;
      jused = e.args.jused;
      index = e.args.index.now;
      iused = e.args.iused;
      ok = sym e.lent_ok.ensures ∙ e.if-not-lent_ok.false;
      below = lent_below e.args.file.now e.slice_known-1.given;
      journal_below = lent_below e.args.journal.now e.type_inv.journal;
    }

pub returns-then-not-lent_ok : goal.returns-then-not-lent_ok
returns-then-not-lent_ok c = lengths_wrong _ _ _ _ _ _ _ (sym (c.lent_ok.ensures) ∙ c.if-not-lent_ok.true) _

pub cells_back-requires : goal.cells_back-requires
cells_back-requires c = may_count (lent (goal.at.cells_back-requires c).Else-not-lent_ok)

pub finish-requires : goal.finish-requires
finish-requires c =
    undo_finishes (lent (goal.at.finish-requires c).Else-not-lent_ok) _ _ (c.cells_back.ensures) (c.is_full-full.ensures) _ _ (c.undo_within-answer.ensures)

pub returns : goal.returns
returns c =
    undo_done (lent (goal.at.returns c).Else-not-lent_ok) _ _ (c.cells_back.ensures) (c.is_full-full.ensures) _ _ (c.undo_within-answer.ensures) _ _ (c.finish.ensures)
