-- Wrong lengths are 1 (`lengths_wrong`); else the piece is inserted with the room that the counts of cells leave, and all is completed by the index (`insert_done`).
use Prim.Native.Nat.{◌+◌, ◌/◌, ◌≤◌}
use mathlib.Core.Path.{refl, sym, ◌∙◌}
use native.Mathlib.Omega.{arith}
use lib.ListN.{length}
use lib.Seq.{length-take-le}
use Rattle.words.specs.Words.{Below}
use Rattle.words.proofs.Laws.{lent_below}
use Rattle.edits.specs.Calls.{insert_call}
use Rattle.opening.specs.Opening.{header_of}
use Rattle.indexed.proofs.Back.{sum_few}
use Rattle.indexed.proofs.Ways.{lengths_wrong}
use Rattle.indexed.proofs.Calls.{Lent, may_count, room_fits, finishes, insert_done}
use Rattle.indexed.proofs.insert.Goals as goal
use Rattle.indexed.proofs.insert.Goals.{Else-not-lent_ok}

-- what is lent, once the lengths are right
abbrev lent : Else-not-lent_ok → Lent
lent e =
    record {
      dim = e.args.dim;
      file = e.args.file.now;
      used = e.args.used;
      journal = e.args.journal.now;
      jused = e.args.jused;
      index = e.args.index.now;
      iused = e.args.iused;
      ok = sym e.lent_ok.ensures ∙ e.if-not-lent_ok.false;
      below = lent_below e.args.file.now e.slice_known-1.given;
      journal_below = lent_below e.args.journal.now e.type_inv.journal;
    }

piece_below : (e : Else-not-lent_ok) → Below 256 e.args.piece.now
piece_below e = lent_below e.args.piece.now e.type_inv.piece

pub returns-then-not-lent_ok : goal.returns-then-not-lent_ok
returns-then-not-lent_ok c = lengths_wrong _ _ _ _ _ _ _ (sym (c.lent_ok.ensures) ∙ c.if-not-lent_ok.true) _

pub cells_used-requires : goal.cells_used-requires
cells_used-requires c = (may_count (lent (goal.at.cells_used-requires c).Else-not-lent_ok)).used_within

-- the cells of the file and of the piece
pub overflow_add-cells_used : goal.overflow_add-cells_used
overflow_add-cells_used c =
    let sum : c.cells_used.result + c.count_cells-more.result ≤ 1048576 + (length c.args.piece.now / 2 + 1) =
    sum_few c.args.file.now c.args.used (may_count (lent (goal.at.overflow_add-cells_used c).Else-not-lent_ok)).small c.cells_used.result
    c.cells_used.ensures c.args.piece.now _ c.count_cells-more.result c.count_cells-more.ensures in
    omega arith

pub slice_bounds-insert-end : goal.slice_bounds-insert-end
slice_bounds-insert-end c =
    room_fits (lent (goal.at.slice_bounds-insert-end c).Else-not-lent_ok) (c.is_full-full.result) (c.pick-room.result) (c.pick-room.ensures)

pub slice_bounds-insert-end-2 : goal.slice_bounds-insert-end-2
slice_bounds-insert-end-2 c =
    sym (length-take-le _ _ (room_fits (lent (goal.at.slice_bounds-insert-end-2 c).Else-not-lent_ok) (c.is_full-full.result) (c.pick-room.result) (c.pick-room.ensures)))

pub finish-requires : goal.finish-requires
finish-requires c =
    finishes (lent (goal.at.finish-requires c).Else-not-lent_ok) (insert_call (header_of c.args.header) c.args.place c.args.piece.now) (piece_below (goal.at.finish-requires c).Else-not-lent_ok) (c.pick-room.result) _ _ _ (c.insert-answer.ensures)

pub returns : goal.returns
returns c =
    insert_done (lent (goal.at.returns c).Else-not-lent_ok) (c.cells_used.result + c.count_cells-more.result) (c.is_full-full.result) (c.is_full-full.ensures) (c.pick-room.result) (c.pick-room.ensures) _ _ _ _ _
    (c.finish.ensures) _ _ _ (piece_below (goal.at.returns c).Else-not-lent_ok) _ _ (c.cells_used.ensures) (c.count_cells-more.ensures) refl (c.insert-answer.ensures)
