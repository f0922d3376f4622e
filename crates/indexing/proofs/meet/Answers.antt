-- Stored where the type is a cell's.
use mathlib.Core.Path.{refl, sym, ◌∙◌}
use native.Mathlib.Omega.{arith}
use Rattle.indexing.proofs.meet.Goals as goal

pub returns-then-is_cell : goal.returns-then-is_cell
returns-then-is_cell c =
    let cell = sym c.is_cell.ensures ∙ c.if-is_cell.true in record { next = rw cell refl; entries = rw cell (c.put_entry.ensures.holds ∙ rw c.entry_at.ensures refl) }

pub returns : goal.returns
returns c =
    let cell = sym c.is_cell.ensures ∙ c.if-is_cell.false in
    record { next = rw cell (omega arith); entries = rw cell refl }
