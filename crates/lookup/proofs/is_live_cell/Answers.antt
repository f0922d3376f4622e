-- The flag is asked of a cell alone.
use Rattle.lookup.proofs.is_live_cell.Goals as goal

pub returns-then-is_cell : goal.returns-then-is_cell
returns-then-is_cell c = rw (← c.is_cell.ensures, c.if-is_cell.true) c.is_live.ensures

pub returns : goal.returns
returns c = rw (← c.is_cell.ensures, c.if-is_cell.false)
