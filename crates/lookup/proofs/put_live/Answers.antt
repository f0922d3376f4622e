-- By whether a live cell starts there.
use Rattle.lookup.proofs.put_live.Goals as goal

pub returns-then-is_live_cell : goal.returns-then-is_live_cell
returns-then-is_live_cell c = rw (← c.is_live_cell.ensures, c.if-is_live_cell.true)

pub returns-else-is_live_cell : goal.returns-else-is_live_cell
returns-else-is_live_cell c = rw (← c.is_live_cell.ensures, c.if-is_live_cell.false)
