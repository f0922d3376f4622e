-- The long less 2147483648 at 64 bits is its coordinate (`lowered_is`).
use mathlib.Core.Path.{ap, ◌∙◌}
use Rattle.ranges.specs.Ranges.{coordinate}
use Rattle.ranges.proofs.Ranges.{lowered_fits, lowered_is}
use Rattle.ranges.proofs.coordinate_at.Goals as goal

pub overflow_sub-result : goal.overflow_sub-result
overflow_sub-result c = lowered_fits _ c.long.ensures.small

pub returns : goal.returns
returns c = lowered_is _ c.long.ensures.small ∙ ap coordinate c.long.ensures.is
