-- The number is below the least coordinate (`too_low`), or the second test decides (`not_low`).
use Rattle.ranges.proofs.Ranges.{too_low, not_low}
use Rattle.ranges.proofs.is_coordinate.Goals as goal

pub returns-then-v-ltminus2147483648 : goal.returns-then-v-ltminus2147483648
returns-then-v-ltminus2147483648 c = too_low _ c.ranges.v c.if-v-ltminus2147483648.true

pub returns : goal.returns
returns c = not_low _ c.ranges.v c.if-v-ltminus2147483648.false
