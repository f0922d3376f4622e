-- Below the low number (`too_low`), or the second test decides (`from_low`).
use Rattle.range_checks.proofs.Laws.{too_low, from_low}
use Rattle.range_checks.proofs.between.Goals as goal

pub returns-then-z-low : goal.returns-then-z-low
returns-then-z-low c = too_low _ _ _ c.ranges.low c.ranges.high c.ranges.z c.if-z-low.true

pub returns : goal.returns
returns c = from_low _ _ _ c.ranges.low c.ranges.high c.ranges.z c.if-z-low.false
