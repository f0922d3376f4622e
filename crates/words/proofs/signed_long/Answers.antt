-- A long below 2147483648 is the number itself; any other, less 4294967296 at 64 bits, is its signed number (`read_high`).
use mathlib.Core.Path.{ap, ◌∙◌}
use Rattle.words.specs.Words.{signed}
use Rattle.words.proofs.Signed.{read_low, read_high, lowered_fits}
use Rattle.words.proofs.signed_long.Goals as goal

pub overflow_sub-result : goal.overflow_sub-result
overflow_sub-result c = lowered_fits _ c.if-n-lt2147483648.false c.long-n.ensures.small

pub returns-then-n-lt2147483648 : goal.returns-then-n-lt2147483648
returns-then-n-lt2147483648 c = read_low _ c.if-n-lt2147483648.true ∙ ap signed c.long-n.ensures.is

pub returns-else-n-lt2147483648 : goal.returns-else-n-lt2147483648
returns-else-n-lt2147483648 c = read_high _ c.if-n-lt2147483648.false c.long-n.ensures.small ∙ ap signed c.long-n.ensures.is
