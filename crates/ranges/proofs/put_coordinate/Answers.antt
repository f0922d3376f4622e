-- The number raised by 2147483648 at 64 bits is the long that stands for it (`raised`).
use mathlib.Core.Path.{ap, ◌∙◌}
use lib.IntN.{nat_abs}
use Rattle.words.specs.Words.{put_long}
use Rattle.ranges.proofs.Ranges.{widened, raised_fits, raised_cast, raised}
use Rattle.ranges.proofs.put_coordinate.Goals as goal

pub overflow_cast-v : goal.overflow_cast-v
overflow_cast-v c = widened _ c.ranges.v

pub overflow_add-v : goal.overflow_add-v
overflow_add-v c = raised_fits _ c.ranges.v

pub overflow_cast-v-2 : goal.overflow_cast-v-2
overflow_cast-v-2 c = raised_cast _ c.ranges.v

pub returns : goal.returns
returns c =
    c.put_long.ensures ∙ ap (λ z. put_long c.args.s.now c.args.i (nat_abs z)) (raised _ c.ranges.v)
