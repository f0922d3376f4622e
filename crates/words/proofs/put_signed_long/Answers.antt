-- The number that is cast to 32 bits without sign is the long of `v`: `v` itself (`plain`), or `v` raised by 4294967296
-- at 64 bits (`raised`).
use mathlib.Core.Path.{ap, ◌∙◌}
use lib.IntN.{nat_abs}
use Rattle.words.specs.Words.{put_long}
use Rattle.words.proofs.Signed.{cast_long, long_small, plain, widened, raised_fits, raised}
use Rattle.words.proofs.put_signed_long.Goals as goal

pub overflow_cast-v : goal.overflow_cast-v
overflow_cast-v c = widened _ c.ranges.v

pub overflow_add-v : goal.overflow_add-v
overflow_add-v c = raised_fits _ c.ranges.v c.if-v-lt0.true

pub overflow_cast-v-then-v-lt0 : goal.overflow_cast-v-then-v-lt0
overflow_cast-v-then-v-lt0 c = let f = c.ranges.v in cast_long _ _ (raised _ f c.if-v-lt0.true) (long_small _ f)

pub overflow_cast-v-else-v-lt0 : goal.overflow_cast-v-else-v-lt0
overflow_cast-v-else-v-lt0 c = let f = c.ranges.v in cast_long _ _ (plain _ f c.if-v-lt0.false) (long_small _ f)

pub returns-then-v-lt0 : goal.returns-then-v-lt0
returns-then-v-lt0 c =
    c.put_long.ensures ∙ ap (λ z. put_long c.args.s.now c.args.i (nat_abs z))
    (raised _ c.ranges.v c.if-v-lt0.true)

pub returns-else-v-lt0 : goal.returns-else-v-lt0
returns-else-v-lt0 c =
    c.put_long-else-v-lt0.ensures ∙ ap (λ z. put_long c.args.s.now c.args.i (nat_abs z))
    (plain _ c.ranges.v c.if-v-lt0.false)
