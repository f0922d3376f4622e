-- A negative number is none (`negative`), any other is its own size (`plain`).
use Rattle.write_answers.proofs.Numbers.{negative, plain, plain_cast}
use Rattle.write_answers.proofs.natural.Goals as goal

pub overflow_cast-result : goal.overflow_cast-result
overflow_cast-result c = plain_cast _ c.ranges.v c.if-v-lt0.false

pub returns-then-v-lt0 : goal.returns-then-v-lt0
returns-then-v-lt0 c = negative _ c.ranges.v c.if-v-lt0.true

pub returns-else-v-lt0 : goal.returns-else-v-lt0
returns-else-v-lt0 c = plain _ c.ranges.v c.if-v-lt0.false
