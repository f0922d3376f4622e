-- The invariant: the sum of the first i words (`sum_turn`).
use Rattle.std.proofs.Common.{◌<◌, length, refl, add-one, arith}
use Rattle.words.specs.Words.{words}
use Rattle.words.proofs.Laws.{length_words}
use Rattle.blocks.proofs.Turns.{sum_turn, sum_end}
use Rattle.blocks.proofs.sum_words.Goals as goal

pub loop-i-init : goal.loop-i-init
loop-i-init c = refl

pub overflow_cast-word : goal.overflow_cast-word
overflow_cast-word c = omega (arith, c.word.ensures.small)

pub loop-i-preserved : goal.loop-i-preserved
loop-i-preserved c =
    let more : c.loop-i.i < length (words c.args.b.now) = omega (arith, length_words c.args.b.now) in
    rw add-one (sum_turn (words c.args.b.now) c.loop-i.i _ _ _ more c.loop-i.invariant c.word.ensures.is c.wrapping_add_u16-t.ensures.value)

pub returns : goal.returns
returns c = sum_end c.args.b.now c.loop-i.i _ c.loop-i-test.false c.loop-i.invariant
