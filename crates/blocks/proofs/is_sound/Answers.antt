-- A way out for each test.
use Rattle.blocks.proofs.Turns.{sound_size, sound_low, sound_high, sound_odd, sound_rest, sound_sum}
use Rattle.blocks.proofs.is_sound.Goals as goal

pub returns-then-b-ne512 : goal.returns-then-b-ne512
returns-then-b-ne512 c = sound_size _ _ _ c.if-b-ne512.true

pub returns-then-u-least : goal.returns-then-u-least
returns-then-u-least c = sound_low _ _ _ _ c.word-u.ensures.is c.if-u-least.true

pub returns-then-most-u : goal.returns-then-most-u
returns-then-most-u c = sound_high _ _ _ _ c.word-u.ensures.is c.if-most-u.true

pub returns-then-u-ne0 : goal.returns-then-u-ne0
returns-then-u-ne0 c = sound_odd _ _ _ _ c.word-u.ensures.is c.if-u-ne0.true

pub returns-then-not-all_zero : goal.returns-then-not-all_zero
returns-then-not-all_zero c =
    sound_rest _ _ _ _ _ c.word-u.ensures.is c.all_zero.ensures (c.if-not-all_zero.true)

pub returns : goal.returns
returns c =
    sound_sum _ _ _ _ _ _ c.if-b-ne512.false c.word-u.ensures.is c.if-u-least.false c.if-most-u.false c.if-u-ne0.false
    c.all_zero.ensures (c.if-not-all_zero.false) c.sum_words.ensures
