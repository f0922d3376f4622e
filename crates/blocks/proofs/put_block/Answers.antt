-- The chunk, zeros and two words are a block (`put_done`).
use Rattle.std.proofs.Common.{sym, arith, length-take-le}
use Rattle.blocks.proofs.Turns.{put_done}
use Rattle.blocks.proofs.put_block.Goals as goal

pub slice_bounds-sum_words-end-2 : goal.slice_bounds-sum_words-end-2
slice_bounds-sum_words-end-2 c =
    sym (length-take-le 508 c.clear.new.s (omega (arith, c.clear.auto.s, c.copy_in.auto.s, c.requires.0)))

pub returns : goal.returns
returns c =
    put_done c.args.s.now c.args.c.now c.copy_in.new.s c.clear.new.s
    c.put_word.new.s _ _ _ c.requires.0 c.requires.1 c.copy_in.ensures c.clear.ensures
    c.sum_words.ensures c.wrapping_add_u16-t.ensures.value c.put_word.ensures
    c.put_word-2.ensures
