-- The two reads are the words of the long. From the length on no word is there, so both words are 0 (`word_out`).
use Prim.Native.Nat.{◌+◌}
use native.Mathlib.Omega.{arith}
use Rattle.words.proofs.Laws.{word_out}
use Rattle.words.proofs.long.Goals as goal

pub returns-then-i-s : goal.returns-then-i-s
returns-then-i-s c =
    record {
      is = omega (arith, c.word.ensures.is, c.word-then-i-s.ensures.is);
      small = omega (arith, c.word.ensures.small, c.word-then-i-s.ensures.small);
    }

pub returns-else-i-s : goal.returns-else-i-s
returns-else-i-s c =
    let s = c.args.s.now in
    let i = c.args.i in
    record {
      is = omega (arith, word_out s i (omega arith), word_out s (i + 1) (omega arith));
      small = omega arith;
    }
