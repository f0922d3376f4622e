-- The second store of a word is made on what the first one left. From the length on no word is there (`put_long_out`).
use Prim.Native.Nat.{◌+◌, ◌%◌}
use mathlib.Core.Path.{sym, ap, ◌∙◌}
use native.Mathlib.Omega.{arith}
use Rattle.words.specs.Words.{put_word, put_long}
use Rattle.words.proofs.Laws.{put_long_out}
use Rattle.words.proofs.put_long.Goals as goal

pub returns-then-i-s : goal.returns-then-i-s
unfolding put_long
returns-then-i-s c =
    c.put_word-then-i-s.ensures ∙ ap (λ s. put_word s (c.args.i + 1) (c.args.v % 65536))
    c.put_word.ensures

pub returns-else-i-s : goal.returns-else-i-s
returns-else-i-s c = sym (put_long_out c.args.s.now _ _ (omega arith))
