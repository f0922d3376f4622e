-- `lines::word_of` meets its contract: past the end of the slice there is no word, so it is 0.
use Prim.Native.Nat.{◌+◌}
use mathlib.Core.Path.{sym}
use native.Mathlib.Omega.{arith}
use Rattle.words.proofs.Laws.{word_out}
use Rattle.lines.proofs.word_of.Goals as goal

pub returns-else-at-file : goal.returns-else-at-file
returns-else-at-file c =
    record { is = sym (word_out c.args.file.now (c.args.at + c.args.k) (omega arith)); small = omega arith }
