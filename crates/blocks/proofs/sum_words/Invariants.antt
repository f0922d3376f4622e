-- The invariant: the sum of the first i words (`sum_turn`).
use Rattle.std.proofs.Common.{◌≡◌, ◌%◌, take}
use Rattle.words.specs.Words.{words}
use Rattle.blocks.specs.Blocks.{sum}
use Rattle.blocks.proofs.sum_words.Given as goal

abbrev pub invariant-loop-i : goal.invariant-loop-i
invariant-loop-i l = l.t ≡ sum (take l.i (words l.b)) % 65536
