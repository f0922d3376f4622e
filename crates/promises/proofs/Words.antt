-- The words of a part of bytes: those before it are dropped two by two, and those behind it are not taken.
use Prim.Native.Nat.{◌*◌}
use mathlib.Core.Path.{ap, ◌∙◌}
use lib.ListN.{take, drop}
use Rattle.words.proofs.Laws.{words_take, words_drop}
use Rattle.promises.specs.Words.{WordsPart}

pub words_part : WordsPart
words_part n at s = words_take n (drop (2 * at) s) ∙ ap (take n) (words_drop at s)
