-- The word that is read, raised or lowered, is stored in its place.
use Prim.Native.Nat.{◌%◌}
use mathlib.Core.Path.{ap, ◌∙◌}
use Rattle.words.specs.Words.{put_word}
use Rattle.edits.specs.Edits.{moved}
use Rattle.totals.specs.Totals.{word_moved}
use Rattle.totals.proofs.move_word.Goals as goal

pub returns : goal.returns
unfolding word_moved
returns c =
    let a = c.args in
    c.put_word.ensures ∙ ap (put_word a.file.now a.i)
    (c.moved_word.ensures ∙ ap (λ w. moved a.up a.n w % 65536) c.word-w.ensures.is)
