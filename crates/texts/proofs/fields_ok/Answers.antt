-- By the counts that are read. Where no text is there, they are 0.
use Prim.Native.Nat.{◌+◌}
use mathlib.Core.Path.{refl, sym}
use native.Mathlib.Omega.{arith}
use Rattle.words.proofs.Laws.{word_out}
use Rattle.texts.specs.Texts.{fields_ok, each_field_ok, counts_word}
use Rattle.texts.proofs.Laws.{counts_early}
use Rattle.texts.proofs.fields_ok.Goals as goal

pub returns-then-s-at : goal.returns-then-s-at
unfolding fields_ok each_field_ok
returns-then-s-at c = let a = c.args in sym (rw (word_out a.s.now (a.at + counts_word a.dim) (omega arith)) refl)

pub overflow_add-at : goal.overflow_add-at
overflow_add-at c = omega (arith, c.counts_word.ensures, counts_early c.args.dim)

pub returns : goal.returns
unfolding fields_ok
returns c = rw (c.word.ensures.is, c.counts_word.ensures) at c.counted_fields_ok.ensures
