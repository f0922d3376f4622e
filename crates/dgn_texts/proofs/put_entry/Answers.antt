-- The three numbers before the text's own, and these (`entry_put`); all fit their types.
use Prim.Native.Nat.{◌≤◌}
use mathlib.Core.Path.{ap, ◌∙◌}
use native.Mathlib.Omega.{arith}
use lib.IntN.{pos}
use lib.ListN.{length-set}
use mir.Syntax.{w64}
use mir.ValLaws.{to_z_pos}
use Rattle.words.specs.Words.{words}
use Rattle.kinds.specs.FirstWord.{deleted_of}
use Rattle.texts.proofs.Laws.{counts_early}
use Rattle.dgn_texts.proofs.Puts.{entry_put}
use Rattle.dgn_texts.proofs.put_entry.Goals as goal
use Rattle.dgn_texts.proofs.put_entry.Goals.{After-counts_word}

near : (c : After-counts_word) → c.counts_word.result ≤ 37
near c = let early = counts_early c.args.dim in let is = c.counts_word.ensures in omega arith

pub overflow_add-start : goal.overflow_add-start
overflow_add-start c = omega (arith, near (goal.at.overflow_add-start c).After-counts_word)

pub overflow_add-start-2 : goal.overflow_add-start-2
overflow_add-start-2 c = omega (arith, near (goal.at.overflow_add-start-2 c).After-counts_word)

pub overflow_mul-start : goal.overflow_mul-start
overflow_mul-start c = omega (arith, near (goal.at.overflow_mul-start c).After-counts_word)

pub bounds-numbers-from-2 : goal.bounds-numbers-from-2
bounds-numbers-from-2 c = simp length-set (omega arith)

pub bounds-numbers-from-3 : goal.bounds-numbers-from-3
bounds-numbers-from-3 c = simp length-set (omega arith)

pub overflow_cast-start : goal.overflow_cast-start
overflow_cast-start c = omega (arith, near (goal.at.overflow_cast-start c).After-counts_word)

pub shape_of-numbers : goal.shape_of-numbers
shape_of-numbers c = c.put_text.auto.out ∙ simp length-set

pub returns : goal.returns
returns c =
    entry_put c.args.dim (words c.args.file.now) c.args.place c.args.depth _ c.args.text c.args.numbers.now _ c.args.from _ _ _
    (to_z_pos w64 _ (omega (arith, c.requires)))
    (to_z_pos w64 _ (omega (arith, c.word.ensures.small)) ∙ ap (λ w. pos (deleted_of w)) c.word.ensures.is)
    (to_z_pos w64 _ (omega (arith, c.requires)))
    c.counts_word.ensures c.requires.1.1 c.put_text.ensures
