-- By whether the bytes are odd in number; the byte behind them is the file's (`odd_there`).
use Prim.Native.Nat.{◌≤◌}
use native.Mathlib.Omega.{arith}
use Rattle.words.specs.Words.{words}
use Rattle.texts.proofs.Laws.{counts_early}
use Rattle.text_views.proofs.Bytes.{byte_below, odd_none, odd_there}
use Rattle.text_views.proofs.odd_at.Goals as goal
use Rattle.text_views.proofs.odd_at.Goals.{After-counts_word}

near : (c : After-counts_word) → c.counts_word.result ≤ 37
near c = let early = counts_early c.args.dim in let is = c.counts_word.ensures in omega arith

pub returns-then-n-eq0 : goal.returns-then-n-eq0
returns-then-n-eq0 c = odd_none c.args.dim (words c.args.file.now) c.args.at c.args.counts c.requires.1 c.if-n-eq0.true

pub overflow_add-first : goal.overflow_add-first
overflow_add-first c = omega (arith, near (goal.at.overflow_add-first c).After-counts_word)

pub overflow_add-first-2 : goal.overflow_add-first-2
overflow_add-first-2 c = omega (arith, near (goal.at.overflow_add-first-2 c).After-counts_word)

pub overflow_mul-first : goal.overflow_mul-first
overflow_mul-first c = omega (arith, near (goal.at.overflow_mul-first c).After-counts_word)

pub overflow_add-first-3 : goal.overflow_add-first-3
overflow_add-first-3 c = omega (arith, near (goal.at.overflow_add-first-3 c).After-counts_word)

pub overflow_cast-result : goal.overflow_cast-result
overflow_cast-result c = let b = byte_below _ _ _ _ c.byte.ensures in omega arith

pub returns : goal.returns
returns c =
    odd_there c.args.dim (words c.args.file.now) c.args.at c.args.counts c.requires.1 c.if-n-eq0.false _ _ (omega (arith, c.counts_word.ensures)) c.byte.ensures
