-- By the dimension; each long is what its call answers, and 0 where no word is left.
use Prim.Native.Nat.{ℕ, ◌+◌, ◌/◌, ◌≤◌}
use mathlib.Core.Path.{◌≡◌}
use mathlib.Core.List.{List}
use native.Mathlib.Omega.{arith}
use lib.ListN.{length}
use borrow.Author.Tests.{eq-eqb, ne_eqb}
use Rattle.words.specs.Words.{words, long_at}
use Rattle.words.proofs.Laws.{word_out}
use Rattle.turns.specs.Turns.{turn_at}
use Rattle.turns.proofs.turn_at.Goals as goal

-- beyond the slice every long is 0
none : (s : List ℕ) (i : ℕ) → length s / 2 ≤ i → long_at (words s) i ≡ 0
none s i h = rw (word_out s i h, word_out s (i + 1) (omega arith))

pub returns-then-dim-eq2 : goal.returns-then-dim-eq2
unfolding turn_at
returns-then-dim-eq2 c = rw (eq-eqb _ 2 c.if-dim-eq2.true, c.long-first.ensures.is)

pub returns-then-file-i : goal.returns-then-file-i
unfolding turn_at
returns-then-file-i c = let s = c.args.file.now in let i = c.args.i in rw (ne_eqb _ 2 c.if-dim-eq2.false, none s i (c.if-file-i.true), none s (i + 2) (omega arith), none s (i + 4) (omega arith), none s (i + 6) (omega arith))

pub returns : goal.returns
unfolding turn_at
returns c = rw (ne_eqb _ 2 c.if-dim-eq2.false, c.long-first.ensures.is, c.long.ensures.is, c.long-2.ensures.is, c.long-3.ensures.is)
