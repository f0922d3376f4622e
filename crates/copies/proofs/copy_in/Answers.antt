-- The invariant: the first k bytes of src stand at `at` (`copy_turn`); where a test fails nothing fits.
use mathlib.Core.Path.{refl, sym, ◌∙◌}
use native.Mathlib.Omega.{arith}
use native.Mathlib.Numerals.{add-one}
use lib.ListN.{length-set}
use lib.Seq.{take_all}
use Rattle.words.proofs.Over.{over_nil}
use Rattle.copies.proofs.Copies.{copy_turn, copied_fits, copied_not}
use Rattle.copies.proofs.copy_in.Goals as goal

pub returns-then-s-at : goal.returns-then-s-at
returns-then-s-at c = copied_not _ _ _ (λ h. omega arith)

pub returns-then-s-at-2 : goal.returns-then-s-at-2
returns-then-s-at-2 c = copied_not _ _ _ (λ h. omega arith)

pub loop-k-init : goal.loop-k-init
loop-k-init c = (refl, sym (over_nil _ _))

pub loop-k-preserved : goal.loop-k-preserved
loop-k-preserved c = (simp length-set (omega arith), rw add-one (copy_turn _ _ _ _ _ c.loop-k.invariant.1 c.loop-k-test.true (omega arith)))

pub returns : goal.returns
returns c = c.loop-k.invariant.1 ∙ rw (take_all _ _ c.loop-k-test.false) (sym (copied_fits _ _ _ (omega arith)))
