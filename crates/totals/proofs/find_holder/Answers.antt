-- The invariant: the search from here on answers what the search from the start does. Every extent has two words or more,
-- so the words up to the place fall.
use Prim.Native.Nat.{◌-◌}
use mathlib.Core.Path.{refl, sym, ◌∙◌}
use native.Mathlib.Omega.{arith}
use Rattle.words.specs.Words.{words}
use Rattle.headers.proofs.Laws.{words_two}
use Rattle.totals.proofs.Holders.{holder_past, holder_here, holder_beyond}
use Rattle.totals.proofs.find_holder.Goals as goal

pub loop-here-init : goal.loop-here-init
loop-here-init c = refl

pub returns-then-place-here : goal.returns-then-place-here
returns-then-place-here c = c.holder_at.ensures ∙ sym (holder_here _ _ _ (omega arith)) ∙ sym c.loop-here.invariant

pub loop-here-smaller : goal.loop-here-smaller
loop-here-smaller c =
    omega (arith, words_two (words c.args.file.now) c.loop-here.here)

pub loop-here-preserved : goal.loop-here-preserved
loop-here-preserved c = c.loop-here.invariant ∙ rw c.extent_words-extent.ensures (holder_past _ _ _ (omega arith))

pub returns : goal.returns
returns c = sym (c.loop-here.invariant ∙ holder_beyond _ _ _ c.loop-here-test.false)
