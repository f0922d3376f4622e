-- The loop's invariant: what the descent finds from the element at `here` on is what it finds from where it began.
use mathlib.Core.Path.{sym, ap, ◌∙◌}
use native.Mathlib.Omega.{arith}
use Rattle.words.specs.Words.{words}
use Rattle.words.proofs.Laws.{lent_below}
use Rattle.kinds.specs.Kinds.{is_header}
use Rattle.headers.proofs.Laws.{words_two, words_small, size_small}
use Rattle.places.proofs.Descent.{step_over, step_into, step_own, step_here, step_past}
use Rattle.places.proofs.descend.Goals as goal

pub loop-here-init : goal.loop-here-init
loop-here-init c = (omega arith, λ r i. i)

pub extent_words-requires : goal.extent_words-requires
extent_words-requires c = tt

pub overflow_add-end : goal.overflow_add-end
overflow_add-end c = let s = c.args.file.now in omega (arith, c.extent_words.ensures, words_small s (lent_below s c.type_inv.file) c.loop-here.here)

pub loop-here-smaller-then-end-place : goal.loop-here-smaller-then-end-place
loop-here-smaller-then-end-place c =
    omega (arith, c.extent_words.ensures, words_two (words c.args.file.now) c.loop-here.here)

pub loop-here-preserved-then-end-place : goal.loop-here-preserved-then-end-place
loop-here-preserved-then-end-place c = (omega arith, λ r i. c.loop-here.invariant.1 r (step_over _ _ _ _ _ _ c.extent_words.ensures r c.if-end-place.true i))

pub returns-then-not-is_header : goal.returns-then-not-is_header
returns-then-not-is_header c =
    c.loop-here.invariant.1 _
    (step_own _ _ _ _ _ _ c.extent_words.ensures c.loop-here-test.true c.if-end-place.false
    (ap is_header (sym c.type_at.ensures) ∙ sym c.is_header.ensures ∙ c.if-not-is_header.true))

pub overflow_add-depth : goal.overflow_add-depth
overflow_add-depth c = omega arith

pub overflow_add-here : goal.overflow_add-here
overflow_add-here c =
    let s = c.args.file.now in
    omega (
      arith,
      c.size_at-here.ensures,
      size_small s (lent_below s c.type_inv.file)
          c.loop-here.here,
    )

pub loop-here-smaller : goal.loop-here-smaller
loop-here-smaller c = omega (arith, c.size_at-here.ensures)

pub loop-here-preserved : goal.loop-here-preserved
loop-here-preserved c =
    let header = ap is_header (sym c.type_at.ensures) ∙ sym c.is_header.ensures ∙ c.if-not-is_header.false in (
      omega (arith, c.size_at-here.ensures),
      λ r i. c.loop-here.invariant.1 r
          (step_into _ _ _ _ _ _ c.extent_words.ensures c.loop-here-test.true c.if-end-place.false r _ c.size_at-here.ensures header i),
    )

pub extent_words-requires-then-here-place : goal.extent_words-requires-then-here-place
extent_words-requires-then-here-place c = tt

pub overflow_add-end-then-here-place : goal.overflow_add-end-then-here-place
overflow_add-end-then-here-place c =
    let s = c.args.file.now in
    omega (
      arith,
      c.extent_words-then-here-place.ensures,
      words_small s (lent_below s c.type_inv.file)
          c.loop-here.here,
    )

pub returns-then-here-place : goal.returns-then-here-place
returns-then-here-place c = c.loop-here.invariant.1 _ (step_here _ _ _ _ _ _ c.extent_words-then-here-place.ensures c.if-here-place.true)

pub returns : goal.returns
returns c = c.loop-here.invariant.1 _ (step_past _ _ _ _ _ (omega arith))
