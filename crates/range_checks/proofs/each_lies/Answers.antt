-- The loop's invariant: the points from number k on decide.
use Prim.Native.Nat.{◌+◌, ◌-◌, ◌*◌, ◌/◌}
use mathlib.Core.Path.{◌≡◌, refl, sym, ap₂, ◌∙◌}
use native.Mathlib.Omega.{arith}
use lib.ListN.{length}
use borrow.Author.Tests.{leb-true}
use Rattle.words.specs.Words.{words}
use Rattle.range_checks.specs.InRange.{point_words, each_lies}
use Rattle.range_checks.proofs.Laws.{words_few, words_more, each_first}
use Rattle.range_checks.proofs.each_lies.Goals as goal

pub overflow_mul-known : goal.overflow_mul-known
overflow_mul-known c = omega (arith, c.requires, rw (← c.point_words-stride.ensures) at (words_few c.args.dim c.args.n))

pub overflow_add-known : goal.overflow_add-known
overflow_add-known c = omega (arith, c.requires, rw (← c.point_words-stride.ensures) at (words_few c.args.dim c.args.n))

pub loop-k-init : goal.loop-k-init
loop-k-init c =
    let a = c.args in
    let none : a.n ≡ a.n - 0 = omega arith in
    let start : a.first ≡ a.first + point_words a.dim * 0 = omega arith in
    (λ k. rw c.point_words-stride.ensures at (leb-true (a.first + c.point_words-stride.result * a.n) (length a.file.now / 2) k), ap₂ (λ m q. each_lies m a.range a.dim (words a.file.now) q) none start)

pub returns-then-not-lies_at : goal.returns-then-not-lies_at
returns-then-not-lies_at c =
    let a = c.args in
    let first = each_first (a.n - c.loop-k.k) a.range a.dim (words a.file.now) (a.first + point_words a.dim * c.loop-k.k) (λ e. omega (arith, c.loop-k-test.true)) in
    sym (c.loop-k.invariant.1 ∙ first ∙ rw (sym (rw c.point_words-stride.ensures at c.lies_at.ensures) ∙ c.if-not-lies_at.true) refl)

pub loop-k-preserved : goal.loop-k-preserved
loop-k-preserved c =
    let a = c.args in
    let first = each_first (a.n - c.loop-k.k) a.range a.dim (words a.file.now) (a.first + point_words a.dim * c.loop-k.k) (λ e. omega (arith, c.loop-k-test.true)) in
    let left : a.n - c.loop-k.k - 1 ≡ a.n - (c.loop-k.k + 1) = omega arith in
    let next : a.first + point_words a.dim * c.loop-k.k + point_words a.dim ≡ a.first + point_words a.dim * (c.loop-k.k + 1) = grind (arith, words_more a.dim (c.loop-k.k + 1) (λ e. omega arith)) in
    (c.loop-k.invariant.0, c.loop-k.invariant.1 ∙ first ∙ rw (sym (rw c.point_words-stride.ensures at c.lies_at.ensures) ∙ c.if-not-lies_at.false) (ap₂ (λ m q. each_lies m a.range a.dim (words a.file.now) q) left next))
