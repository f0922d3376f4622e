-- The loop's invariant is a continuation: so many elements from `here` on are so many more from `at` on. The measure is the words left.
use Prim.Native.Nat.{suc, ◌+◌}
use mathlib.Core.Path.{◌≡◌, subst}
use native.Mathlib.Omega.{arith}
use Rattle.words.specs.Words.{words}
use Rattle.flags.proofs.Stores.{size_small}
use Rattle.flags.proofs.Turns.{Counts, count_end, count_turn, count_in, count_none}
use Rattle.flags.proofs.count.Goals as goal

pub returns-then-used-end : goal.returns-then-used-end
returns-then-used-end c = count_none c.args.used.now _ _ c.if-used-end.true

pub loop-here-init : goal.loop-here-init
loop-here-init c =
    (omega arith, λ m i. subst (Counts (words c.args.used.now) c.args.end c.args.at) (omega arith) i)

pub overflow_add-here : goal.overflow_add-here
overflow_add-here c =
    let s = c.args.used.now in
    omega (arith, c.size_at-here.ensures, size_small s c.loop-here.here c.type_inv.used, c.loop-here-test.true, c.if-used-end.false)

pub overflow_add-n : goal.overflow_add-n
overflow_add-n c = omega (arith, c.loop-here.invariant.0, c.loop-here-test.true, c.if-used-end.false)

pub loop-here-smaller : goal.loop-here-smaller
loop-here-smaller c = omega (arith, c.size_at-here.ensures, c.loop-here-test.true)

pub loop-here-preserved : goal.loop-here-preserved
loop-here-preserved c =
    let loop = c.loop-here in
    let ws = words c.args.used.now in
    let end = c.args.end in (
      omega (arith, loop.invariant.0, c.size_at-here.ensures),
      λ m i. subst (Counts ws end c.args.at) (omega arith)
          (loop.invariant.1 (suc m) (count_turn ws end loop.here m c.loop-here-test.true (subst (λ n. Counts ws end (loop.here + n) m) c.size_at-here.ensures i))),
    )

pub returns : goal.returns
returns c =
    let loop = c.loop-here in
    let s = c.args.used.now in
    let e : loop.n + 0 ≡ loop.n = omega arith in
    count_in s c.args.at c.args.end loop.n (omega (arith, c.if-used-end.false))
    (subst (Counts (words s) c.args.end c.args.at) e (loop.invariant.1 0 (count_end (words s) c.args.end loop.here (omega (arith, c.loop-here-test.false)))))
