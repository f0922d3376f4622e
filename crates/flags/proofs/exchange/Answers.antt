-- The invariant `Exchanges`: what is read and put from `here` on, behind the bits so far, is all of it.
use Prim.Native.Nat.{suc, ◌+◌, ◌-◌}
use mathlib.Core.Path.{◌≡◌, subst}
use native.Mathlib.Omega.{arith}
use Rattle.flags.proofs.Turns.{Exchanges, weight_small, product_small, exchange_begin, exchange_stop, exchange_end, exchange_turn}
use Rattle.flags.proofs.exchange.Goals as goal

pub loop-init : goal.loop-init
loop-init c = exchange_begin _ _ _ _

pub shape_of-used-then-end-here : goal.shape_of-used-then-end-here
shape_of-used-then-end-here c = c.loop.invariant.long

pub returns-then-end-here : goal.returns-then-end-here
returns-then-end-here c =
    let done = exchange_stop _ _ _ _ _ _ c.loop.rest _ c.loop.weight (16 - c.loop.counter) c.loop.invariant (omega (arith, c.if-end-here.true)) in
    record { flags = done.flags; bytes = done.bytes }

pub overflow_mul-bits : goal.overflow_mul-bits
overflow_mul-bits c =
    let m = c.loop in
    omega (arith, product_small m.weight c.word.result _ m.invariant.power c.word.ensures.small)

pub overflow_add-bits : goal.overflow_add-bits
overflow_add-bits c =
    let m = c.loop in
    omega (arith, product_small m.weight c.word.result _ m.invariant.power c.word.ensures.small, m.invariant.small, weight_small m.weight _ m.invariant.power)

pub overflow_add-here : goal.overflow_add-here
overflow_add-here c =
    omega (arith, c.if-end-here.false, c.loop.invariant.long)

pub overflow_add-next : goal.overflow_add-next
overflow_add-next c = omega (arith, c.word-in-loop.ensures.small)

pub overflow_add-next-in-loop : goal.overflow_add-next-in-loop
overflow_add-next-in-loop c =
    omega (arith, c.word-in-loop.ensures.small, c.if-end-here.false, c.loop.invariant.long)

pub overflow_mul-weight : goal.overflow_mul-weight
overflow_mul-weight c =
    let m = c.loop in
    omega (arith, weight_small m.weight _ m.invariant.power)

pub loop-preserved : goal.loop-preserved
loop-preserved c =
    let m = c.loop in
    let some : 16 - m.counter ≡ suc (16 - (m.counter + 1)) = omega (arith, c.loop-test.true) in
    let turn =
    exchange_turn _ _ _ _ m.used m.here m.rest m.bits m.weight c.word.result (16 - (m.counter + 1)) c.word.ensures.is c.word.ensures.small
    (omega (arith, c.if-end-here.false)) (subst (Exchanges _ _ _ _ m.used m.here m.rest m.bits m.weight) some m.invariant) in
    rw (c.put_flag.ensures, c.word-in-loop.ensures.is) turn

pub shape_of-used : goal.shape_of-used
shape_of-used c = c.loop.invariant.long

pub returns : goal.returns
returns c =
    let m = c.loop in
    let none : 16 - m.counter ≡ 0 = omega (arith, c.loop-test.false) in
    let done = exchange_end _ _ _ _ _ _ m.rest _ m.weight (subst (Exchanges _ _ _ _ m.used m.here m.rest m.bits m.weight) none m.invariant) in
    record { flags = done.flags; bytes = done.bytes }
