-- The invariant `Marks`: what is put and packed from `here` on, behind the words so far, is all of it. The measure is the words left.
use mathlib.Core.Path.{ap}
use mathlib.Core.List.{[]}
use native.Mathlib.Omega.{arith}
use Rattle.flags.specs.declared.Sixteen.{Sixteen}
use Rattle.words.specs.Words.{words}
use Rattle.flags.proofs.Sixteens.{marks_begin, marks_turn, marks_end, marks_none, bits_small}
use Rattle.flags.proofs.Places.{behind_more}
use Rattle.flags.proofs.mark.Goals as goal

pub returns-then-used-end : goal.returns-then-used-end
returns-then-used-end c =
    let done = marks_none _ _ _ _ _ c.if-used-end.true in
    record { bytes = done.0; old = done.1 }

pub loop-here-init : goal.loop-here-init
loop-here-init c = marks_begin _ _ _ _ _

pub exchange-old-requires : goal.exchange-old-requires
exchange-old-requires c = omega (arith, c.if-used-end.false, c.loop-here.invariant.long)

pub overflow_cast-old : goal.overflow_cast-old
overflow_cast-old c =
    let m = c.loop-here in
    let small = bits_small m.used m.here c.args.end [] (omega (arith, c.if-used-end.false, m.invariant.long)) in
    omega (arith, ap (λ (r : Sixteen). r.bits) c.exchange-old.ensures.flags, small)

pub overflow_add-i : goal.overflow_add-i
overflow_add-i c =
    omega (arith, c.loop-here.invariant.few, c.loop-here-test.true, c.if-used-end.false)

pub loop-here-smaller : goal.loop-here-smaller
loop-here-smaller c =
    let m = c.loop-here in
    let more = behind_more 15 (words m.used) m.here _ c.loop-here-test.true in
    omega (arith, ap (λ (r : Sixteen). r.next) c.exchange-old.ensures.flags, more)

pub loop-here-preserved : goal.loop-here-preserved
loop-here-preserved c =
    let m = c.loop-here in
    marks_turn _ _ _ _ _ m.used m.out m.here m.i m.invariant (omega (arith, c.if-used-end.false, m.invariant.long)) c.loop-here-test.true
    _ c.pick-new.ensures c.exchange-old.result c.exchange-old.new.used c.put_word.new.s
    c.exchange-old.ensures.flags c.exchange-old.ensures.bytes c.put_word.ensures

pub shape_of-used : goal.shape_of-used
shape_of-used c = c.loop-here.invariant.long

pub shape_of-out : goal.shape_of-out
shape_of-out c = c.loop-here.invariant.out_long

pub returns : goal.returns
returns c =
    let m = c.loop-here in
    let done = marks_end _ _ _ _ _ m.used m.out m.here m.i m.invariant (omega (arith, c.if-used-end.false, m.invariant.long)) (omega (arith, c.loop-here-test.false)) in
    record { bytes = done.0; old = done.1 }
