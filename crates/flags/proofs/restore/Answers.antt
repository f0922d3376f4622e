-- The invariant `Restores`: the flags of the payload's words from i on, put from `here` on, are all of them put.
use native.Mathlib.Omega.{arith}
use Rattle.words.proofs.Laws.{length_words}
use Rattle.flags.proofs.Sixteens.{restores_begin, restores_turn, restores_end, restores_none}
use Rattle.flags.proofs.restore.Goals as goal

pub returns-then-used-end : goal.returns-then-used-end
returns-then-used-end c = restores_none _ _ _ _ c.if-used-end.true

pub loop-i-init : goal.loop-i-init
loop-i-init c = restores_begin _ _ _ _

pub exchange-old-requires : goal.exchange-old-requires
exchange-old-requires c = omega (arith, c.if-used-end.false, c.loop-i.invariant.long)

pub loop-i-preserved : goal.loop-i-preserved
loop-i-preserved c =
    let m = c.loop-i in
    let payload = c.args.payload.now in
    restores_turn _ _ _ _ m.used m.here m.i m.invariant (omega (arith, c.if-used-end.false, m.invariant.long)) (omega (arith, length_words payload, c.loop-i-test.true))
    c.word.result c.word.ensures.is c.exchange-old.result c.exchange-old.new.used c.exchange-old.ensures.flags c.exchange-old.ensures.bytes

pub shape_of-used : goal.shape_of-used
shape_of-used c = c.loop-i.invariant.long

pub returns : goal.returns
returns c =
    let m = c.loop-i in
    let payload = c.args.payload.now in
    restores_end _ _ _ _ m.used m.here m.i m.invariant (omega (arith, length_words payload, c.loop-i-test.false))
