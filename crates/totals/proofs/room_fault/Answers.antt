-- The invariant: the search from here, with the depth left, answers what the search from the top does.
use Prim.Native.Nat.{◌+◌, ◌-◌}
use mathlib.Core.Path.{◌≡◌, sym, ap, ◌∙◌}
use native.Mathlib.Omega.{arith}
use Rattle.words.specs.Words.{words}
use Rattle.totals.specs.Totals.{room_from}
use Rattle.totals.proofs.Holders.{holder_around}
use Rattle.totals.proofs.Descent.{room_none, room_nowhere, room_itself, room_inside, room_fine, room_full, room_here, room_out}
use Rattle.totals.proofs.room_fault.Goals as goal

pub returns-then-file-header : goal.returns-then-file-header
returns-then-file-header c = sym (room_out _ _ _ c.if-file-header.true)

pub loop-init : goal.loop-init
loop-init c = room_here _ _ _ c.if-file-header.false

pub returns-in-Nowhere : goal.returns-in-Nowhere
returns-in-Nowhere c =
    sym (c.loop.invariant
    ∙ room_nowhere _ _ _ (9 - c.loop.counter) _ (omega (arith, c.loop-test.true)) (sym c.find_holder.ensures ∙ c.in-Nowhere.is))

pub returns-then-has_room : goal.returns-then-has_room
returns-then-has_room c =
    sym
    (c.loop.invariant ∙ room_itself _ _ _ (9 - c.loop.counter) _ (omega (arith, c.loop-test.true))
    (sym c.find_holder.ensures ∙ c.in-Itself.is) ∙ room_fine _ _ _ _
    (sym c.has_room.ensures ∙ c.if-has_room.true))

pub returns-in-Itself : goal.returns-in-Itself
returns-in-Itself c =
    sym
    (c.loop.invariant ∙ room_itself _ _ _ (9 - c.loop.counter) _ (omega (arith, c.loop-test.true))
    (sym c.find_holder.ensures ∙ c.in-Itself.is) ∙ room_full _ _ _ _
    (sym c.has_room.ensures ∙ c.if-has_room.false))

pub has_room-requires-in-Inside : goal.has_room-requires-in-Inside
has_room-requires-in-Inside c =
    let w = holder_around _ _ _ _ (sym c.in-Inside.is ∙ c.find_holder.ensures) in
    omega arith

pub loop-preserved : goal.loop-preserved
loop-preserved c =
    let less : 9 - c.loop.counter - 1 ≡ 9 - (c.loop.counter + 1) = omega arith in
    c.loop.invariant ∙ room_inside _ _ _ (9 - c.loop.counter) _ (omega (arith, c.loop-test.true)) _ _
    (sym c.find_holder.ensures ∙ c.in-Inside.is) ∙ room_fine _ _ _ _
    (sym c.has_room-in-Inside.ensures ∙ c.if-not-has_room.false)
    ∙ ap (λ left. room_from left c.args.n c.args.header c.in-Inside.inner (words c.args.file.now)) less

pub returns-then-not-has_room : goal.returns-then-not-has_room
returns-then-not-has_room c =
    sym
    (c.loop.invariant ∙ room_inside _ _ _ (9 - c.loop.counter) _ (omega (arith, c.loop-test.true)) _ _
    (sym c.find_holder.ensures ∙ c.in-Inside.is) ∙ room_full _ _ _ _
    (sym c.has_room-in-Inside.ensures ∙ c.if-not-has_room.true))

pub returns : goal.returns
returns c = sym (c.loop.invariant ∙ room_none _ _ _ _ _ (omega arith))
