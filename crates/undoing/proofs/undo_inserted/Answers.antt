-- Two ways to 19, nothing at the place or an element under another header; else the extent, which lies in the used file
-- (`in_inside`), goes out (Reversals).
use native.Mathlib.Omega.{arith}
use Rattle.words.proofs.Laws.{lent_below}
use Rattle.undoing.proofs.Reversals.{in_absent, in_refused, in_inside, in_done}
use Rattle.undoing.proofs.undo_inserted.Goals as goal

pub returns-then-number-ne0 : goal.returns-then-number-ne0
returns-then-number-ne0 c =
    rw c.refused-then-number-ne0.ensures
    (in_refused _ _ _ _ _ c.requires (lent_below c.args.file.now c.type_inv.file) _ _
    c.args.header _ _ _ _ c.in-Ok.is c.header_at.ensures _
    c.same_above-reverses.ensures _ c.back_fault-number.ensures c.if-number-ne0.true)

pub overflow_sub-n : goal.overflow_sub-n
overflow_sub-n c =
    omega (
      arith,
      (in_inside _ _ _ _ _ c.requires (lent_below c.args.file.now c.type_inv.file)
          c.args.full c.args.before _ _ _ c.in-Ok.is).0,
    )

pub overflow_mul-result : goal.overflow_mul-result
overflow_mul-result c =
    omega (
      arith,
      (in_inside _ _ _ _ _ c.requires
          (lent_below c.args.file.now c.slice_known-1.given) c.args.full c.args.before _ _ _
          c.in-Ok.is).1,
      c.ranges.used.fits,
    )

pub overflow_sub-result : goal.overflow_sub-result
overflow_sub-result c =
    omega (
      arith,
      (in_inside _ _ _ _ _ c.requires (lent_below c.args.file.now c.slice_known-1.given)
          c.args.full c.args.before _ _ _ c.in-Ok.is).1,
    )

pub returns-in_default : goal.returns-in_default
returns-in_default c =
    rw c.refused.ensures
    (in_absent _ _ _ _ _ c.requires (lent_below c.args.file.now c.type_inv.file) _ _
    c.args.header c.in_default.not-Ok)

pub returns : goal.returns
returns c =
    in_done _ _ _ _ _ c.requires (lent_below c.args.file.now c.slice_known-1.given) _ _
    c.args.header _ _ _ _ c.in-Ok.is c.header_at.ensures _
    c.same_above-reverses.ensures _ c.back_fault-number.ensures c.if-number-ne0.false _ c.remove_extent.ensures
