-- The six tests are the definition's, in its order: one that fails makes the conjunction false (`and_no`), one that passes leaves the
-- rest (`and_on`).
use Prim.Native.Nat.{◌<◌}
use mathlib.Core.Path.{◌≡◌, sym, ◌∙◌}
use mathlib.Core.Bool.{Bool, true, false}
use native.Mathlib.Omega.{arith}
use lib.IntN.{ℤ}
use lib.Signed.{mag}
use mir.Syntax.{w64}
use mir.Val.{to_z, of_z}
use Rattle.ranges.specs.Ranges.{is_coordinate}
use Rattle.ranges.proofs.Ranges.{tested}
use Rattle.fields.proofs.Bounds.{and_no, and_on, and_last}
use Rattle.fields.proofs.range_ok.Goals as goal

-- what each test says of its field
no : (z : ℤ) → mag z < 9223372036854775808 → {r : Bool} → r ≡ is_coordinate (to_z w64 (of_z w64 z)) → r ≡ false → is_coordinate z ≡ false
no z h e t = sym (tested z h e) ∙ t

yes : (z : ℤ) → mag z < 9223372036854775808 → {r : Bool} → r ≡ is_coordinate (to_z w64 (of_z w64 z)) → r ≡ true → is_coordinate z ≡ true
yes z h e t = sym (tested z h e) ∙ t

pub returns-then-not-is_coordinate : goal.returns-then-not-is_coordinate
returns-then-not-is_coordinate c =
    let f = c.args.fields in
    and_no _ (no f.low_x (omega arith) c.is_coordinate.ensures c.if-not-is_coordinate.true)

pub returns-then-not-is_coordinate-2 : goal.returns-then-not-is_coordinate-2
returns-then-not-is_coordinate-2 c =
    let f = c.args.fields in
    and_on (yes f.low_x (omega arith) c.is_coordinate.ensures c.if-not-is_coordinate.false)
    (and_no _ (no f.low_y (omega arith) c.is_coordinate-2.ensures c.if-not-is_coordinate-2.true))

pub returns-then-not-is_coordinate-3 : goal.returns-then-not-is_coordinate-3
returns-then-not-is_coordinate-3 c =
    let f = c.args.fields in
    and_on (yes f.low_x (omega arith) c.is_coordinate.ensures c.if-not-is_coordinate.false)
    (and_on (yes f.low_y (omega arith) c.is_coordinate-2.ensures c.if-not-is_coordinate-2.false)
    (and_no _ (no f.low_z (omega arith) c.is_coordinate-3.ensures c.if-not-is_coordinate-3.true)))

pub returns-then-not-is_coordinate-4 : goal.returns-then-not-is_coordinate-4
returns-then-not-is_coordinate-4 c =
    let f = c.args.fields in
    and_on (yes f.low_x (omega arith) c.is_coordinate.ensures c.if-not-is_coordinate.false)
    (and_on (yes f.low_y (omega arith) c.is_coordinate-2.ensures c.if-not-is_coordinate-2.false)
    (and_on (yes f.low_z (omega arith) c.is_coordinate-3.ensures c.if-not-is_coordinate-3.false)
    (and_no _ (no f.high_x (omega arith) c.is_coordinate-4.ensures c.if-not-is_coordinate-4.true))))

pub returns-then-not-is_coordinate-5 : goal.returns-then-not-is_coordinate-5
returns-then-not-is_coordinate-5 c =
    let f = c.args.fields in
    and_on (yes f.low_x (omega arith) c.is_coordinate.ensures c.if-not-is_coordinate.false)
    (and_on (yes f.low_y (omega arith) c.is_coordinate-2.ensures c.if-not-is_coordinate-2.false)
    (and_on (yes f.low_z (omega arith) c.is_coordinate-3.ensures c.if-not-is_coordinate-3.false)
    (and_on (yes f.high_x (omega arith) c.is_coordinate-4.ensures c.if-not-is_coordinate-4.false)
    (and_no _ (no f.high_y (omega arith) c.is_coordinate-5.ensures c.if-not-is_coordinate-5.true)))))

pub returns : goal.returns
returns c =
    let f = c.args.fields in
    and_on (yes f.low_x (omega arith) c.is_coordinate.ensures c.if-not-is_coordinate.false)
    (and_on (yes f.low_y (omega arith) c.is_coordinate-2.ensures c.if-not-is_coordinate-2.false)
    (and_on (yes f.low_z (omega arith) c.is_coordinate-3.ensures c.if-not-is_coordinate-3.false)
    (and_on (yes f.high_x (omega arith) c.is_coordinate-4.ensures c.if-not-is_coordinate-4.false)
    (and_on (yes f.high_y (omega arith) c.is_coordinate-5.ensures c.if-not-is_coordinate-5.false)
    (tested f.high_z (omega arith) c.is_coordinate-6.ensures ∙ and_last _)))))
