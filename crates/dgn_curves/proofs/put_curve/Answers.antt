-- Each way of the function; the numbers fit, and the places are in the slices.
use Prim.Native.Nat.{ℕ}
use lib.IntN.{pos}
use Rattle.kinds.specs.FirstWord.{deleted_of}
use mathlib.Core.Path.{ap, ◌∙◌}
use native.Mathlib.Omega.{arith}
use lib.ListN.{length-set}
use mir.Syntax.{w64}
use mir.ValLaws.{to_z_pos}
use Rattle.dgn_curves.proofs.Puts.{put_none, put_full, put_one}
use Rattle.dgn_curves.proofs.put_curve.Goals as goal

pub returns-in_default : goal.returns-in_default
returns-in_default c = let a = c.args in put_none a.curve a.at _ a.numbers.now a.floats.now a.used _ c.in_default.is

pub returns-then-numbers-first-lt9 : goal.returns-then-numbers-first-lt9
returns-then-numbers-first-lt9 c = let a = c.args in put_full a.curve a.at _ a.numbers.now a.floats.now a.used _ c.in-Ok.is (omega arith)

pub returns-then-floats-from-lt5 : goal.returns-then-floats-from-lt5
returns-then-floats-from-lt5 c = let a = c.args in put_full a.curve a.at _ a.numbers.now a.floats.now a.used _ c.in-Ok.is (omega arith)

pub bounds-numbers-first-2 : goal.bounds-numbers-first-2
bounds-numbers-first-2 c = simp length-set (omega arith)

pub shape_of-numbers : goal.shape_of-numbers
shape_of-numbers c = c.put_curve.auto.numbers ∙ simp length-set

pub shape_of-floats : goal.shape_of-floats
shape_of-floats c = c.put_curve.auto.floats

pub returns : goal.returns
returns c =
    let a = c.args in
    put_one a.curve a.at _ a.numbers.now a.floats.now a.used _ c.in-Ok.is c.if-numbers-first-lt9.false c.if-floats-from-lt5.false _ _ _ _
    (to_z_pos w64 _ (omega (arith, c.requires)))
    (to_z_pos w64 _ (omega arith) ∙ ap (λ (w : ℕ). pos (deleted_of w)) c.word.ensures.is) c.put_curve.ensures.0 c.put_curve.ensures.1
