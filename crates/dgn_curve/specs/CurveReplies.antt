-- The answer about an ellipse or an arc as numbers and floats. The library's own definitions decide it.
use Rattle.std.specs.Prelude.{ℕ, ◌≡◌, cond, List, [], length, leb, ℤ, Float, Err, Ok, Result}
use Rattle.curve_numbers.specs.Numbers.{curve_numbers, curve_floats}
use Rattle.answers.specs.Answers.{Reply, done, refuse, with_room, Replied}
use Rattle.answers.specs.Besides.{besides}
use Rattle.curve_views.specs.declared.Curve.{Curve}
use Rattle.refusals.specs.declared.Refusal.{Refusal}

-- its numbers
abbrev pub curve_reply : Result Curve Refusal → Reply ℤ
curve_reply (Ok curve) = done (curve_numbers curve)
curve_reply (Err refusal) = refuse refusal.number refusal.place

-- its floats; a refusal has none
abbrev pub given_floats : Result Curve Refusal → List Float
given_floats (Ok curve) = curve_floats curve
given_floats (Err refusal) = []

-- a slice of fewer than 5 floats is refused with 1 before all else, as one of fewer than 7 numbers
abbrev pub with_floats : Reply ℤ → List Float → Reply ℤ
with_floats r floats = cond (leb 5 (length floats)) r (refuse 1 0)

-- the answer, and the slice of floats, which takes them at its front where the call is done
pub record CurveReplied (c : Result Curve Refusal) (numbers : List ℤ) (floats : List Float) (n : ℕ) (numbers' : List ℤ) (floats' : List Float) : Type 0 where
  pub replied : Replied 7 (with_floats (curve_reply c) floats) numbers n numbers'
  pub given : floats' ≡ besides (with_room 7 (with_floats (curve_reply c) floats) numbers) (given_floats c) floats
