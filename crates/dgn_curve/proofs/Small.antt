-- Every refusal of the call for an ellipse or an arc is small: its number and its detail can be taken apart again.
use Prim.Native.Nat.{ℕ}
use mathlib.Core.Path.{◌≡◌, refl}
use mathlib.Core.Bool.{Bool, true, false, cond}
use mathlib.Core.List.{List}
use native.Mathlib.Omega.{arith}
use lib.ListN.{length}
use lib.Dec.{leb}
use lib.Ieee.{Float}
use Rattle.std.specs.Prelude.{Err, Ok, Result}
use Rattle.kinds.specs.Kinds.{is_curve}
use Rattle.curve_views.specs.CurveViews.{curve_of}
use Rattle.curve_views.proofs.Promises.{curve_refused}
use Rattle.answers.specs.Answers.{Small, SmallReply, refuse}
use Rattle.answers.proofs.Refusals.{type_small}
use Rattle.curve_views.specs.declared.Curve.{Curve}
use Rattle.refusals.specs.Refusals.{refused_with}
use Rattle.refusals.specs.declared.Refusal.{Refusal}
use Rattle.dgn_curve.specs.CurveReplies.{curve_reply, with_floats}

module _ (dim : ℕ) (s : List ℕ) (at : ℕ) where
  pub curve_refused_small : (n p : ℕ) → curve_of dim s at ≡ refused_with n p → Small n p
  curve_refused_small n p q = type_small dim s at is_curve n p (curve_refused dim s at n p q)

  pub curve_reply_small : (floats : List Float) → SmallReply (with_floats (curve_reply (curve_of dim s at)) floats)
  curve_reply_small floats = room (leb 5 (length floats))
    where
      go : (c : Result Curve Refusal) → curve_of dim s at ≡ c → SmallReply (curve_reply c)
      go (Ok curve) q = tt
      go (Err refusal) q = curve_refused_small refusal.number refusal.place q

      room : (b : Bool) → SmallReply (cond b (curve_reply (curve_of dim s at)) (refuse 1 0))
      room true = go (curve_of dim s at) refl
      room false = (omega arith, omega arith, omega arith)
