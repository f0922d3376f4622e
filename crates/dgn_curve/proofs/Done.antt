-- The ways of the call: a slice is too short, a refusal, or the numbers and floats of an ellipse or an arc at the front of the slices.
use Prim.Native.Nat.{ℕ, ◌≤◌, ◌<◌}
use mathlib.Core.Path.{◌≡◌, refl, sym, ap, ◌∙◌}
use mathlib.Core.List.{List}
use lib.IntN.{ℤ}
use lib.ListN.{length}
use lib.Seq.{sets}
use lib.Ieee.{Float}
use borrow.Author.Tests.{le-leb, lt-leb}
use Rattle.std.specs.Prelude.{Err, Ok, Result}
use Rattle.curve_numbers.specs.Numbers.{curve_numbers, numbers_of, put_numbers, put_floats}
use Rattle.answers.specs.Answers.{Reply, done, refuse, returned, slice_left}
use Rattle.answers.specs.Besides.{besides}
use Rattle.answers.proofs.Laws.{too_short, answered}
use Rattle.answers.proofs.Besides.{besides_done, besides_short}
use Rattle.curve_views.specs.declared.Curve.{Curve}
use Rattle.refusals.specs.declared.Refusal.{Refusal}
use Rattle.refusals.specs.Refusals.{refused_with}
use Rattle.dgn_curve.specs.CurveReplies.{curve_reply, given_floats, with_floats, CurveReplied}

-- an answer that is no refusal
pub not_refused : (c : Result Curve Refusal) → ((n p : ℕ) → c ≡ refused_with n p → ⊥) → curve_reply c ≡ done (numbers_of c)
not_refused (Ok curve) o = refl
not_refused (Err refusal) o = absurd (o refusal.number refusal.place refl)

module _ (c : Result Curve Refusal) (numbers : List ℤ) (floats : List Float) where
  pub few_numbers : length numbers < 7 → CurveReplied c numbers floats 1 numbers floats
  few_numbers h =
      record { replied = too_short 7 (with_floats (curve_reply c) floats) numbers h; given = sym (besides_short 7 (with_floats (curve_reply c) floats) numbers (given_floats c) floats h) }

  known : (r : Reply ℤ) → with_floats (curve_reply c) floats ≡ r → 7 ≤ length numbers → CurveReplied c numbers floats (returned r) (slice_left r numbers) (besides r (given_floats c) floats)
  known r e h = record { replied = answered 7 _ r numbers e h; given = sym (besides_done 7 _ r numbers (given_floats c) floats e h) }

  pub few_floats : 7 ≤ length numbers → length floats < 5 → CurveReplied c numbers floats 1 numbers floats
  few_floats h l = known (refuse 1 0) (rw (lt-leb 5 (length floats) l) refl) h

  module _ (h : 7 ≤ length numbers) (l : 5 ≤ length floats) where
    pub replied_as : (r : Reply ℤ) → curve_reply c ≡ r → CurveReplied c numbers floats (returned r) (slice_left r numbers) (besides r (given_floats c) floats)
    replied_as r e = known r (rw (le-leb 5 (length floats) l) e) h

    -- the slices with its numbers and floats
    pub put_there : (curve : Curve) (numbers' : List ℤ) (floats' : List Float) → c ≡ Ok curve → numbers' ≡ put_numbers numbers 0 floats 0 (Ok curve) → floats' ≡ put_floats numbers 0 floats 0 (Ok curve) →
        CurveReplied c numbers floats 0 numbers' floats'
    unfolding put_numbers put_floats
    put_there curve numbers' floats' e p q =
        let a : numbers' ≡ sets numbers 0 (curve_numbers curve) = p ∙ rw (le-leb 7 (length numbers) h, le-leb 5 (length floats) l) refl in
        let b : floats' ≡ sets floats 0 (given_floats c) = q ∙ rw (le-leb 7 (length numbers) h, le-leb 5 (length floats) l, e) refl in
        rw (a, b) (replied_as (done (curve_numbers curve)) (ap curve_reply e))
