-- Every refusal of an extent and of a point is small: its number and its detail can be taken apart again.
use Prim.Native.Nat.{ℕ}
use mathlib.Core.Path.{◌≡◌, refl}
use mathlib.Core.List.{List}
use Rattle.places.specs.Extents.{extent_answer}
use Rattle.places.proofs.Refusals.{extent_refused}
use Rattle.points_linkages.specs.Points.{point_of}
use Rattle.points_linkages.specs.declared.Point.TheVariants as points
use Rattle.points_linkages.proofs.Refusals.{point_refused}
use Rattle.answers.specs.Answers.{Small, SmallReply}
use Rattle.answers.proofs.Refusals.{place_small}
use Rattle.dgn_places.specs.ExtentPoint.{extent_reply, point_reply}
use Rattle.std.specs.Prelude.{Err, Ok, Result}
use Rattle.places.specs.declared.Extent.{Extent}
use Rattle.points_linkages.specs.declared.Point.{Point}
use Rattle.refusals.specs.Refusals.{refused_with}
use Rattle.refusals.specs.declared.Refusal.{Refusal}

module _ (dim : ℕ) (s : List ℕ) (at : ℕ) where
  pub extent_refused_small : (n p : ℕ) → extent_answer dim s at ≡ refused_with n p → Small n p
  extent_refused_small n p q = place_small dim s n p (extent_refused dim s at n p q)

  pub extent_small : SmallReply (extent_reply (extent_answer dim s at))
  extent_small = go (extent_answer dim s at) refl
    where
      go : (r : Result Extent Refusal) → extent_answer dim s at ≡ r → SmallReply (extent_reply r)
      go (Ok extent) q = tt
      go (Err refusal) q = extent_refused_small refusal.number refusal.place q

  pub point_refused_small : (k n p : ℕ) → point_of dim s at k ≡ refused_with n p → Small n p
  point_refused_small k n p q = place_small dim s n p (point_refused dim s at k n p q)

  pub point_small : (k : ℕ) → SmallReply (point_reply (point_of dim s at k))
  point_small k = go (point_of dim s at k) refl
    where
      go : (r : Result Point Refusal) → point_of dim s at k ≡ r → SmallReply (point_reply r)
      go (Ok (points.Flat x y)) q = tt
      go (Ok (points.Solid x y z)) q = tt
      go (Err refusal) q = point_refused_small k refusal.number refusal.place q
