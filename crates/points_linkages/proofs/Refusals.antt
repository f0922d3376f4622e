-- A point or a linkage by number is refused as judging refuses the file, or with 13 at 0.
use Prim.Native.Nat.{ℕ, ◌+◌}
use mathlib.Core.Path.{◌≡◌, refl, ap, ◌∙◌, subst}
use mathlib.Core.Logic.{inl, inr}
use mathlib.Core.Bool.{Bool, true, false, cond}
use mathlib.Core.List.{List, [], ◌∷◌}
use lib.Dec.{eqb, ltb}
use Rattle.words.specs.Words.{words, long_at, signed}
use Rattle.linkages.specs.Linkages.{linkage_in}
use Rattle.headers.specs.Header.{size_at, attribute_part_at}
use Rattle.elements.specs.Attributes.{has_attributes}
use Rattle.files.specs.Refused.{RefusedBy}
use Rattle.places.specs.Places.{spotted_at}
use Rattle.places.proofs.Refusals.{spotted_refused}
use Rattle.points_linkages.specs.declared.Point.TheVariants as point
use Rattle.points_linkages.specs.Points.{point_count, point_place, point_at, point_by, point_of}
use Rattle.points_linkages.specs.Linkages.{attribute_by, linkage_by, linkage_of}
use Rattle.std.specs.Prelude.{Err, None, Ok, Option, Result, Some}
use Rattle.linkages.specs.declared.Linkage.{Linkage}
use Rattle.places.specs.declared.Spotted.{Spotted}
use Rattle.points_linkages.specs.PointAnswers.{flat_point, solid_point}
use Rattle.points_linkages.specs.declared.Point.{Point}
use Rattle.refusals.specs.Refusals.{refused_with}
use Rattle.refusals.proofs.Laws.{refusal_is}
use Rattle.refusals.specs.declared.Refusal.{Refusal}

-- what holds of both holds of either
either : {A : Type 0} (P : A → Type 0) (b : Bool) (f g : A) → P f → P g → P (cond b f g)
either P true f g x y = x
either P false f g x y = y

---- of an element that is found, 13 at 0 alone

abbrev Point13 : Result Point Refusal → Type 0
Point13 (Ok (point.Flat x y)) = Unit {0}
Point13 (Ok (point.Solid x y z)) = Unit {0}
Point13 (Err refusal) = (refusal.number ≡ 13) × (refusal.place ≡ 0)

point_13 : (dim : ℕ) (ws : List ℕ) (at k : ℕ) → Point13 (cond (ltb k (point_count ws at)) (point_at dim ws (point_place dim ws at k)) (refused_with 13 0))
point_13 dim ws at k =
    let q = point_place dim ws at k in
    either Point13 (ltb k (point_count ws at)) (point_at dim ws q) (refused_with 13 0)
    (either Point13 (eqb dim 2) (flat_point (signed (long_at ws q)) (signed (long_at ws (q + 2))))
    (solid_point (signed (long_at ws q)) (signed (long_at ws (q + 2))) (signed (long_at ws (q + 4)))) tt tt)
    (refl, refl)

abbrev Attribute13 : Result Linkage Refusal → Type 0
Attribute13 (Ok linkage) = Unit {0}
Attribute13 (Err refusal) = (refusal.number ≡ 13) × (refusal.place ≡ 0)

attribute_13 : (l : Option Linkage) → Attribute13 (attribute_by l)
attribute_13 (Some linkage) = tt
attribute_13 None = (refl, refl)

---- the two calls

pub point_refused : (dim : ℕ) (s : List ℕ) (at k n p : ℕ) → point_of dim s at k ≡ refused_with n p → RefusedBy dim s (13 ∷ []) n p
unfolding point_of
point_refused dim s at k n p q = go (spotted_at dim s at) refl q
  where
    go : (r : Result Spotted Refusal) → spotted_at dim s at ≡ r → point_by r dim (words s) at k ≡ refused_with n p → RefusedBy dim s (13 ∷ []) n p
    go (Ok spot) h q = let x = subst Point13 q (point_13 dim (words s) at k) in inr (inl x.0, x.1)
    go (Err refusal) h q = spotted_refused dim s at n p (h ∙ ap Err (refusal_is q))

pub linkage_refused : (dim : ℕ) (s : List ℕ) (at k n p : ℕ) → linkage_of dim s at k ≡ refused_with n p → RefusedBy dim s (13 ∷ []) n p
unfolding linkage_of
linkage_refused dim s at k n p q = go (spotted_at dim s at) refl q
  where
    go : (r : Result Spotted Refusal) → spotted_at dim s at ≡ r → linkage_by r (words s) at k ≡ refused_with n p → RefusedBy dim s (13 ∷ []) n p
    go (Ok spot) h q =
        let ws = words s in
        let l = linkage_in ws (at + attribute_part_at ws at) (at + size_at ws at) k in
        let x = subst Attribute13 q (either Attribute13 (has_attributes ws at) (attribute_by l) (refused_with 13 0) (attribute_13 l) (refl, refl)) in
        inr (inl x.0, x.1)
    go (Err refusal) h q = spotted_refused dim s at n p (h ∙ ap Err (refusal_is q))
