-- What the code reads is what the definitions say: a signed long keeps its value in a local, a point is its longs, and
-- of an element that is found the point or the linkage of a number is there or not.
use Prim.Native.Nat.{ℕ, ◌+◌, ◌*◌, ◌≤◌, ◌<◌}
use mathlib.Core.Path.{◌≡◌, refl, ap, ◌∙◌}
use mathlib.Core.Logic.{◌≢◌}
use mathlib.Core.Bool.{Bool, true, false, cond}
use mathlib.Core.List.{List}
use native.Mathlib.Omega.{arith}
use lib.IntN.{ℤ}
use lib.ListN.{length}
use lib.Dec.{eqb}
use borrow.Author.Tests.{eq-eqb, ne_eqb, lt-ltb, le-ltb}
use mir.Syntax.{w64}
use mir.Val.{to_z, of_z}
use mir.ValLaws.{to_z-of_z}
use Rattle.words.specs.Words.{words, Below, word_at, long_at, signed}
use Rattle.words.proofs.Laws.{word_out, words_below}
use Rattle.words.proofs.Signed.{signed_small}
use Rattle.linkages.specs.Linkages.{linkage_in}
use Rattle.headers.specs.Header.{type_at, size_at, points_at}
use Rattle.kinds.specs.Kinds.{is_pointed}
use Rattle.elements.specs.Attributes.{has_attributes}
use Rattle.limits.specs.Limits.{call_ok}
use Rattle.limits.proofs.Dimensions.{by_dims, call_dims}
use Rattle.places.specs.declared.Above.{Above}
use Rattle.places.specs.Places.{spotted_at}
use Rattle.points_linkages.specs.Points.{point_count, before_points, point_at, point_of}
use Rattle.points_linkages.specs.Linkages.{attribute_by, linkage_of}
use Rattle.places.specs.Spotted.{spotted_with}
use Rattle.points_linkages.specs.PointAnswers.{flat_point, solid_point}
use Rattle.refusals.specs.Refusals.{refused_with}

---- a point

-- a signed long that was read, as the machine holds it
pub kept : (s : List ℕ) → Below 256 s → (i : ℕ) (r : ℤ) → r ≡ signed (long_at (words s) i) → to_z w64 (of_z w64 r) ≡ signed (long_at (words s) i)
kept s b i r e =
    let h = words_below s b i in
    let l = words_below s b (i + 1) in
    let n : long_at (words s) i < 4294967296 = omega arith in
    ap (λ z. to_z w64 (of_z w64 z)) e ∙ to_z-of_z w64 _ (record { sfits = omega (arith, signed_small _ n) })

module _ (s : List ℕ) (b : Below 256 s) (dim q : ℕ) (x y : ℤ) (ex : x ≡ signed (long_at (words s) q)) (ey : y ≡ signed (long_at (words s) (q + 2))) where
  pub point_flat : dim ≡ 2 → flat_point (to_z w64 (of_z w64 x)) (to_z w64 (of_z w64 y)) ≡ point_at dim (words s) q
  point_flat e = rw (eq-eqb dim 2 e, kept s b q x ex, kept s b (q + 2) y ey)

  pub point_solid : dim ≢ 2 → (z : ℤ) → z ≡ signed (long_at (words s) (q + 4)) →
      solid_point (to_z w64 (of_z w64 x)) (to_z w64 (of_z w64 y)) (to_z w64 (of_z w64 z)) ≡ point_at dim (words s) q
  point_solid e z ez = rw (ne_eqb dim 2 e, kept s b q x ex, kept s b (q + 2) y ey, kept s b (q + 4) z ez)

---- by number

-- where no word stands there is no point
pub count_out : (s : List ℕ) (at : ℕ) → length s ≤ at → 0 ≡ point_count (words s) at
count_out s at h = rw (word_out s at (omega arith)) refl

pub count_small : (s : List ℕ) → Below 256 s → (at : ℕ) → point_count (words s) at < 65536
count_small s b at = go (eqb (type_at (words s) at) 3) (is_pointed (type_at (words s) at))
  where
    go : (l p : Bool) → cond l 2 (cond p (points_at (words s) at) 0) < 65536
    go true p = omega arith
    go false true = words_below s b (at + 18)
    go false false = omega arith

pub before_few : (ws : List ℕ) (at : ℕ) → before_points ws at ≤ 19
before_few ws at = go (eqb (type_at ws at) 3)
  where
    go : (b : Bool) → cond b 18 19 ≤ 19
    go true = omega arith
    go false = omega arith

-- a point of a file has four or six words
pub stride : (dim : ℕ) (s : List ℕ) → call_ok dim s ≡ true → (k : ℕ) → (2 * dim ≤ 6) × (2 * dim * k ≤ 6 * k)
stride dim s e k = by_dims (λ d. (2 * d ≤ 6) × (2 * d * k ≤ 6 * k)) dim (call_dims dim s e) (omega arith, omega arith) (omega arith, omega arith)

-- the numbers from which a point's place is computed are small
pub point_small : (s : List ℕ) → Below 256 s → (dim at k n b : ℕ) → call_ok dim s ≡ true → n ≡ point_count (words s) at → k < n → b ≡ before_points (words s) at →
    (b ≤ 19) × (2 * dim ≤ 6) × (2 * dim * k ≤ 393216)
point_small s l dim at k n b o e h f =
    let c = count_small s l at in
    let w = before_few (words s) at in
    let t = stride dim s o k in
    (omega arith, t.0, omega arith)

module _ (dim : ℕ) (s : List ℕ) (at k end depth : ℕ) (above : Above) (found : spotted_at dim s at ≡ spotted_with end depth above) where
  module _ (n : ℕ) (count : n ≡ point_count (words s) at) where
    pub point_there : (b : ℕ) → b ≡ before_points (words s) at → k < n → point_at dim (words s) (at + b + 2 * dim * k) ≡ point_of dim s at k
    unfolding point_of
    point_there b e h =
        rw (found, lt-ltb k (point_count (words s) at) (rw count at h)) (ap (λ m. point_at dim (words s) (at + m + 2 * dim * k)) e)

    pub point_none : n ≤ k → refused_with 13 0 ≡ point_of dim s at k
    unfolding point_of
    point_none h = rw (found, le-ltb k (point_count (words s) at) (rw count at h))

  pub linkage_there : has_attributes (words s) at ≡ true → (w z : ℕ) → w ≡ word_at (words s) (at + 15) → z ≡ size_at (words s) at →
      attribute_by (linkage_in (words s) (at + (16 + w)) (at + z) k) ≡ linkage_of dim s at k
  unfolding linkage_of
  linkage_there h w z e f = rw (found, h, e, f)

  pub linkage_none : has_attributes (words s) at ≡ false → refused_with 13 0 ≡ linkage_of dim s at k
  unfolding linkage_of
  linkage_none h = rw (found, h)
