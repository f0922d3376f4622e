-- The points that the calls give are all points of the element, and their coordinates as longs are the words that they
-- were read of.
use Prim.Native.Nat.{ℕ, zero, suc, ◌+◌, ◌-◌, ◌*◌, ◌/◌, ◌≤◌, ◌<◌}
use mathlib.Core.Path.{◌≡◌, refl, sym, ap, ◌∙◌, subst}
use mathlib.Core.Bool.{Bool, true, false}
use mathlib.Core.List.{List, ◌++◌, map, map-append}
use native.Mathlib.Nat.{sub-zero, mul-suc}
use native.Mathlib.Numerals.{add-one}
use native.Mathlib.Omega.{arith}
use lib.ListN.{length, length-append, length-map}
use lib.IntN.{ℤ}
use lib.Dec.{ltb}
use borrow.Author.Tests.{ltb-true, ltb-false}
use Rattle.limits.specs.Limits.{dim_ok}
use Rattle.limits.proofs.Dimensions.{by_dims}
use Rattle.words.specs.Words.{words, Below, long_at, signed, unsigned}
use Rattle.words.proofs.Signed.{unsigned_signed}
use Rattle.places.specs.declared.Above.{Above}
use Rattle.places.specs.Places.{spotted_at}
use Rattle.points_linkages.specs.Points.{point_count, before_points, point_place, point_at, point_of}
use Rattle.points_linkages.specs.Coordinates.{coordinates, points_from}
use Rattle.points_linkages.proofs.Numbered.{point_there, point_none}
use Rattle.fields.specs.Words.{points_in}
use Rattle.places.specs.Spotted.{spotted_with}
use Rattle.refusals.specs.Refusals.{refused_with}
use Rattle.round_trips.specs.Parts.{GivesPoints}
use Rattle.round_trips.proofs.Spans.{LongsAt, longs_at_append, long_small}

module _ (dim : ℕ) (s : List ℕ) (at : ℕ) {end depth : ℕ} {above : Above} (found : spotted_at dim s at ≡ spotted_with end depth above) (d : dim_ok dim ≡ true) where
  ---- one point

  point_in : (k : ℕ) → k < point_count (words s) at → point_of dim s at k ≡ point_at dim (words s) (point_place dim (words s) at k)
  point_in k h = sym (point_there dim s at k end depth above found (point_count (words s) at) refl (before_points (words s) at) refl h)

  -- it has as many coordinates as the file has dimensions
  length_point : (q : ℕ) → length (coordinates (point_at dim (words s) q)) ≡ dim
  length_point q = by_dims (λ m. length (coordinates (point_at m (words s) q)) ≡ m) dim d refl refl

  pub length_in : (k : ℕ) → k < point_count (words s) at → length (coordinates (point_of dim s at k)) ≡ dim
  length_in k h = ap (λ x. length (coordinates x)) (point_in k h) ∙ length_point (point_place dim (words s) at k)

  point_longs : Below 65536 (words s) → (q : ℕ) → LongsAt (words s) q (map unsigned (coordinates (point_at dim (words s) q)))
  point_longs b q =
      let read : (p : ℕ) → unsigned (signed (long_at (words s) p)) ≡ long_at (words s) p = λ p. unsigned_signed (long_at (words s) p) (long_small (words s) b p) in
      by_dims (λ m. LongsAt (words s) q (map unsigned (coordinates (point_at m (words s) q)))) dim d
      (read q, (read (q + 2), tt))
      (read q, (read (q + 2), (read (q + 4) ∙ ap (long_at (words s)) (omega arith), tt)))

  ---- the points

  -- what the calls give is at most what the element has
  at_most : (n k : ℕ) → length (points_from n k dim s at) ≤ dim * (point_count (words s) at - k)
  unfolding points_from
  at_most zero k = omega arith
  at_most (suc n) k = go (ltb k (point_count (words s) at)) refl (at_most n (k + 1))
    where
      rest : List ℤ
      rest = points_from n (k + 1) dim s at

      go : (b : Bool) → ltb k (point_count (words s) at) ≡ b → length rest ≤ dim * (point_count (words s) at - (k + 1)) →
          length (coordinates (point_of dim s at k) ++ rest) ≤ dim * (point_count (words s) at - k)
      go true e h =
          let i = ltb-true k (point_count (words s) at) e in
          let l = length-append (coordinates (point_of dim s at k)) rest in
          let p = length_in k i in
          let j : point_count (words s) at - k ≡ suc (point_count (words s) at - (k + 1)) = omega arith in
          let m = ap (λ j. dim * j) j ∙ mul-suc dim (point_count (words s) at - (k + 1)) in
          omega arith
      go false e h =
          let i = ltb-false k (point_count (words s) at) e in
          let j : point_count (words s) at - (k + 1) ≡ point_count (words s) at - k = omega arith in
          rw (← point_none dim s at k end depth above found (point_count (words s) at) refl i, ← j) h

  -- and they are read one after another
  points_longs : Below 65536 (words s) → (n k : ℕ) → k + n ≤ point_count (words s) at →
      LongsAt (words s) (point_place dim (words s) at k) (map unsigned (points_from n k dim s at))
  unfolding points_from
  points_longs b zero k h = tt
  points_longs b (suc n) k h =
      let i : k < point_count (words s) at = omega arith in
      let q = point_place dim (words s) at k in
      let here = coordinates (point_of dim s at k) in
      let one : LongsAt (words s) (point_place dim (words s) at k) (map unsigned (coordinates (point_of dim s at k))) = rw (point_in k i) (point_longs b q) in
      let l = length-map here unsigned ∙ length_in k i in
      let m : 2 * dim * (k + 1) ≡ 2 * dim * k + 2 * dim = ap (λ j. 2 * dim * j) (add-one k) ∙ mul-suc (2 * dim) k in
      rw (map-append unsigned here (points_from n (k + 1) dim s at))
      (longs_at_append (words s) q (point_place dim (words s) at (k + 1)) (map unsigned here) (map unsigned (points_from n (k + 1) dim s at)) (omega arith) one
      (points_longs b n (k + 1) (omega arith)))

  module _ (points : List ℤ) (g : GivesPoints dim s at points) where
    -- a point that is there is no refusal
    no_refusal : (q : ℕ) → point_at dim (words s) q ≡ refused_with 13 0 → ⊥
    no_refusal q =
        by_dims (λ m. point_at m (words s) q ≡ refused_with 13 0 → ⊥) dim d
        (λ e. let z : ◌≡◌ {A = ℕ} 0 1 = cc in omega arith) (λ e. let z : ◌≡◌ {A = ℕ} 0 1 = cc in omega arith)

    not_fewer : point_count (words s) at ≤ points_in dim points
    not_fewer = go (ltb (points_in dim points) (point_count (words s) at)) refl
      where
        go : (b : Bool) → ltb (points_in dim points) (point_count (words s) at) ≡ b → point_count (words s) at ≤ points_in dim points
        go true e = absurd (no_refusal _ (sym (point_in (points_in dim points) (ltb-true (points_in dim points) (point_count (words s) at) e)) ∙ g.no_more))
        go false e = ltb-false (points_in dim points) (point_count (words s) at) e

    not_longer : length points ≤ dim * point_count (words s) at
    not_longer = let m = at_most (points_in dim points) 0 in let e = ap length g.all in let z = ap (λ n. dim * n) (sub-zero (point_count (words s) at)) in omega arith

    pub given_count : points_in dim points ≡ point_count (words s) at
    given_count =
        let n = not_fewer in
        let m : length points / dim ≤ point_count (words s) at =
        by_dims (λ m. length points ≤ m * point_count (words s) at → length points / m ≤ point_count (words s) at) dim d (λ h. omega arith) (λ h. omega arith) not_longer in
        omega arith

    pub given_length : length points ≡ dim * point_count (words s) at
    given_length =
        by_dims (λ m. length points ≤ m * point_count (words s) at → length points / m ≡ point_count (words s) at → length points ≡ m * point_count (words s) at) dim d
        (λ h e. omega arith) (λ h e. omega arith) not_longer given_count

    pub given_longs : Below 65536 (words s) → LongsAt (words s) (at + before_points (words s) at) (map unsigned points)
    given_longs b =
        let c = given_count in
        let z : point_place dim (words s) at 0 ≡ at + before_points (words s) at = omega arith in
        subst (λ l. LongsAt (words s) (at + before_points (words s) at) (map unsigned l)) g.all
        (subst (λ p. LongsAt (words s) p (map unsigned (points_from (points_in dim points) 0 dim s at))) z (points_longs b (points_in dim points) 0 (omega arith)))
