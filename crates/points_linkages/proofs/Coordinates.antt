-- Points one after another are signed longs one after another.
use Prim.Native.Nat.{ℕ, zero, suc, ◌+◌, ◌*◌, ◌≤◌, ◌<◌}
use mathlib.Core.Path.{◌≡◌, refl, ap, ◌∙◌}
use mathlib.Core.Bool.{true}
use mathlib.Core.List.{List, ◌∷◌, ◌++◌}
use native.Mathlib.Omega.{arith}
use lib.ListN.{length}
use Rattle.words.specs.Words.{words, long_at, signed}
use Rattle.limits.specs.Limits.{dim_ok}
use Rattle.limits.proofs.Dimensions.{by_dims}
use Rattle.points_linkages.specs.Points.{point_at, point_of}
use Rattle.points_linkages.specs.Coordinates.{coordinates, points_from, longs}

pub length_longs : (n : ℕ) (ws : List ℕ) (q : ℕ) → length (longs n ws q) ≡ n
length_longs zero ws q = refl
length_longs (suc n) ws q = ap suc (length_longs n ws (q + 2))

longs_join : (m n : ℕ) (ws : List ℕ) (q : ℕ) → longs m ws q ++ longs n ws (q + 2 * m) ≡ longs (m + n) ws q
longs_join zero n ws q =
    let a : q + 2 * 0 ≡ q = omega arith in
    let b : n ≡ 0 + n = omega arith in
    ap (longs n ws) a ∙ ap (λ k. longs k ws q) b
longs_join (suc m) n ws q =
    let a : q + 2 * suc m ≡ q + 2 + 2 * m = omega arith in
    let b : suc (m + n) ≡ suc m + n = omega arith in
    ap (λ k. signed (long_at ws q) ∷ (longs m ws (q + 2) ++ longs n ws k)) a
    ∙ ap (λ l. signed (long_at ws q) ∷ l) (longs_join m n ws (q + 2))
    ∙ ap (λ k. longs k ws q) b

-- a point's coordinates are as many longs as the file has dimensions
point_longs : (dim : ℕ) → dim_ok dim ≡ true → (ws : List ℕ) (q : ℕ) → coordinates (point_at dim ws q) ≡ longs dim ws q
point_longs dim d ws q =
    let e : q + 4 ≡ q + 2 + 2 = omega arith in
    by_dims (λ m. coordinates (point_at m ws q) ≡ longs m ws q) dim d refl (rw e refl)

module _ (dim : ℕ) (d : dim_ok dim ≡ true) (s : List ℕ) (at start count : ℕ)
    (each : (k : ℕ) → k < count → point_of dim s at k ≡ point_at dim (words s) (start + 2 * dim * k)) where
  pub points_longs : (n k : ℕ) → k + n ≤ count → points_from n k dim s at ≡ longs (dim * n) (words s) (start + 2 * dim * k)
  unfolding points_from
  points_longs zero k h =
      let e : 0 ≡ dim * 0 = by_dims (λ m. 0 ≡ m * 0) dim d (omega arith) (omega arith) in
      ap (λ m. longs m (words s) (start + 2 * dim * k)) e
  points_longs (suc n) k h =
      let q = start + 2 * dim * k in
      let next : start + 2 * dim * (k + 1) ≡ start + 2 * dim * k + 2 * dim =
      by_dims (λ m. start + 2 * m * (k + 1) ≡ start + 2 * m * k + 2 * m) dim d (omega arith) (omega arith) in
      let all : dim + dim * n ≡ dim * suc n = by_dims (λ m. m + m * n ≡ m * suc n) dim d (omega arith) (omega arith) in
      let first = ap coordinates (each k (omega arith)) ∙ point_longs dim d (words s) q in
      ap (λ l. l ++ points_from n (k + 1) dim s at) first
      ∙ ap (λ l. longs dim (words s) q ++ l) (points_longs n (k + 1) (omega arith) ∙ ap (longs (dim * n) (words s)) next)
      ∙ longs_join dim (dim * n) (words s) q
      ∙ ap (λ m. longs m (words s) q) all
