-- Signed longs put one behind another, and the numbers of one element.
use Prim.Native.Nat.{ℕ, zero, suc, ◌+◌, ◌-◌, ◌*◌, ◌≤◌, ◌<◌}
use mathlib.Core.Path.{◌≡◌, refl, sym, ap, ◌∙◌}
use mathlib.Core.List.{List, [], ◌∷◌, ◌++◌}
use native.Mathlib.Omega.{arith}
use lib.IntN.{ℤ, pos}
use lib.ListN.{length, set}
use lib.Seq.{sets}
use borrow.Author.Tests.{le-leb, lt-leb, ne_eqb}
use Rattle.words.specs.Words.{words, Below, long_at, signed}
use Rattle.answers.proofs.Besides.{put_then}
use Rattle.points_linkages.specs.Points.{point_count, before_points}
use Rattle.points_linkages.specs.Coordinates.{longs}
use Rattle.points_linkages.proofs.Coordinates.{length_longs}
use Rattle.points_linkages.proofs.Numbered.{count_small}
use Rattle.order.specs.Fitting.{in_numbers, ElementPut}
use Rattle.order.proofs.Fitting.{lays_numbers, nothing_put}
use Rattle.dgn_points.specs.Points.{point_numbers}
use Rattle.std.specs.Prelude.{None, Some}

---- signed longs

longs_more : (n : ℕ) (ws : List ℕ) (q : ℕ) → longs (suc n) ws q ≡ longs n ws q ++ (signed (long_at ws (q + 2 * n)) ∷ [])
longs_more zero ws q = ap (λ i. signed (long_at ws i) ∷ []) (omega arith)
longs_more (suc n) ws q =
    let z : q + 2 + 2 * n ≡ q + 2 * suc n = omega arith in
    ap (λ l. signed (long_at ws q) ∷ l) (longs_more n ws (q + 2) ∙ ap (λ i. longs n ws (q + 2) ++ (signed (long_at ws i) ∷ [])) z)

-- a turn of the loop that puts them
pub long_turn : (s t : List ℤ) (ws : List ℕ) (q from j : ℕ) (v : ℤ) → t ≡ sets s from (longs j ws q) → v ≡ signed (long_at ws (q + 2 * j)) →
    set t (from + j) v ≡ sets s from (longs (j + 1) ws q)
long_turn s t ws q from j v e f =
    let l = length_longs j ws q in
    let one : suc j ≡ j + 1 = omega arith in
    ap (λ u. set u (from + j) v) e
    ∙ ap (set (sets s from (longs j ws q)) (from + j)) f
    ∙ put_then s from (longs j ws q) (signed (long_at ws (q + 2 * j)) ∷ []) (from + j) (omega arith)
    ∙ ap (sets s from) (sym (longs_more j ws q) ∙ ap (λ i. longs i ws q) one)

---- the numbers of one element

-- they are few
pub numbers_few : (s : List ℕ) → Below 256 s → (dim at n : ℕ) → dim ≤ 3 → n ≡ point_count (words s) at → (n < 65536) × (n * dim ≤ 196608)
numbers_few s b dim at n h e =
    let c = count_small s b at in
    let m = go dim h in
    (omega arith, omega arith)
  where
    go : (d : ℕ) → d ≤ 3 → n * d ≤ 3 * n
    go zero l = omega arith
    go (suc zero) l = omega arith
    go (suc (suc zero)) l = omega arith
    go (suc (suc (suc zero))) l = omega arith
    go (suc (suc (suc (suc d)))) l = absurd (omega arith)

module _ (dim : ℕ) (ws : List ℕ) (at n : ℕ) (numbers : List ℤ) (used : ℕ) (count : n ≡ point_count ws at) where
  pub element_none : n ≡ 0 → ElementPut in_numbers (point_numbers dim ws at) numbers used (Some used) numbers
  unfolding point_numbers
  element_none z = rw (← count, z) (nothing_put in_numbers lays_numbers numbers used)

  long : length (longs (n * dim) ws (at + before_points ws at)) ≡ n * dim
  long = length_longs (n * dim) ws (at + before_points ws at)

  numbers_are : (n ≡ 0 → ⊥) → point_numbers dim ws at ≡ pos at ∷ pos n ∷ longs (n * dim) ws (at + before_points ws at)
  unfolding point_numbers
  numbers_are z = rw (← count, ne_eqb n 0 z) refl

  pub element_full : (n ≡ 0 → ⊥) → length numbers - used < 2 + n * dim → ElementPut in_numbers (point_numbers dim ws at) numbers used None numbers
  element_full z h = rw (numbers_are z)
      (let l = long in
      let no = lt-leb (suc (suc (length (longs (n * dim) ws (at + before_points ws at))))) (length numbers - used) (omega arith) in
      record { is = rw no refl; given = rw no refl })

  pub element_put : (n ≡ 0 → ⊥) → 2 + n * dim ≤ length numbers - used → (t : List ℤ) (b : ℕ) (first second : ℤ) → b ≡ before_points ws at → first ≡ pos at → second ≡ pos n →
      t ≡ sets (set (set numbers used first) (used + 1) second) (used + 2) (longs (n * dim) ws (at + b)) →
      ElementPut in_numbers (point_numbers dim ws at) numbers used (Some (used + 2 + n * dim)) t
  element_put z h t b first second e f g q = rw (numbers_are z)
      (let l = long in
      let yes = le-leb (suc (suc (length (longs (n * dim) ws (at + before_points ws at))))) (length numbers - used) (omega arith) in
      let one : used + 1 ≡ suc used = omega arith in
      let two : used + 2 ≡ suc (suc used) = omega arith in
      record { is = rw yes (ap Some (omega arith)); given = rw yes (rw (one, two, e, f, g) at q) })
