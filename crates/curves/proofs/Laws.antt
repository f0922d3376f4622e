-- Laws of the words of ellipses and arcs: where they stand, and that floats are judged one after another.
use Prim.Native.Nat.{ℕ, ◌+◌, ◌<◌, ◌≤◌}
use mathlib.Core.Path.{◌≡◌, refl, ap₂}
use mathlib.Core.List.{List, [], ◌∷◌}
use mathlib.Core.Bool.{Bool, true, false, cond, not, ◌&&◌, ◌||◌, and-true, and-eq-true_iff}
use native.Mathlib.Nat.{add_assoc, add-zero}
use native.Mathlib.Omega.{arith}
use lib.ListN.{length, get_or-eq_default}
use lib.Dec.{eqb, leb, ltb}
use borrow.Author.Tests.{leb-true, ltb-true}
use Rattle.words.specs.Words.{word_at}
use Rattle.dfloats.specs.FirstWord.{is_reserved}
use Rattle.curves.specs.Curves.{axes_word, origin_word, float_places, each_float_ok, floats_ok}

---- where the words stand

pub axes_early : (t : ℕ) → axes_word t ≤ 22
axes_early t = go (eqb t 15)
  where
    go : (b : Bool) → cond b 18 22 ≤ 22
    go true = omega arith
    go false = omega arith

pub origin_early : (dim t : ℕ) → origin_word dim t ≤ 38
origin_early dim t = let a = axes_early t in go (eqb dim 2)
  where
    go : (b : Bool) → axes_word t + 8 + cond b 2 8 ≤ 38
    go true = let a = axes_early t in omega arith
    go false = let a = axes_early t in omega arith

---- floats one after another

-- the floats of the two axes, of x and y, and of z
pub floats_are : (dim t : ℕ) (ws : List ℕ) (at : ℕ) →
    floats_ok dim t ws at
    ≡ (each_float_ok (0 ∷ 4 ∷ []) ws (at + axes_word t)
    && (each_float_ok (0 ∷ 4 ∷ []) ws (at + origin_word dim t) && (eqb dim 2 || not (is_reserved (word_at ws (at + origin_word dim t + 8))))))
unfolding floats_ok
floats_are dim t ws at =
    rw (
      add-zero (at + axes_word t),
      add-zero (at + origin_word dim t),
      ← (add_assoc at (axes_word t) 4),
      ← (add_assoc at (origin_word dim t) 4),
      add_assoc at (origin_word dim t) 8,
    )
    (go (eqb dim 2) (ok (at + axes_word t)) (ok (at + axes_word t + 4)) (ok (at + origin_word dim t)) (ok (at + origin_word dim t + 4)) (origin_word dim t + 8))
  where
    ok : ℕ → Bool
    ok i = not (is_reserved (word_at ws i))

    go : (flat a b x y : Bool) (k : ℕ) → (a && (b && (x && (y && each_float_ok (cond flat [] (k ∷ [])) ws at)))) ≡ ((a && (b && true)) && ((x && (y && true)) && (flat || ok (at + k))))
    go flat false b x y k = refl
    go flat true false x y k = refl
    go flat true true false y k = refl
    go flat true true true false k = refl
    go true true true true true k = refl
    go false true true true true k = and-true (ok (at + k))

-- words that are not there are no floats that are refused
pub each_beyond : (ks : List ℕ) (ws : List ℕ) (at : ℕ) → length ws ≤ at → each_float_ok ks ws at ≡ true
unfolding is_reserved
each_beyond [] ws at h = refl
each_beyond (k ∷ ks) ws at h = rw (get_or-eq_default ws 0 {n = at + k} (omega arith)) (each_beyond ks ws at h)

-- two floats, one behind the other
pub pair_is : (ws : List ℕ) (k : ℕ) → each_float_ok (0 ∷ 4 ∷ []) ws k ≡ (not (is_reserved (word_at ws k)) && not (is_reserved (word_at ws (k + 4))))
pair_is ws k = rw (add-zero k, and-true (not (is_reserved (word_at ws (k + 4)))))

---- floats of the same words

-- the places by whether it is an ellipse and whether the file is flat, and the end of the last float
abbrev places : Bool → Bool → List ℕ
places ellipse flat =
    let axes : ℕ = cond ellipse 18 22 in
    let origin = axes + 8 + cond flat 2 8 in
    axes ∷ (axes + 4) ∷ origin ∷ (origin + 4) ∷ cond flat [] ((origin + 8) ∷ [])

abbrev end : Bool → Bool → ℕ
end ellipse flat = cond ellipse 18 22 + 8 + cond flat 2 8 + cond flat 8 12

abbrev within : ℕ → List ℕ → Bool
within n [] = true
within n (k ∷ ks) = (leb 18 k && ltb k n) && within n ks

places_within : (ellipse flat : Bool) → within (end ellipse flat) (places ellipse flat) ≡ true
places_within true true = refl
places_within true false = refl
places_within false true = refl
places_within false false = refl

-- they begin from word 18 on, and end by the last word of the origin
pub floats_same : (dim t : ℕ) (ws vs : List ℕ) (at b : ℕ) →
    ((i : ℕ) → 18 ≤ i → i < origin_word dim t + cond (eqb dim 2) 8 12 → word_at ws (at + i) ≡ word_at vs (b + i)) → floats_ok dim t ws at ≡ floats_ok dim t vs b
unfolding floats_ok
floats_same dim t ws vs at b same = each (float_places dim t) (places_within (eqb t 15) (eqb dim 2))
  where
    each : (ks : List ℕ) → within (end (eqb t 15) (eqb dim 2)) ks ≡ true → each_float_ok ks ws at ≡ each_float_ok ks vs b
    each [] h = refl
    each (k ∷ ks) h =
        let n = end (eqb t 15) (eqb dim 2) in
        let both = (and-eq-true_iff (leb 18 k && ltb k n) (within n ks)).0 h in
        let here = (and-eq-true_iff (leb 18 k) (ltb k n)).0 both.0 in
        ap₂ (λ (w : ℕ) (c : Bool). not (is_reserved w) && c) (same k (leb-true 18 k here.0) (ltb-true k n here.1)) (each ks both.1)
