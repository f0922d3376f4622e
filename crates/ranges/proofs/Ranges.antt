-- A range's longs and the coordinates stand for each other, in the same order. The last parts say that what the machine computes at 64
-- bits is this reading.
use Prim.Native.Nat.{ℕ, suc, ◌+◌, ◌-◌, ◌/◌, ◌%◌, ◌≤◌, ◌<◌}
use mathlib.Core.Path.{◌≡◌, refl, sym, ap, ◌∙◌, subst}
use mathlib.Core.List.{List}
use mathlib.Core.Bool.{Bool, true, false, false≢true}
use native.Mathlib.Omega.{arith}
use lib.ListN.{length}
use lib.Dec.{T, ltb}
use lib.IntN.{ℤ, pos, negsuc, nat_abs, ◌+ℤ◌, ◌-ℤ◌}
use lib.Signed.{mag, non_neg, lt_z}
use borrow.Author.Tests.{lt-ltb, le-ltb, ltb-true, ltb-false}
use mir.Syntax.{w32, w64}
use mir.Val.{Fits, SFits, to_z, of_z}
use mir.ValLaws.{to_z_pos, to_z-of_z}
use Rattle.words.specs.Words.{words, Below, long_at, signed_by, signed, put_long}
use Rattle.words.proofs.Laws.{long_put, words_below}
use Rattle.words.proofs.Signed.{cast_long}
use Rattle.ranges.specs.Ranges.{coordinate, stored, is_coordinate}

---- longs and coordinates

pub coordinate_low : (n : ℕ) → n < 2147483648 → coordinate n ≡ negsuc (2147483647 - n)
unfolding coordinate
coordinate_low n h = rw (lt-ltb n 2147483648 h) (ap negsuc (omega arith))

pub coordinate_high : (n : ℕ) → 2147483648 ≤ n → coordinate n ≡ pos (n - 2147483648)
unfolding coordinate
coordinate_high n h = rw (le-ltb n 2147483648 h) refl

stored_pos : (n : ℕ) → stored (pos n) ≡ n + 2147483648
unfolding stored
stored_pos n = refl

stored_negative : (n : ℕ) → n < 2147483648 → stored (negsuc n) ≡ 2147483647 - n
unfolding stored
stored_negative n h = rw (le-ltb 2147483648 (suc n) h) (omega arith)

-- a long's coordinate is one, and a coordinate's long is a long
pub coordinate_small : (n : ℕ) → n < 4294967296 → mag (coordinate n) < 2147483648
coordinate_small n h = go (ltb n 2147483648) refl
  where
    go : (b : Bool) → ltb n 2147483648 ≡ b → mag (coordinate n) < 2147483648
    go true e = rw (coordinate_low n (ltb-true n 2147483648 e)) (omega arith)
    go false e = let l = ltb-false n 2147483648 e in rw (coordinate_high n l) (omega arith)

pub stored_small : (z : ℤ) → mag z < 2147483648 → stored z < 4294967296
stored_small (pos n) h = rw (stored_pos n) (omega arith)
stored_small (negsuc n) h = rw (stored_negative n h) (omega arith)

-- each is read back from the other
pub stored_coordinate : (n : ℕ) → stored (coordinate n) ≡ n
stored_coordinate n = go (ltb n 2147483648) refl
  where
    go : (b : Bool) → ltb n 2147483648 ≡ b → stored (coordinate n) ≡ n
    go true e =
        let l = ltb-true n 2147483648 e in
        ap stored (coordinate_low n l) ∙ stored_negative (2147483647 - n) (omega arith) ∙ omega arith
    go false e = let l = ltb-false n 2147483648 e in ap stored (coordinate_high n l) ∙ stored_pos (n - 2147483648) ∙ omega arith

pub coordinate_stored : (z : ℤ) → mag z < 2147483648 → coordinate (stored z) ≡ z
coordinate_stored (pos n) h = ap coordinate (stored_pos n) ∙ coordinate_high (n + 2147483648) (omega arith) ∙ ap pos (omega arith)
coordinate_stored (negsuc n) h =
    ap coordinate (stored_negative n h) ∙ coordinate_low (2147483647 - n) (omega arith) ∙ ap negsuc (omega arith)

-- a coordinate that was stored is read back
pub coordinate_put : (s : List ℕ) (i : ℕ) (z : ℤ) → mag z < 2147483648 → i + 1 < length s / 2 → coordinate (long_at (words (put_long s i (stored z))) i) ≡ z
coordinate_put s i z h b = ap coordinate (long_put s i (stored z) (stored_small z h) b) ∙ coordinate_stored z h

---- what coordinate_at computes: the long n less 2147483648, at 64 bits

module _ (n : ℕ) (small : n < 4294967296) where
  lowered : to_z w64 n -ℤ pos 2147483648 ≡ coordinate n
  unfolding coordinate
  lowered = rw (to_z_pos w64 n (omega arith)) refl

  pub lowered_fits : SFits w64 (to_z w64 n -ℤ pos 2147483648)
  lowered_fits = subst (SFits w64) (sym lowered) (record { sfits = omega (arith, coordinate_small n small) })

  pub lowered_is : to_z w64 (of_z w64 (to_z w64 n -ℤ pos 2147483648)) ≡ coordinate n
  lowered_is = to_z-of_z w64 _ lowered_fits ∙ lowered

-- a coordinate that was read, as the machine holds it
pub kept : (s : List ℕ) → Below 256 s → (i : ℕ) (r : ℤ) → r ≡ coordinate (long_at (words s) i) → to_z w64 (of_z w64 r) ≡ coordinate (long_at (words s) i)
kept s b i r e =
    let h = words_below s b i in
    let l = words_below s b (i + 1) in
    let n : long_at (words s) i < 4294967296 = omega arith in
    ap (λ z. to_z w64 (of_z w64 z)) e ∙ to_z-of_z w64 _ (record { sfits = omega (arith, coordinate_small _ n) })

-- a signed long, its top bit turned over, is the long of a range that stands for its number
pub turned : (n : ℕ) → n < 4294967296 → coordinate ((n + 2147483648) % 4294967296) ≡ signed n
turned n h = go (ltb n 2147483648) refl
  where
    go : (b : Bool) → ltb n 2147483648 ≡ b → coordinate ((n + 2147483648) % 4294967296) ≡ signed_by b n
    go true e =
        let l = ltb-true n 2147483648 e in
        let z : (n + 2147483648) % 4294967296 ≡ n + 2147483648 = omega arith in
        ap coordinate z ∙ coordinate_high (n + 2147483648) (omega arith) ∙ ap pos (omega arith)
    go false e =
        let l = ltb-false n 2147483648 e in
        let z : (n + 2147483648) % 4294967296 ≡ n - 2147483648 = omega arith in
        ap coordinate z ∙ coordinate_low (n - 2147483648) (omega arith) ∙ ap negsuc (omega arith)

---- what put_coordinate computes: a number z of 32 bits and 2147483648, at 64 bits

raised_is : (z : ℤ) → mag z < 2147483648 → z +ℤ pos 2147483648 ≡ pos (stored z)
unfolding stored
raised_is (pos n) h = refl
raised_is (negsuc n) h = rw (le-ltb 2147483648 (suc n) h) refl

module _ (z : ℤ) (f : SFits w32 z) where
  pub widened : SFits w64 (to_z w32 (of_z w32 z))
  widened = subst (SFits w64) (sym (to_z-of_z w32 z f)) (record { sfits = omega (arith, f.sfits) })

  sum : to_z w64 (of_z w64 (to_z w32 (of_z w32 z))) +ℤ pos 2147483648 ≡ pos (stored z)
  sum = ap (λ y. y +ℤ pos 2147483648) (to_z-of_z w64 _ widened ∙ to_z-of_z w32 z f) ∙ raised_is z f.sfits

  pub raised_fits : SFits w64 (to_z w64 (of_z w64 (to_z w32 (of_z w32 z))) +ℤ pos 2147483648)
  raised_fits = subst (SFits w64) (sym sum) (record { sfits = omega (arith, stored_small z f.sfits) })

  pub raised : to_z w64 (of_z w64 (to_z w64 (of_z w64 (to_z w32 (of_z w32 z))) +ℤ pos 2147483648)) ≡ pos (stored z)
  raised = to_z-of_z w64 _ raised_fits ∙ sum

  pub raised_cast : T (non_neg (to_z w64 (of_z w64 (to_z w64 (of_z w64 (to_z w32 (of_z w32 z))) +ℤ pos 2147483648))))
      × Fits w32 (nat_abs (to_z w64 (of_z w64 (to_z w64 (of_z w64 (to_z w32 (of_z w32 z))) +ℤ pos 2147483648))))
  raised_cast = cast_long _ _ raised (stored_small z f.sfits)

---- what is_coordinate tests, of a number z of 64 bits

below_low : (z : ℤ) → lt_z z (negsuc 2147483647) ≡ true → is_coordinate z ≡ false
below_low (pos n) e = absurd (false≢true e)
below_low (negsuc n) e = let h = ltb-true 2147483647 n e in le-ltb n 2147483648 (omega arith)

from_low : (z : ℤ) → lt_z z (negsuc 2147483647) ≡ false → lt_z z (pos 2147483648) ≡ is_coordinate z
from_low (pos n) e = refl
from_low (negsuc n) e = let h = ltb-false 2147483647 n e in sym (lt-ltb n 2147483648 (omega arith))

module _ (z : ℤ) (f : SFits w64 z) where
  pub too_low : lt_z (to_z w64 (of_z w64 z)) (negsuc 2147483647) ≡ true → false ≡ is_coordinate z
  too_low e = sym (below_low z (subst (λ y. lt_z y (negsuc 2147483647) ≡ true) (to_z-of_z w64 z f) e))

  pub not_low : lt_z (to_z w64 (of_z w64 z)) (negsuc 2147483647) ≡ false → lt_z (to_z w64 (of_z w64 z)) (pos 2147483648) ≡ is_coordinate z
  not_low e =
      ap (λ y. lt_z y (pos 2147483648)) (to_z-of_z w64 z f) ∙ from_low z (subst (λ y. lt_z y (negsuc 2147483647) ≡ false) (to_z-of_z w64 z f) e)

-- the same of a number that a struct holds
pub tested : (z : ℤ) → mag z < 9223372036854775808 → {r : Bool} → r ≡ is_coordinate (to_z w64 (of_z w64 z)) → r ≡ is_coordinate z
tested z h e = e ∙ ap is_coordinate (to_z-of_z w64 z (record { sfits = h }))

---- a coordinate that is held at 64 bits, cast to 32 bits

module _ (z : ℤ) (h : mag z < 2147483648) where
  back : to_z w64 (of_z w64 z) ≡ z
  back = to_z-of_z w64 z (record { sfits = omega arith })

  pub cast_fits : SFits w32 (to_z w64 (of_z w64 z))
  cast_fits = subst (SFits w32) (sym back) (record { sfits = h })

  pub cast_is : to_z w32 (of_z w32 (to_z w64 (of_z w64 z))) ≡ z
  cast_is = to_z-of_z w32 _ cast_fits ∙ back

  -- and stored
  pub cast_stored : (d : List ℕ) (i : ℕ) {t : List ℕ} → t ≡ put_long d i (stored (to_z w32 (of_z w32 (to_z w64 (of_z w64 z))))) → t ≡ put_long d i (stored z)
  cast_stored d i e = e ∙ ap (λ y. put_long d i (stored y)) cast_is
