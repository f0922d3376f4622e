-- The floats that four words read as: exact in size, no 64-bit float is nearer, and all are finite.
use Prim.Native.Nat.{ℕ, zero, suc, ◌+◌, ◌*◌, ◌%◌, ◌^◌, ◌≤◌, ◌<◌}
use mathlib.Core.Path.{◌≡◌, refl, sym, ap, ◌∙◌}
use mathlib.Core.Bool.{Bool, true, false, cond, ◌&&◌}
use native.Mathlib.Omega.{arith}
use native.Mathlib.Nat.{le_trans, le_of_eq, mul_assoc, mul_comm, mul_left_comm, mul_right_comm, mul-one, mul-le-mul_right, le-add_right}
use lib.IntN.{ℤ, pos, negsuc}
use lib.Dec.{T, leb, ltb, eqb, ltb→lt}
use lib.Pow.{pow-add, pow_pos}
use lib.Ieee.{Float, nan, inf, fin, binary64, up, down, unlike, fits}
use lib.Ieee.Fits.{and_l, and_r}
use lib.Ieee.Exact.{HasValue, odd_sign}
use lib.Ieee.Positive.{den}
use lib.Ieee.Scale.{finite}
use Rattle.dfloats.specs.FirstWord.{negative, exponent}
use Rattle.dfloats.specs.Fields.{digits, eighth, float}
use Rattle.dfloats.specs.Reading.{nearest_float, d_float}
use Rattle.dfloats.specs.Nearest.{gap, apart, distance, NoFarther}
use Rattle.dfloats.proofs.Distances.{none_nearer, gap_mul, none_nearer_at}

-- its sign is s and its size is q * 2 ^ e / 2 ^ 181
pub float_value : (s : Bool) (q e : ℕ) → HasValue (float s q e) s (q * 2 ^ e) (2 ^ 181)
unfolding float
float_value s q e = odd_sign 54 s q e 181

-- a float has 53 digits
digits_of_float : (s : Bool) (n : ℕ) (d : ℤ) → T (fits binary64 (fin s n d)) → n < 2 ^ 53
unfolding fits
digits_of_float s zero d f = pow_pos 53
digits_of_float s (suc n) d f =
    let a : Bool = eqb (suc n % 2) 1 in
    let b : Bool = ltb (suc n) (2 ^ 53) in
    let c : Bool = leb (down d) (2 ^ 1074) in
    ltb→lt (suc n) (2 ^ 53) (and_r a b (and_l (a && b) c (and_l (a && b && c) (ltb (suc n * up d) (2 ^ 1024 * down d)) f)))

---- how far another float is from the number, at least

module _ (m e : ℕ) (h : 2 ^ 55 ≤ m) where
  at_like : (n : ℕ) (d : ℤ) → n < 2 ^ 53 → gap m (8 * eighth m) * 2 ^ e * down d ≤ gap (m * 2 ^ e * down d) (n * up d * 2 ^ 184)
  at_like n (pos i) l =
      let y : n * 2 ^ i * 2 ^ 184 ≡ n * 2 ^ (i + 184) = mul_assoc n (2 ^ i) (2 ^ 184) ∙ ap (λ (z : ℕ). n * z) (sym (pow-add 2 i 184)) in
      rw (mul-one (gap m (8 * eighth m) * 2 ^ e), mul-one (m * 2 ^ e), y) (none_nearer_at m n (i + 184) e h l)
  at_like n (negsuc i) l =
      let x : (k : ℕ) → k * 2 ^ e * 2 ^ suc i ≡ k * 2 ^ (e + suc i) = λ k. mul_assoc k (2 ^ e) (2 ^ suc i) ∙ ap (λ (z : ℕ). k * z) (sym (pow-add 2 e (suc i))) in
      rw (x (gap m (8 * eighth m)), x m, mul-one n) (none_nearer_at m n 184 (e + suc i) h l)

  at_unlike : (n : ℕ) (d : ℤ) → gap m (8 * eighth m) * 2 ^ e * down d ≤ m * 2 ^ e * down d + n * up d * 2 ^ 184
  at_unlike n d =
      let g = none_nearer m 0 in
      let l : gap m (8 * eighth m) ≤ m = omega arith in
      le_trans (mul-le-mul_right (down d) (mul-le-mul_right (2 ^ e) l)) (le-add_right (m * 2 ^ e * down d) (n * up d * 2 ^ 184))

  other : (s : Bool) (y : Float) → T (fits binary64 y) → T (finite y) → gap m (8 * eighth m) * 2 ^ e * den y ≤ distance s (m * 2 ^ e) (2 ^ 184) y
  other s nan f g = absurd g
  other s (inf t) f g = absurd g
  other s (fin t n d) f g = go (unlike s t)
    where
      go : (b : Bool) → gap m (8 * eighth m) * 2 ^ e * down d ≤ apart b (m * 2 ^ e * down d) (n * up d * 2 ^ 184)
      go true = at_unlike n d
      go false = at_like n d (digits_of_float t n d f)

---- the float itself

module _ (s : Bool) (q e : ℕ) where
  -- its size over 2 ^ 184
  in_units : (n : ℕ) (d : ℤ) → n * up d * 2 ^ 181 ≡ q * 2 ^ e * down d → n * up d * 2 ^ 184 ≡ 8 * q * 2 ^ e * down d
  in_units n d v = sym (mul_assoc (n * up d) (2 ^ 181) 8) ∙ ap (λ (z : ℕ). z * 8) v ∙ simp (mul_assoc, mul_comm, mul_left_comm)

  -- where q is m / 8 exactly, its size is that of m
  exact : (m : ℕ) (x : Float) → 8 * q ≡ m → HasValue x s (q * 2 ^ e) (2 ^ 181) → HasValue x s (m * 2 ^ e) (2 ^ 184)
  exact m nan p v = v
  exact m (inf t) p v = v
  exact m (fin t n d) p v = (v.0, in_units n d v.1 ∙ ap (λ (z : ℕ). z * 2 ^ e * down d) p)

  -- how far it is from the number of m
  own : (m : ℕ) (x : Float) → HasValue x s (q * 2 ^ e) (2 ^ 181) → distance s (m * 2 ^ e) (2 ^ 184) x ≡ gap m (8 * q) * 2 ^ e * den x
  own m nan v = absurd v
  own m (inf t) v = absurd v
  own m (fin t n d) v = rw (v.0, like s, in_units n d v.1, gap_mul (m * 2 ^ e) (8 * q * 2 ^ e) (down d), gap_mul m (8 * q) (2 ^ e)) refl
    where
      like : (s : Bool) → unlike s s ≡ false
      like true = refl
      like false = refl

pub exact_float : (s : Bool) (m e : ℕ) → 8 * eighth m ≡ m → HasValue (float s (eighth m) e) s (m * 2 ^ e) (2 ^ 184)
exact_float s m e p = exact s (eighth m) e m (float s (eighth m) e) p (float_value s (eighth m) e)

pub no_float_nearer : (s : Bool) (m e : ℕ) → 2 ^ 55 ≤ m → (y : Float) → T (fits binary64 y) → T (finite y) → NoFarther s (m * 2 ^ e) (2 ^ 184) (float s (eighth m) e) y
no_float_nearer s m e h y f g =
    let x = float s (eighth m) e in
    let o = own s (eighth m) e m x (float_value s (eighth m) e) in
    le_trans (le_of_eq (ap (λ (z : ℕ). z * den y) o ∙ mul_right_comm (gap m (8 * eighth m) * 2 ^ e) (den x) (den y))) (mul-le-mul_right (den x) (other m e h s y f g))

---- what is read is finite

value_finite : (x : Float) (s : Bool) (a c : ℕ) → HasValue x s a c → T (finite x)
value_finite nan s a c v = absurd v
value_finite (inf t) s a c v = absurd v
value_finite (fin t n d) s a c v = tt

pub read_finite : (a b c d : ℕ) → T (finite (d_float a b c d))
unfolding d_float
read_finite a b c d = go (eqb (exponent a) 0)
  where
    go : (t : Bool) → T (finite (cond t (fin false 0 (pos 0)) (nearest_float a b c d)))
    go true = tt
    go false = value_finite (nearest_float a b c d) (negative a) (eighth (digits a b c d) * 2 ^ exponent a) (2 ^ 181) (float_value (negative a) (eighth (digits a b c d)) (exponent a))
