-- The two ways to read four words, each with the test that leads there, and the bits of the second.
use Prim.Native.Nat.{ℕ, ◌+◌, ◌*◌, ◌/◌, ◌%◌, ◌<◌}
use mathlib.Core.Path.{◌≡◌, refl, ap}
use mathlib.Core.Logic.{◌≢◌}
use mathlib.Core.Bool.{Bool, true, false, cond}
use native.Mathlib.Omega.{arith}
use lib.IntN.{pos}
use lib.Dec.{eqb}
use lib.Ieee.{fin}
use borrow.Author.Tests.{eqb-true, eqb-false, eq-eqb, ne_eqb}
use Rattle.dfloats.specs.FirstWord.{negative, exponent}
use Rattle.dfloats.specs.Reading.{nearest_float, d_float}
use Rattle.dfloats.proofs.Patterns.{pattern}

pub reads_zero : (a b c d : ℕ) → exponent a ≡ 0 → d_float a b c d ≡ fin false 0 (pos 0)
unfolding d_float
reads_zero a b c d e = rw (eq-eqb (a / 128 % 256) 0 e) refl

pub reads_nearest : (a b c d : ℕ) → exponent a ≢ 0 → d_float a b c d ≡ nearest_float a b c d
unfolding d_float
reads_nearest a b c d n = rw (ne_eqb (a / 128 % 256) 0 n) refl

-- the sign's bit of a word is its test times the bit's weight
sign_bit : (a : ℕ) → a < 65536 → a / 32768 * 9223372036854775808 ≡ cond (negative a) 9223372036854775808 0
sign_bit a h = go (eqb (a / 32768 % 2) 1) refl
  where
    go : (s : Bool) → eqb (a / 32768 % 2) 1 ≡ s → a / 32768 * 9223372036854775808 ≡ cond s 9223372036854775808 0
    go true p = let e = eqb-true (a / 32768 % 2) 1 p in omega arith
    go false p = let e = eqb-false (a / 32768 % 2) 1 p in omega arith

pub sum_is : (a q : ℕ) → a < 65536 → a / 32768 * 9223372036854775808 + (exponent a + 893) * 4503599627370496 + q ≡ pattern (negative a) (exponent a) q
sum_is a q h = ap (λ (n : ℕ). n + (exponent a + 893) * 4503599627370496 + q) (sign_bit a h)
