-- The promises of `specs/Promises`: each from the law of its own file.
use Prim.Native.Nat.{ℕ, ◌+◌, ◌*◌, ◌%◌, ◌^◌}
use mathlib.Core.Path.{◌≡◌, refl, sym, ◌∙◌}
use mathlib.Core.Bool.{Bool, true, false, cond}
use native.Mathlib.Omega.{arith}
use lib.IntN.{pos}
use lib.Dec.{T, eqb}
use lib.Count.{count_trailing_zeros}
use lib.Ieee.{fin, binary64, odd, fits, to_bits, size}
use lib.Ieee.Fits.{round-fits}
use Rattle.dfloats.specs.FirstWord.{negative, exponent}
use Rattle.dfloats.specs.Fields.{fraction, digits, eighth, float}
use Rattle.dfloats.specs.Reading.{nearest_float, d_float}
use Rattle.dfloats.specs.Promises.{FloatRounded, NearestOnly, TiesEven, FloatNearest, FloatStandard, FloatExact, FloatZero, FloatHeld, FloatOne}
use Rattle.dfloats.proofs.Rounding.{digits_from, digits_below, eighth_is, eighth_from, eighth_to}
use Rattle.dfloats.proofs.Readings.{reads_zero, reads_nearest}
use Rattle.dfloats.proofs.Distances.{eighth_nearest, nearest_eighth, sides}
use Rattle.dfloats.proofs.Floats.{float_value, exact_float, no_float_nearer, read_finite}
use Rattle.dfloats.proofs.Standard.{float_rounds}

pub float_rounded : FloatRounded
float_rounded a b c d p q r n =
    let m = digits a b c d in
    record {
      q = eighth m;
      nearest = eighth_nearest m;
      is = rw (reads_nearest a b c d n) (float_value (negative a) (eighth m) (exponent a));
      from = eighth_from m (digits_from a b c d);
      to = eighth_to m (digits_below a b c d p q r);
    }

pub nearest_only : NearestOnly
nearest_only m q r h k = nearest_eighth m q h ∙ sym (nearest_eighth m r k)

pub ties_even : TiesEven
ties_even m q r n h d = n.even (sides m r q h n.near d)

pub float_nearest : FloatNearest
float_nearest a b c d p q r n = rw (reads_nearest a b c d n) (no_float_nearer (negative a) (digits a b c d) (exponent a) (digits_from a b c d))

pub float_standard : FloatStandard
float_standard a b c d p q r n =
    reads_nearest a b c d n
    ∙ float_rounds (digits a b c d) (exponent a) (digits_from a b c d) (digits_below a b c d p q r) (omega arith) (negative a)

pub float_exact : FloatExact
unfolding digits
float_exact a b c d p q r n z =
    let m = 2 ^ 55 + fraction a b c d in
    rw (reads_nearest a b c d n) (exact_float (negative a) m (exponent a) (whole m (omega arith)))
  where
    whole : (m : ℕ) → m % 8 ≡ 0 → 8 * eighth m ≡ m
    whole m h = omega (arith, eighth_is m)

pub float_zero : FloatZero
float_zero = reads_zero

pub float_held : FloatHeld
unfolding d_float fits
float_held a b c d p q r = record { fits64 = go (eqb (exponent a) 0); number = read_finite a b c d }
  where
    nearest : T (fits binary64 (nearest_float a b c d))
    nearest =
        rw (float_rounds (digits a b c d) (exponent a) (digits_from a b c d) (digits_below a b c d p q r) (omega arith) (negative a))
        (round-fits binary64 (negative a) (digits a b c d * 2 ^ exponent a) (2 ^ 184))

    go : (t : Bool) → T (fits binary64 (cond t (fin false 0 (pos 0)) (nearest_float a b c d)))
    go true = tt
    go false = nearest

pub float_one : FloatOne
unfolding d_float float odd count_trailing_zeros eighth digits to_bits size
float_one = (refl, refl)
