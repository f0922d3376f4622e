-- What is promised of the float that four words a, b, c, d are read as. Its size is to be m * 2 ^ (E - 184), where m = 2 ^ 55 + F is
-- `digits a b c d` and E is `exponent a`.
use Rattle.std.specs.Prelude.{ℕ, ◌*◌, ◌%◌, ◌^◌, ◌≤◌, ◌<◌, ◌≡◌, ◌≢◌, false, pos, T, Float}
use Rattle.std.specs.Float.{fin, binary64}
use Rattle.std.specs.Float.Ieee.{fits, to_bits, round}
use Rattle.std.specs.Float.Ieee.Exact.{HasValue}
use Rattle.std.specs.Float.Ieee.Scale.{finite}
use Rattle.dfloats.specs.FirstWord.{negative, exponent}
use Rattle.dfloats.specs.Fields.{fraction, digits}
use Rattle.dfloats.specs.Reading.{d_float}
use Rattle.dfloats.specs.Nearest.{gap, Nearest, NoFarther}

-- of four words with E above 0
abbrev pub Scaled : (ℕ → ℕ → ℕ → ℕ → Type 0) → Type 0
Scaled P = (a b c d : ℕ) → b < 65536 → c < 65536 → d < 65536 → exponent a ≢ 0 → P a b c d

-- over whole numbers: the float has the words' sign, and its size is q * 2 ^ (E - 181) for the q nearest to m / 8, ties to even; q has 53
-- binary digits, or is 2 ^ 53
pub record Rounded (a b c d : ℕ) : Type 0 where
  pub q : ℕ
  pub nearest : Nearest (digits a b c d) q
  pub is : HasValue (d_float a b c d) (negative a) (q * 2 ^ exponent a) (2 ^ 181)
  pub from : 2 ^ 52 ≤ q
  pub to : q ≤ 2 ^ 53

abbrev pub FloatRounded : Type 0
FloatRounded = Scaled Rounded

-- only one number is the nearest
abbrev pub NearestOnly : Type 0
NearestOnly = (m q r : ℕ) → Nearest m q → Nearest m r → q ≡ r

-- and where another number is as near, it is even
abbrev pub TiesEven : Type 0
TiesEven = (m q r : ℕ) → Nearest m q → gap m (8 * r) ≡ gap m (8 * q) → r ≢ q → q % 2 ≡ 0

-- no finite 64-bit float is nearer to the exact number
abbrev pub FloatNearest : Type 0
FloatNearest =
    Scaled (λ a b c d. (y : Float) → T (fits binary64 y) → T (finite y) →
    NoFarther (negative a) (digits a b c d * 2 ^ exponent a) (2 ^ 184) (d_float a b c d) y)

-- it is what IEEE 754's rounding, to the nearest and ties to even, makes of the exact number
abbrev pub FloatStandard : Type 0
FloatStandard = Scaled (λ a b c d. d_float a b c d ≡ round binary64 (negative a) (digits a b c d * 2 ^ exponent a) (2 ^ 184))

-- where the low three bits of the fraction are 0 it is the exact number
abbrev pub FloatExact : Type 0
FloatExact =
    Scaled (λ a b c d. fraction a b c d % 8 ≡ 0 → HasValue (d_float a b c d) (negative a) (digits a b c d * 2 ^ exponent a) (2 ^ 184))

-- with E = 0 it is +0, whatever the fraction
abbrev pub FloatZero : Type 0
FloatZero = (a b c d : ℕ) → exponent a ≡ 0 → d_float a b c d ≡ fin false 0 (pos 0)

-- it is a 64-bit float, and neither a NaN nor an infinity
pub record Held (x : Float) : Type 0 where
  pub fits64 : T (fits binary64 x)
  pub number : T (finite x)

abbrev pub FloatHeld : Type 0
FloatHeld = (a b c d : ℕ) → b < 65536 → c < 65536 → d < 65536 → Held (d_float a b c d)

-- the word 16512 and three zeros are 1
abbrev pub FloatOne : Type 0
FloatOne = (d_float 16512 0 0 0 ≡ fin false 1 (pos 0)) × (to_bits binary64 (d_float 16512 0 0 0) ≡ 0x3FF0000000000000)
