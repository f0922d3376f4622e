-- The fraction of a VAX D-float of four words a, b, c, d, each below 65536, from high to low, and its rounding to a 64-bit float
-- (RULES.md, "Floats").
use Rattle.std.specs.Prelude.{ℕ, ◌+◌, ◌*◌, ◌%◌, ◌^◌, Bool, Float}
use Rattle.std.specs.Float.Ieee.{odd}
use Rattle.std.specs.Float.Ieee.Nearest.{closest}

-- the low seven bits of the first word and then the others, from high to low, are the 55 bits of F
abbrev pub fraction : ℕ → ℕ → ℕ → ℕ → ℕ
fraction a b c d = a % 128 * 2 ^ 48 + b * 2 ^ 32 + c * 2 ^ 16 + d

-- the size is m * 2 ^ (E - 184) with this m
unfoldable pub digits : ℕ → ℕ → ℕ → ℕ → ℕ
digits a b c d = 2 ^ 55 + fraction a b c d

-- the whole number nearest to m / 8, and where two are as near, the even one
unfoldable pub eighth : ℕ → ℕ
eighth m = closest m 8

-- the 64-bit float of that sign, of size q * 2 ^ (E - 181), for a q of at most 54 binary digits
unfoldable pub float : Bool → ℕ → ℕ → Float
unfolding odd
float s q e = odd 54 s q e 181
