-- The longs of a range (RULES.md, "Element header"). Each is stored with its top bit turned over.
use Rattle.std.specs.Prelude.{ℕ, Bool, ltb, ℤ, pos, nat_abs, ◌+ℤ◌, ◌-ℤ◌}
use Rattle.std.specs.Int.Signed.{mag}

-- the coordinate that such a long stands for: the unsigned number less 2147483648
unfoldable pub coordinate : ℕ → ℤ
coordinate n = pos n -ℤ pos 2147483648

-- the long that stands for a coordinate: the number with 2147483648 added
unfoldable pub stored : ℤ → ℕ
stored z = nat_abs (z +ℤ pos 2147483648)

-- a coordinate is a signed long, -2147483648 to 2147483647 (mag is n of n and of -1 - n)
abbrev pub is_coordinate : ℤ → Bool
is_coordinate z = ltb (mag z) 2147483648
