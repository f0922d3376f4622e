-- The first word of a VAX D-float: sign and exponent (RULES.md, "Floats").
use Rattle.std.specs.Prelude.{ℕ, ◌/◌, ◌%◌, Bool, ◌&&◌, eqb}

-- bit 15 is the sign: true where it is set
abbrev pub negative : ℕ → Bool
negative a = eqb (a / 32768 % 2) 1

-- bits 7 to 14 are the exponent E
abbrev pub exponent : ℕ → ℕ
exponent a = a / 128 % 256

-- E = 0 with the sign set is no number: it is refused
unfoldable pub is_reserved : ℕ → Bool
is_reserved a = negative a && eqb (exponent a) 0
