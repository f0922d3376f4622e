-- The float that four words are read as (RULES.md, "Floats").
use Rattle.std.specs.Prelude.{ℕ, false, cond, pos, eqb, Float}
use Rattle.std.specs.Float.{fin}
use Rattle.dfloats.specs.FirstWord.{negative, exponent}
use Rattle.dfloats.specs.Fields.{digits, eighth, float}

-- with E above 0: the nearest float
abbrev pub nearest_float : ℕ → ℕ → ℕ → ℕ → Float
nearest_float a b c d = float (negative a) (eighth (digits a b c d)) (exponent a)

-- with E = 0 it is +0, whatever F is (where the sign is set the words are refused: `is_reserved`)
unfoldable pub d_float : ℕ → ℕ → ℕ → ℕ → Float
d_float a b c d = cond (eqb (exponent a) 0) (fin false 0 (pos 0)) (nearest_float a b c d)
