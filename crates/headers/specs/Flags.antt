-- The checks of bits 6 and 7 of an element's word 0 and of its depth (RULES.md, "Order of checks": 4, 5, 10). `depth`
-- is how many headers stand above the element.
use Rattle.std.specs.Prelude.{ℕ, List, [], ◌∷◌, Bool, cond, ◌||◌, eqb, leb}
use Rattle.kinds.specs.FirstWord.{reserved_of, c_of, type_of}
use Rattle.headers.specs.Checks.{Check, check}

-- 4 unless bit 6 of word 0 is zero; in type 9 it is not judged
unfoldable pub reserved_ok : ℕ → Bool
reserved_ok w = eqb (type_of w) 9 || eqb (reserved_of w) 0

-- 5 unless a top-level element has C clear in word 0, a component has it set; in type 9 it is not judged
unfoldable pub place_ok : ℕ → ℕ → Bool
place_ok depth w = eqb (type_of w) 9 || eqb (c_of w) (cond (eqb depth 0) 0 1)

abbrev pub flag_checks : ℕ → ℕ → List Check
flag_checks depth w = check (reserved_ok w) 4 ∷ check (place_ok depth w) 5 ∷ check (leb depth 8) 10 ∷ []
