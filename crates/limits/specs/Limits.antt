-- What a call may be handed (RULES.md, "Limits"): the dimension, the length of lent bytes and a used length of them.
use Rattle.std.specs.Prelude.{ℕ, ◌%◌, List, length, Bool, ◌&&◌, ◌||◌, eqb, leb}

-- the dimension is 2 or 3
abbrev pub dim_ok : ℕ → Bool
dim_ok dim = eqb dim 2 || eqb dim 3

-- a file, a buffer or a piece is even in length and has at most 1,048,576 bytes
abbrev pub size_ok : ℕ → Bool
size_ok size = eqb (size % 2) 0 && leb size 1048576

-- a buffer with a used length, which is even too and not beyond it
abbrev pub used_ok : ℕ → ℕ → Bool
used_ok size used = size_ok size && (eqb (used % 2) 0 && leb used size)

-- a call on a file: 1 unless the dimension and the length are right
unfoldable pub call_ok : ℕ → List ℕ → Bool
call_ok dim s = dim_ok dim && size_ok (length s)
