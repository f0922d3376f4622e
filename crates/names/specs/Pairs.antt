-- The table of the two-letter values: entry k of 1,600 holds k / 40 and k % 40, the codes of the last two letters of a word.
use Rattle.std.specs.Prelude.{ℕ, suc, ◌+◌, ◌*◌, ◌/◌, ◌%◌, Bool, true, ◌&&◌, List, [], ◌∷◌, eqb, length}

-- the entry at place k: one code in its high byte, the other in its low byte
abbrev pub pair_at : ℕ → ℕ
pair_at k = k / 40 * 256 + k % 40

-- whether each entry is that of its place, the first at place k
abbrev pub pairs_from : ℕ → List ℕ → Bool
pairs_from k [] = true
pairs_from k (x ∷ rest) = eqb x (pair_at k) && pairs_from (suc k) rest

-- whether a list is the table
abbrev pub is_table : List ℕ → Bool
is_table t = eqb (length t) 1600 && pairs_from 0 t
