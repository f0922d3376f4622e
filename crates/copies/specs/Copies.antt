-- What a copy, and clearing, leave of a buffer's bytes.
use Rattle.std.specs.Prelude.{ℕ, ◌+◌, ◌-◌, List, cond, length, replicate, leb}
use Rattle.words.specs.Words.{over}

-- the bytes s with x in the place of those from a on; as they were where x does not fit
unfoldable pub copied : List ℕ → ℕ → List ℕ → List ℕ
copied s a x = cond (leb (a + length x) (length s)) (over s a x) s

-- the bytes s with zeros from a to e; as they were where e is before a or past the end
unfoldable pub cleared : List ℕ → ℕ → ℕ → List ℕ
cleared s a e = copied s a (replicate (e - a) 0)
