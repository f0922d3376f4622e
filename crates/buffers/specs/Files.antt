-- A file's buffer with words put in and taken out (RULES.md, "Edits": the rest moves, and words freed at the end
-- become zero). Lengths are in bytes, places in words.
use Rattle.std.specs.Prelude.{ℕ, ◌+◌, ◌*◌, ◌%◌, List, Bool, cond, ◌&&◌, length, eqb, leb}
use Rattle.words.specs.Words.{words}
use Rattle.edits.specs.Edits.{splice, cut}
use Rattle.edits.specs.Calls.{used_words, stored}

-- both lengths are even, the piece has room behind the used bytes, and the place is not past them
abbrev pub insert_fits : List ℕ → ℕ → ℕ → List ℕ → Bool
insert_fits s used p piece =
    eqb (used % 2) 0 && (eqb (length piece % 2) 0 && (leb (used + length piece) (length s) && leb (2 * p) used))

-- the buffer with the piece's words put in at a place of its used words; as it was where they do not fit
unfoldable pub words_inserted : List ℕ → ℕ → ℕ → List ℕ → List ℕ
words_inserted s used p piece = cond (insert_fits s used p piece) (stored s used (splice p (words piece) (used_words s used))) s

-- the used length is even and within the buffer, and the n words from the place on are used
abbrev pub remove_fits : List ℕ → ℕ → ℕ → ℕ → Bool
remove_fits s used p n = eqb (used % 2) 0 && (leb used (length s) && leb (2 * (p + n)) used)

-- the buffer with n words taken out at a place of its used words; as it was where there are not so many
unfoldable pub words_removed : List ℕ → ℕ → ℕ → ℕ → List ℕ
words_removed s used p n = cond (remove_fits s used p n) (stored s used (cut p n (used_words s used))) s
