-- The two name words of the cell at a place: read as bytes, and written over.
use Rattle.std.specs.Prelude.{ℕ, ◌+◌, List, [], ◌∷◌}
use Rattle.words.specs.Words.{words, bytes, put_word}
use Rattle.headers.specs.Header.{name_place, name_first, name_second}

-- the bytes with two words written over the name of the cell at a place
unfoldable pub name_put : ℕ → ℕ → ℕ → List ℕ → List ℕ
name_put p a b s = put_word (put_word s (name_place (words s) p) a) (name_place (words s) p + 1) b

-- two name words as bytes, and those of the cell at a place
abbrev pub name_bytes : ℕ → ℕ → List ℕ
name_bytes a b = bytes (a ∷ b ∷ [])

unfoldable pub cell_name : List ℕ → ℕ → List ℕ
cell_name ws p = name_bytes (name_first ws p) (name_second ws p)
