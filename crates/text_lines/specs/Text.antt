-- The line of the text at a place of a 2D file (RULES.md, "Listing"), as bytes.
use Rattle.std.specs.Prelude.{ℕ, ◌+◌, ◌*◌, List, [], cond, take, drop, eqb}
use Rattle.words.specs.Words.{words, word_at}
use Rattle.texts.specs.Texts.{characters_in, counts_at, first_character}
use Rattle.kinds.specs.FirstWord.{deleted_of}
use Rattle.headers.specs.Header.{type_at}
use Rattle.listing.specs.Texts.{text_line}

-- the characters of the text at a place of the bytes s: as many as its counts say, from its first character on
unfoldable pub characters_of : List ℕ → ℕ → List ℕ
characters_of s at = take (characters_in (counts_at 2 (words s) at)) (drop (2 * at + first_character 2) s)

-- the line of the text at a place, at a depth; an element of another type has none
unfoldable pub text_line_of : List ℕ → ℕ → ℕ → List ℕ
text_line_of s at depth =
    let ws = words s in
    cond (eqb (type_at ws at) 17) (text_line at depth (eqb (deleted_of (word_at ws at)) 1) (characters_of s at)) []
