-- Words of bytes, and the words of an extent.
use Rattle.std.specs.Prelude.{ℕ, ◌*◌, ◌/◌, ◌≤◌, ◌<◌, ◌≡◌, List, length, take, drop}
use Rattle.words.specs.Words.{words, Below}
use Rattle.headers.specs.Header.{extent_words}

-- a word for each two bytes
abbrev pub WordsLength : Type 0
WordsLength = (s : List ℕ) → length (words s) ≡ length s / 2

-- the words of bytes are below 65536
abbrev pub WordsBelow : Type 0
WordsBelow = (s : List ℕ) → Below 256 s → Below 65536 (words s)

-- the words of a part of bytes are that part of the words
abbrev pub WordsPart : Type 0
WordsPart = (n at : ℕ) (s : List ℕ) → words (take (2 * n) (drop (2 * at) s)) ≡ take n (drop at (words s))

-- an extent has two words at least, and in the words of bytes fewer than 65,555
abbrev pub ExtentTwo : Type 0
ExtentTwo = (ws : List ℕ) (at : ℕ) → 2 ≤ extent_words ws at

abbrev pub ExtentSmall : Type 0
ExtentSmall = (s : List ℕ) → Below 256 s → (at : ℕ) → extent_words (words s) at < 65555
