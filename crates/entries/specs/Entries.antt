-- The entries of an index: four words each, two of the name and two of the place, high word first. One entry is one number,
-- its words as digits to the base 65536, so that the order of entries, by the name's words and then by place, is that of
-- the numbers.
use Rattle.std.specs.Prelude.{ℕ, ◌+◌, ◌-◌, ◌*◌, ◌/◌, ◌%◌, ◌≡◌, List, [], ◌∷◌, ◌++◌, Bool, cond, ◌&&◌, length, set, replicate, eqb, ltb, leb}
use Rattle.words.specs.Words.{words, bytes, put_word}

-- the entry of four words
abbrev pub entry_of : ℕ → ℕ → ℕ → ℕ → ℕ
entry_of a b c d = 281474976710656 * a + 4294967296 * b + 65536 * c + d

-- its name, the two words as one number, and its place
abbrev pub name_of : ℕ → ℕ
name_of e = e / 4294967296

abbrev pub place_of : ℕ → ℕ
place_of e = e % 4294967296

-- words four by four; what is left at the end belongs to no entry
abbrev pub gathered : List ℕ → List ℕ
gathered [] = []
gathered (a ∷ []) = []
gathered (a ∷ b ∷ []) = []
gathered (a ∷ b ∷ c ∷ []) = []
gathered (a ∷ b ∷ c ∷ d ∷ ws) = entry_of a b c d ∷ gathered ws

-- the words of entries
abbrev pub spread : List ℕ → List ℕ
spread [] = []
spread (e ∷ es) = e / 281474976710656 % 65536 ∷ e / 4294967296 % 65536 ∷ e / 65536 % 65536 ∷ e % 65536 ∷ spread es

-- the entries of bytes, and the bytes of entries
unfoldable pub entries : List ℕ → List ℕ
entries s = gathered (words s)

unfoldable pub image : List ℕ → List ℕ
image es = bytes (spread es)

-- entries in a lent buffer of n bytes: they stand at its front, and zeros past them
unfoldable pub shown : ℕ → List ℕ → List ℕ
shown n es = image es ++ replicate (n - 8 * length es) 0

-- a used length is whole entries and not beyond the buffer, which may have any length
abbrev pub entries_ok : ℕ → ℕ → Bool
entries_ok size used = eqb (used % 8) 0 && leb used size

-- the bytes with e as entry i; a store where no entry stands changes nothing
unfoldable pub put_entry : List ℕ → ℕ → ℕ → List ℕ
put_entry s i e =
    cond (ltb i (length s / 8))
    (put_word
    (put_word (put_word (put_word s (4 * i) (e / 281474976710656)) (4 * i + 1) (e / 4294967296 % 65536)) (4 * i + 2)
    (e / 65536 % 65536)) (4 * i + 3) (e % 65536))
    s

-- what a store leaves: its bytes, and its entries
pub record Stored (s : List ℕ) (i e : ℕ) (t : List ℕ) : Type 0 where
  pub is : t ≡ put_entry s i e
  pub holds : entries t ≡ set (entries s) i e
