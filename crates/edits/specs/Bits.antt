-- A list of flags as words, sixteen a word, lowest first, spare bits zero; and the flags of such words.
use Rattle.std.specs.Prelude.{ℕ, zero, suc, ◌+◌, ◌*◌, ◌/◌, ◌%◌, ◌^◌, List, [], ◌∷◌, ◌++◌, Bool, ◌&&◌, length, take, drop, eqb, ltb}
use Rattle.words.specs.Words.{word_at}
use Rattle.kinds.specs.FirstWord.{bit}

-- the number whose binary digits these are, lowest first
abbrev pub digits : List Bool → ℕ
digits [] = 0
digits (b ∷ bs) = bit b + 2 * digits bs

-- the lowest n binary digits of a number, lowest first
abbrev pub binary : ℕ → ℕ → List Bool
binary zero w = []
binary (suc n) w = eqb (w % 2) 1 ∷ binary n (w / 2)

-- the words that n flags take
abbrev pub flag_size : ℕ → ℕ
flag_size n = (n + 15) / 16

-- n words of flags, from the front of the list
abbrev pub grouped : ℕ → List Bool → List ℕ
grouped zero bs = []
grouped (suc n) bs = digits (take 16 bs) ∷ grouped n (drop 16 bs)

-- flags as words
unfoldable pub flag_words : List Bool → List ℕ
flag_words bs = grouped (flag_size (length bs)) bs

-- sixteen flags of each word
unfoldable pub word_flags : List ℕ → List Bool
word_flags [] = []
word_flags (w ∷ ws) = binary 16 w ++ word_flags ws

-- the words are as many as n flags take, and the spare bits of the last one are zero
unfoldable pub flags_ok : ℕ → List ℕ → Bool
flags_ok n x = eqb (length x) (flag_size n) && ltb (word_at x (n / 16)) (2 ^ (n % 16))
