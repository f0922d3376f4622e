-- The lines of the program celllist (RULES.md, "Listing"), as bytes, and what it is to write a line into a buffer.
use Rattle.std.specs.Prelude.{ℕ, zero, suc, ◌+◌, ◌/◌, ◌%◌, ◌≤◌, ◌≡◌, List, [], ◌∷◌, ◌++◌, Bool, true, false, cond, length, take, ltb, leb}
use Rattle.words.specs.Words.{over}

-- a number in decimal digits; the first number bounds how many there are
unfoldable pub digits_from : ℕ → ℕ → List ℕ
digits_from zero n = []
digits_from (suc k) n = cond (ltb n 10) ((48 + n) ∷ []) (digits_from k (n / 10) ++ ((48 + n % 10) ∷ []))

-- a number below 2^64 has at most 20 digits
unfoldable pub decimal : ℕ → List ℕ
decimal n = digits_from 20 n

-- a number and the space after it
abbrev pub field : ℕ → List ℕ
field n = decimal n ++ (32 ∷ [])

-- live, or dead where the element is marked deleted
abbrev pub state : Bool → List ℕ
state true = 100 ∷ 101 ∷ 97 ∷ 100 ∷ []
state false = 108 ∷ 105 ∷ 118 ∷ 101 ∷ []

-- a line's last field, after a space; an empty one prints nothing, nor the space before it
abbrev pub last_field : List ℕ → List ℕ
last_field [] = []
last_field (x ∷ xs) = 32 ∷ x ∷ xs

-- PLACE DEPTH TYPE WORDS STATE NAME, and a line feed; a name has at most six letters
unfoldable pub element_line : ℕ → ℕ → ℕ → ℕ → Bool → List ℕ → List ℕ
element_line place depth kind size deleted name =
    field place ++ (field depth ++ (field kind ++ (field size ++ (state deleted ++ (last_field (take 6 name) ++ (10 ∷ []))))))

-- "PLACE DEPTH TYPE WORDS STATE NAME", and a line feed
unfoldable pub heading_line : List ℕ
heading_line =
    80 ∷ 76 ∷ 65 ∷ 67 ∷ 69 ∷ 32
    ∷ 68 ∷ 69 ∷ 80 ∷ 84 ∷ 72 ∷ 32
    ∷ 84 ∷ 89 ∷ 80 ∷ 69 ∷ 32
    ∷ 87 ∷ 79 ∷ 82 ∷ 68 ∷ 83 ∷ 32
    ∷ 83 ∷ 84 ∷ 65 ∷ 84 ∷ 69 ∷ 32
    ∷ 78 ∷ 65 ∷ 77 ∷ 69 ∷ 10 ∷ []

-- "REFUSED", number, place, and a line feed
unfoldable pub refused_line : ℕ → ℕ → List ℕ
refused_line number place = (82 ∷ 69 ∷ 70 ∷ 85 ∷ 83 ∷ 69 ∷ 68 ∷ 32 ∷ []) ++ (field number ++ (decimal place ++ (10 ∷ [])))

-- "END", the marker's place, and a line feed
unfoldable pub end_line : ℕ → List ℕ
end_line marker = (69 ∷ 78 ∷ 68 ∷ 32 ∷ []) ++ (decimal marker ++ (10 ∷ []))

-- a line over a buffer's front; nothing where the buffer is shorter than the room asked for
unfoldable pub written : ℕ → List ℕ → List ℕ → List ℕ
written room s line = cond (leb room (length s)) (over s 0 line) s

-- the number of bytes so written
unfoldable pub written_length : ℕ → List ℕ → List ℕ → ℕ
written_length room s line = cond (leb room (length s)) (length line) 0

-- a line is written into a buffer s: what it then is, and the answer, which is within it
pub record WritesLine (room : ℕ) (s line t : List ℕ) (r : ℕ) : Type 0 where
  pub bytes : t ≡ written room s line
  pub count : r ≡ written_length room s line
  pub within : r ≤ length s
