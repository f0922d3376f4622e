-- What worked cases of several subjects show as numbers.
use Rattle.std.specs.Prelude.{ℕ, suc, List, [], ◌∷◌, ◌++◌, ℤ, pos, negsuc}
use Rattle.words.specs.Words.{bytes}
use Rattle.kinds.specs.Kinds.{fixed_part}
use Rattle.files.specs.Judge.{judge_of, judged_numbers}
use Rattle.turns.specs.declared.Turn.{Turn}
use Rattle.turns.specs.declared.Turn.TheVariants as turn

-- a signed number as two: 0 and the number, or 1 and the number below zero
abbrev pub signed_numbers : ℤ → List ℕ
signed_numbers (pos n) = 0 ∷ n ∷ []
signed_numbers (negsuc n) = 1 ∷ suc n ∷ []

-- each of a list of them
abbrev pub signed_all : List ℤ → List ℕ
signed_all [] = []
signed_all (z ∷ zs) = signed_numbers z ++ signed_all zs

-- the bytes of a file of these words and the marker
abbrev pub with_marker : List ℕ → List ℕ
with_marker ws = bytes (ws ++ (65535 ∷ []))

-- what judging it answers, in 2D and in 3D
abbrev pub judged : ℕ → List ℕ → List ℕ
judged dim ws = judged_numbers (judge_of dim (with_marker ws))

abbrev pub judged2_d : List ℕ → List ℕ
judged2_d = judged 2

abbrev pub judged3_d : List ℕ → List ℕ
judged3_d = judged 3

-- the fixed parts of a type in words, 2D and 3D, by the word that sizes them
abbrev pub fixed_parts : ℕ → ℕ → List ℕ
fixed_parts kind n = fixed_part 2 kind n ∷ fixed_part 3 kind n ∷ []

-- how an element is turned
abbrev pub turn_shown : Turn → List ℕ
turn_shown (turn.Flat rotation) = rotation ∷ []
turn_shown (turn.Solid a b c d) = a ∷ b ∷ c ∷ d ∷ []
