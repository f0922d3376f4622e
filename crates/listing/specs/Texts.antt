-- The lines of the program textlist (RULES.md, "Listing"), as bytes.
use Rattle.std.specs.Prelude.{ℕ, ◌+◌, ◌*◌, ◌/◌, ◌%◌, List, [], ◌∷◌, ◌++◌, Bool, cond, ◌&&◌, eqb, ltb, leb}
use Rattle.listing.specs.Lines.{field, state, last_field}

-- a hexadecimal digit, small letters from ten on
abbrev pub hexadecimal : ℕ → ℕ
hexadecimal d = cond (ltb d 10) (48 + d) (87 + d)

-- the bytes that print: from space to tilde
abbrev pub prints : ℕ → Bool
prints c = leb 32 c && leb c 126

-- a character of a text: a backslash doubled, a byte that prints as it is, any other as a backslash, x and two digits
unfoldable pub escape : ℕ → List ℕ
escape c =
    cond (eqb c 92) (92 ∷ 92 ∷ [])
    (cond (prints c) (c ∷ []) (92 ∷ 120 ∷ hexadecimal (c / 16) ∷ hexadecimal (c % 16) ∷ []))

-- the characters of a text
abbrev pub escaped : List ℕ → List ℕ
escaped [] = []
escaped (c ∷ cs) = escape c ++ escaped cs

-- PLACE DEPTH STATE TEXT, and a line feed
unfoldable pub text_line : ℕ → ℕ → Bool → List ℕ → List ℕ
text_line place depth deleted characters =
    field place ++ (field depth ++ (state deleted ++ (last_field (escaped characters) ++ (10 ∷ []))))

-- room for the line of a text of n characters: a number has at most 20 digits, a character takes at most four bytes
abbrev pub text_room : ℕ → ℕ
text_room n = 48 + 4 * n

-- "PLACE DEPTH STATE TEXT", and a line feed
unfoldable pub text_heading : List ℕ
text_heading =
    80 ∷ 76 ∷ 65 ∷ 67 ∷ 69 ∷ 32
    ∷ 68 ∷ 69 ∷ 80 ∷ 84 ∷ 72 ∷ 32
    ∷ 83 ∷ 84 ∷ 65 ∷ 84 ∷ 69 ∷ 32
    ∷ 84 ∷ 69 ∷ 88 ∷ 84 ∷ 10 ∷ []
