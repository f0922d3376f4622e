-- What a text's line tells: it is one line, and no other text's.
use Rattle.std.specs.Prelude.{ℕ, ◌<◌, ◌^◌, ◌≡◌, Bool, true, List, [], ◌∷◌, ◌++◌}
use Rattle.words.specs.Words.{Below}
use Rattle.listing.specs.Texts.{prints, text_line}

-- every byte prints
abbrev pub AllPrint : List ℕ → Type 0
AllPrint [] = Unit {0}
AllPrint (c ∷ l) = (prints c ≡ true) × AllPrint l

-- bytes that print, and behind them a line feed
pub record OneLine (line : List ℕ) : Type 0 where
  pub front : List ℕ
  pub ends : line ≡ front ++ (10 ∷ [])
  pub printed : AllPrint front

-- whatever the characters are, a text's line is one line
abbrev pub TextOneLine : Type 0
TextOneLine = (place depth : ℕ) (deleted : Bool) (characters : List ℕ) → Below 256 characters → OneLine (text_line place depth deleted characters)

-- two texts with the same place, depth, state and characters
pub record SameText (p q d e : ℕ) (t u : Bool) (a b : List ℕ) : Type 0 where
  pub place : p ≡ q
  pub depth : d ≡ e
  pub deleted : t ≡ u
  pub characters : a ≡ b

-- two texts that have the same line are the same
abbrev pub TextTold : Type 0
TextTold =
    (p q d e : ℕ) (t u : Bool) (a b : List ℕ) → p < 2 ^ 64 → q < 2 ^ 64 → d < 2 ^ 64 → e < 2 ^ 64 → Below 256 a → Below 256 b →
    text_line p d t a ≡ text_line q e u b → SameText p q d e t u a b
