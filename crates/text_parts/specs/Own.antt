-- The characters that are handed back are the text's own: which bytes of the file they are, and that no other element has one of them.
use Rattle.std.specs.Prelude.{ℕ, ◌+◌, ◌*◌, ◌%◌, ◌<◌, ◌≤◌, ◌≡◌, ◌≢◌, ◌⊎◌, cond, length, get_or, eqb}
use mathlib.Core.List.{List, Memᴰ}
use Rattle.words.specs.Words.{words, word_at}
use Rattle.headers.specs.Header.{size_at}
use Rattle.files.specs.Spots.{Spot, spots_of}
use Rattle.text_views.specs.TextViews.{characters_of, character_bytes}
use Rattle.text_views.specs.Characters.{characters_with}

-- the own words of the elements at two places do not meet
abbrev pub Apart : List ℕ → ℕ → ℕ → Type 0
Apart ws p q = (p + size_at ws p ≤ q) ⊎ (q + size_at ws q ≤ p)

pub record Own (dim : ℕ) (s : List ℕ) (at start count : ℕ) : Type 0 where
  -- they begin at byte 60 of the text, 76 in 3D, and are as many as the low byte of its word 29, 37 in 3D, says
  pub starts : start ≡ 2 * at + cond (eqb dim 2) 60 76
  pub counted : count ≡ word_at (words s) (at + cond (eqb dim 2) 29 37) % 256
  -- they are the file's bytes from there on
  pub many : length (character_bytes dim s at) ≡ count
  pub each : (i : ℕ) → i < count → get_or (character_bytes dim s at) i 0 ≡ get_or s (start + i) 0
  -- they lie in the text's own words, and these in the file
  pub within : start + count ≤ 2 * (at + size_at (words s) at)
  pub inside : 2 * (at + size_at (words s) at) ≤ length s
  -- no other element of the file has a word of these
  pub alone : (y : Spot) → Memᴰ y (spots_of dim (words s)) → y.place ≢ at → Apart (words s) at y.place

abbrev pub CharactersOwn : Type 0
CharactersOwn = (dim : ℕ) (s : List ℕ) (at start count : ℕ) → characters_of dim s at ≡ characters_with start count → Own dim s at start count

-- the characters of two texts have no byte in common
abbrev pub TextsApart : Type 0
TextsApart =
    (dim : ℕ) (s : List ℕ) (p q a m b n : ℕ) → characters_of dim s p ≡ characters_with a m → characters_of dim s q ≡ characters_with b n → p ≢ q → (a + m ≤ b) ⊎ (b + n ≤ a)
