-- The line of the element at a place of a file (RULES.md, "Listing"), as bytes.
use Rattle.std.specs.Prelude.{ℕ, ◌≤◌, ◌≡◌, List, [], cond, take, eqb, Result, Ok, Err}
use Rattle.words.specs.Words.{word_at}
use Rattle.names.specs.Names.{unpacked}
use Rattle.names.specs.declared.Unpacked.{Unpacked}
use Rattle.names.specs.declared.NoText.{NoText}
use Rattle.kinds.specs.FirstWord.{deleted_of}
use Rattle.kinds.specs.Kinds.{is_cell}
use Rattle.headers.specs.Header.{type_at, size_at, name_first, name_second}
use Rattle.listing.specs.Lines.{element_line}

-- the number of letters of what two words unpack to; none where they are refused
abbrev pub text_length : Result Unpacked NoText → ℕ
text_length (Ok text) = text.length
text_length (Err none) = 0

-- the letters of what two words unpack to; none where they are refused
abbrev pub unpacked_text : Result Unpacked NoText → List ℕ
unpacked_text (Ok text) = take text.length text.letters
unpacked_text (Err none) = []

-- the name of the element at a place; only cells have one
unfoldable pub name_text : List ℕ → ℕ → List ℕ
name_text ws at = cond (is_cell (type_at ws at)) (unpacked_text (unpacked (name_first ws at) (name_second ws at))) []

-- the line of the element at a place of the words, at a depth; WORDS is its own size
unfoldable pub line_of : List ℕ → ℕ → ℕ → List ℕ
line_of ws at depth = element_line at depth (type_at ws at) (size_at ws at) (eqb (deleted_of (word_at ws at)) 1) (name_text ws at)

-- what two words unpack to is the name of the element at a place, at most six letters
pub record Named (ws : List ℕ) (at : ℕ) (name : Result Unpacked NoText) : Type 0 where
  pub is : unpacked_text name ≡ name_text ws at
  pub short : text_length name ≤ 6
