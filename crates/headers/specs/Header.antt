-- The element header (RULES.md, "Element header"): the type and the fields after word 0 of an element that starts at
-- the place `at` of the words `ws`. Of an element's own words alone, `at` is 0.
use Rattle.std.specs.Prelude.{ℕ, ◌+◌, ◌/◌, ◌%◌, List, Bool, cond, eqb}
use Rattle.words.specs.Words.{word_at}
use Rattle.kinds.specs.FirstWord.{type_of}
use Rattle.kinds.specs.Kinds.{is_header, name_word, sizing_word}

-- the type of the element
abbrev pub type_at : List ℕ → ℕ → ℕ
type_at ws at = type_of (word_at ws at)

-- the size: the words to follow and the first two
abbrev pub size_at : List ℕ → ℕ → ℕ
size_at ws at = word_at ws (at + 1) + 2

-- N, of the types that have one
abbrev pub points_at : List ℕ → ℕ → ℕ
points_at ws at = word_at ws (at + 18)

-- the word that sizes the fixed part, of the types that have one: N, or a text's counts
abbrev pub sizing_at : ℕ → List ℕ → ℕ → ℕ
sizing_at dim ws at = word_at ws (at + sizing_word dim (type_at ws at))

-- a header's total T, and the words of its extent: 19 and the total
abbrev pub total_at : List ℕ → ℕ → ℕ
total_at ws at = word_at ws (at + 18)

abbrev pub extent_at : List ℕ → ℕ → ℕ
extent_at ws at = 19 + total_at ws at

-- the words of an element with its extent: of a header 19 and the total, else its own
unfoldable pub extent_words : List ℕ → ℕ → ℕ
extent_words ws at = cond (is_header (type_at ws at)) (extent_at ws at) (size_at ws at)

-- a header's count of direct components
abbrev pub count_at : List ℕ → ℕ → ℕ
count_at ws at = word_at ws (at + 19)

-- attributes are present: property bit 11
abbrev pub attributes_at : List ℕ → ℕ → Bool
attributes_at ws at = eqb (word_at ws (at + 16) / 2048 % 2) 1

-- where the attribute part begins, counted from the element's start
abbrev pub attribute_part_at : List ℕ → ℕ → ℕ
attribute_part_at ws at = 16 + word_at ws (at + 15)

-- where a cell's name begins, and its two words
abbrev pub name_place : List ℕ → ℕ → ℕ
name_place ws at = at + name_word (type_at ws at)

abbrev pub name_first : List ℕ → ℕ → ℕ
name_first ws at = word_at ws (name_place ws at)

abbrev pub name_second : List ℕ → ℕ → ℕ
name_second ws at = word_at ws (name_place ws at + 1)
