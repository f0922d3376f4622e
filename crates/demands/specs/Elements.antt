-- The elements and texts that worked cases are made of: elements of zeros but for the words that a case is about.
use Rattle.std.specs.Prelude.{ℕ, zero, suc, ◌+◌, ◌*◌, ◌-◌, min, List, [], ◌∷◌, ◌++◌, length, replicate}
use Rattle.words.specs.Words.{words}

-- word 0: type, C, bit 6 and the deleted flag; level 0
abbrev pub first_word : ℕ → ℕ → ℕ → ℕ → ℕ
first_word kind c reserved deleted = 256 * kind + 128 * c + 64 * reserved + 32768 * deleted

-- word 0 of a live element, bit 6 zero
abbrev pub live : ℕ → ℕ → ℕ
live kind c = first_word kind c 0 0

-- an element by word 0, its size, words 15 and 16 and the words from 18 on, with zeros up to its size
abbrev pub element : ℕ → ℕ → ℕ → ℕ → List ℕ → List ℕ
element first size index properties own =
    first ∷ (size - 2) ∷ replicate 13 0 ++ (index ∷ properties ∷ 0 ∷ own ++ replicate (size - (18 + length own)) 0)

-- an element of a type, C as given, without attributes
abbrev pub plain : ℕ → ℕ → ℕ → List ℕ → List ℕ
plain kind c size own = element (live kind c) size 0 0 own

-- an element at the top with A set, property bit 11, and its attribute part from word 16 + index on
abbrev pub attributed : ℕ → ℕ → ℕ → List ℕ → List ℕ
attributed kind size index own = element (live kind 0) size index 2048 own

-- a raw element of two words
abbrev pub raw : ℕ → List ℕ
raw c = live 5 c ∷ 0 ∷ []

-- n raw components one behind another, live (0) or deleted (1)
abbrev pub raws : ℕ → ℕ → List ℕ
raws zero deleted = []
raws (suc n) deleted = first_word 5 1 0 deleted ∷ 0 ∷ raws n deleted

-- a 2D line, live and deleted, and an empty 2D text
abbrev pub line : ℕ → List ℕ
line c = plain 3 c 26 []

abbrev pub dead_line : ℕ → List ℕ
dead_line c = element (first_word 3 c 0 1) 26 0 0 []

abbrev pub text : ℕ → List ℕ
text c = plain 17 c 30 []

-- what a text has from word 18 on: zeros, in 2D 11 and in 3D 19, the counts of characters and fields, and the bytes of both
abbrev pub texted : ℕ → ℕ → ℕ → List ℕ → List ℕ
texted zeros characters fields given = replicate zeros 0 ++ ((characters + 256 * fields) ∷ words (given ++ (0 ∷ [])))

abbrev pub flat_text : ℕ → ℕ → ℕ → List ℕ → List ℕ
flat_text size characters fields given = plain 17 0 size (texted 11 characters fields given)

abbrev pub solid_text : ℕ → ℕ → ℕ → List ℕ → List ℕ
solid_text size characters fields given = plain 17 0 size (texted 19 characters fields given)

-- the headers, each before what stands under it: a 2D cell with its total, live and deleted, and one at the top with its name too
abbrev pub cell : ℕ → ℕ → List ℕ
cell c total = plain 2 c 46 (total ∷ [])

abbrev pub dead_cell : ℕ → ℕ → List ℕ
dead_cell c total = element (first_word 2 c 0 1) 46 0 0 (total ∷ [])

abbrev pub named_cell : ℕ → ℕ → ℕ → List ℕ
named_cell total first second = plain 2 0 46 (total ∷ first ∷ second ∷ [])

-- a library cell with nothing under it and its name in words 16-17
abbrev pub library_cell : ℕ → ℕ → List ℕ
library_cell first second = live 1 0 ∷ 33 ∷ replicate 14 0 ++ (first ∷ second ∷ 16 ∷ replicate 16 0)

-- a complex chain with its total and count
abbrev pub chain : ℕ → ℕ → ℕ → List ℕ
chain c total count = plain 12 c 20 (total ∷ count ∷ [])

-- a header of a type, at the top, with a count, around components
abbrev pub counting : ℕ → ℕ → ℕ → List ℕ → List ℕ
counting kind size count inside = plain kind 0 size ((size - 19 + length inside) ∷ count ∷ []) ++ inside

-- components in n cells, one in another, the outermost at the top
abbrev pub in_cells : ℕ → List ℕ → List ℕ
in_cells zero inside = inside
in_cells (suc n) inside = in_cells n (cell (min n 1) (27 + length inside) ++ inside)

-- the texts 00417 and 417, in bytes
abbrev pub text00417 : List ℕ
text00417 = 48 ∷ 48 ∷ 52 ∷ 49 ∷ 55 ∷ []

abbrev pub text417 : List ℕ
text417 = 52 ∷ 49 ∷ 55 ∷ []
