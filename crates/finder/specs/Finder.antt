-- The finder (RULES.md, "Finder"): elements in file order up to the first type 1 or 2 that has the name and is wanted, live ones alone
-- or deleted ones too; its place, and how many were looked at, itself counted: its ordinal plus one.
use Rattle.std.specs.Prelude.{ℕ, ◌+◌, List, [], ◌∷◌, Bool, true, false, ◌&&◌, eqb, Err, Ok, Result}
use Rattle.words.specs.Words.{words, word_at}
use Rattle.kinds.specs.FirstWord.{deleted_of}
use Rattle.kinds.specs.Kinds.{is_cell}
use Rattle.headers.specs.Header.{type_at, name_first, name_second}
use Rattle.names.specs.Names.{packed}
use Rattle.files.specs.Judge.{judge_of}
use Rattle.files.specs.Spots.{Spot, spots_of}
use Rattle.finder.specs.declared.Wanted.{Wanted}
use Rattle.finder.specs.declared.Wanted.TheVariants.{Live, WithDeleted}
use Rattle.files.specs.declared.Accepted.{Accepted}
use Rattle.finder.specs.Found.{found_with, missed_with, unlooked}
use Rattle.finder.specs.declared.Found.{Found}
use Rattle.finder.specs.declared.Missed.{Missed}
use Rattle.names.specs.Name.{packed_to}
use Rattle.names.specs.declared.Name.{Name}
use Rattle.refusals.specs.declared.Refusal.{Refusal}

-- a cell, which is a type 1 or 2, with the name
unfoldable pub has_name : List ℕ → ℕ → ℕ → ℕ → Bool
has_name ws at first second = is_cell (type_at ws at) && (eqb (name_first ws at) first && eqb (name_second ws at) second)

-- an element is live where its own deleted flag is clear, whatever the flags of the headers above it are
abbrev pub is_live : List ℕ → ℕ → Bool
is_live ws at = eqb (deleted_of (word_at ws at)) 0

-- whether an element is wanted
abbrev pub is_wanted : Wanted → List ℕ → ℕ → Bool
is_wanted Live ws at = is_live ws at
is_wanted WithDeleted ws at = true

-- a cell with the name that is wanted
unfoldable pub is_hit : Wanted → List ℕ → ℕ → ℕ → ℕ → Bool
is_hit w ws at first second = has_name ws at first second && is_wanted w ws at

-- an element looked at after n others: it is found, or what the rest answers
abbrev pub hit_if : Bool → ℕ → ℕ → Result Found Missed → Result Found Missed
hit_if true place n rest = found_with place (n + 1)
hit_if false place n rest = rest

-- the first of a list of elements that has the name and is wanted, after n others; 13 and the count of all where none is
abbrev pub first_named : Wanted → List ℕ → ℕ → ℕ → ℕ → List Spot → Result Found Missed
first_named w ws first second n [] = missed_with 13 0 n
first_named w ws first second n (x ∷ xs) =
    hit_if (is_hit w ws x.place first second) x.place n (first_named w ws first second (n + 1) xs)

-- the file's refusal, then the text's, then the search among the elements
abbrev pub find_by : Wanted → Result Accepted Refusal → Result Name Refusal → List ℕ → List Spot → Result Found Missed
find_by w (Err refusal) t ws xs = Err (unlooked refusal)
find_by w (Ok file) (Err refusal) ws xs = Err (unlooked refusal)
find_by w (Ok file) (Ok name) ws xs = first_named w ws name.first name.second 0 xs

-- the search for a name of two words
unfoldable pub search_of : Wanted → ℕ → List ℕ → ℕ → ℕ → Result Found Missed
search_of w dim s first second = find_by w (judge_of dim s) (packed_to first second) (words s) (spots_of dim (words s))

-- 1, the file's own, 12 for the text, 13 with the count of all elements
unfoldable pub find_of : Wanted → ℕ → List ℕ → List ℕ → Result Found Missed
find_of w dim s t = find_by w (judge_of dim s) (packed t) (words s) (spots_of dim (words s))
