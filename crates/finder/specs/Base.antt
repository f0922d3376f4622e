-- The finder as it was before deleted cells were passed over: elements in file order, deleted ones too, up to the first type 1 or
-- 2 with the name; its place, and how many were looked at, itself counted.
use Rattle.std.specs.Prelude.{ℕ, ◌+◌, List, [], ◌∷◌, Err, Ok, Result}
use Rattle.words.specs.Words.{words}
use Rattle.names.specs.Names.{packed}
use Rattle.files.specs.Judge.{judge_of}
use Rattle.files.specs.Spots.{Spot, spots_of}
use Rattle.finder.specs.Finder.{has_name, hit_if}
use Rattle.files.specs.declared.Accepted.{Accepted}
use Rattle.finder.specs.Found.{missed_with, unlooked}
use Rattle.finder.specs.declared.Found.{Found}
use Rattle.finder.specs.declared.Missed.{Missed}
use Rattle.names.specs.declared.Name.{Name}
use Rattle.refusals.specs.declared.Refusal.{Refusal}

-- the first of a list of elements that has the name, after n others; 13 and the count of all where none has
abbrev pub first_named : List ℕ → ℕ → ℕ → ℕ → List Spot → Result Found Missed
first_named ws first second n [] = missed_with 13 0 n
first_named ws first second n (x ∷ xs) =
    hit_if (has_name ws x.place first second) x.place n (first_named ws first second (n + 1) xs)

-- the file's refusal, then the text's, then the search among the elements
abbrev pub find_by : Result Accepted Refusal → Result Name Refusal → List ℕ → List Spot → Result Found Missed
find_by (Err refusal) t ws xs = Err (unlooked refusal)
find_by (Ok file) (Err refusal) ws xs = Err (unlooked refusal)
find_by (Ok file) (Ok name) ws xs = first_named ws name.first name.second 0 xs

-- 1, the file's own, 12 for the text, 13 with the count of all elements
unfoldable pub find_of : ℕ → List ℕ → List ℕ → Result Found Missed
find_of dim s t = find_by (judge_of dim s) (packed t) (words s) (spots_of dim (words s))
