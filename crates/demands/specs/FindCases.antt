-- Worked cases of deleted cells (RULES.md, "Finder", "Index"): the finder and the look-up that pass over them, and those that do not.
use Rattle.std.specs.Prelude.{ℕ, ◌+◌, List, [], ◌∷◌, ◌++◌, length, replicate, Err, Ok, Result}
use Rattle.words.specs.Words.{bytes}
use Rattle.finder.specs.declared.Wanted.TheVariants.{Live, WithDeleted}
use Rattle.finder.specs.Finder.{find_of}
use Rattle.finder.specs.declared.Found.{Found}
use Rattle.finder.specs.declared.Missed.{Missed}
use Rattle.lookup.specs.LookUp.{look_up_of}
use Rattle.lookup.specs.Live.{live_look_up_of}
use Rattle.demands.specs.Cases.{Case, case}
use Rattle.demands.specs.Elements.{first_word, element, line, dead_cell, cell, named_cell, text00417, text417}
use Rattle.demands.specs.IndexCases.{found_numbers, entry}

-- a 2D cell named 00417 by its flags: C and deleted
abbrev pub seal : ℕ → ℕ → List ℕ
seal c deleted = element (first_word 2 c 0 deleted) 46 0 0 (27 ∷ 49234 ∷ 51080 ∷ [])

abbrev pub live_seal : List ℕ
live_seal = seal 0 0

abbrev pub dead_seal : List ℕ
dead_seal = seal 0 1

-- one named 417, and a deleted library cell named 00417
abbrev pub other : List ℕ
other = named_cell 27 55677 0

abbrev pub dead_library_seal : List ℕ
dead_library_seal = first_word 1 0 0 1 ∷ 33 ∷ replicate 14 0 ++ (49234 ∷ 51080 ∷ 16 ∷ replicate 16 0)

abbrev pub with_marker : List ℕ → List ℕ
with_marker ws = bytes (ws ++ (65535 ∷ []))

-- 0, the place and how many were looked at, or the refusal's number, its place and the count
abbrev pub finding : Result Found Missed → List ℕ
finding (Ok found) = 0 ∷ found.place ∷ found.looks ∷ []
finding (Err missed) = missed.refusal.number ∷ missed.refusal.place ∷ missed.looks ∷ []

-- what the finder answers of 00417, and what it answers with deleted cells
abbrev pub finds : List ℕ → List ℕ → List ℕ → Case
finds ws live all =
    case (finding (find_of Live 2 (with_marker ws) text00417) ++ finding (find_of WithDeleted 2 (with_marker ws) text00417)) (live ++ all)

abbrev pub find_cases : List Case
find_cases =
    finds (dead_seal ++ live_seal) (0 ∷ 46 ∷ 2 ∷ []) (0 ∷ 0 ∷ 1 ∷ []) ∷
    finds (live_seal ++ dead_seal) (0 ∷ 0 ∷ 1 ∷ []) (0 ∷ 0 ∷ 1 ∷ []) ∷
    -- the first of several that are live; every element is counted
    finds (dead_seal ++ (line 0 ++ (dead_seal ++ (live_seal ++ live_seal)))) (0 ∷ 118 ∷ 4 ∷ []) (0 ∷ 0 ∷ 1 ∷ []) ∷
    finds (dead_library_seal ++ (other ++ live_seal)) (0 ∷ 81 ∷ 3 ∷ []) (0 ∷ 0 ∷ 1 ∷ []) ∷
    -- only deleted ones: 13 with the count of all elements
    finds (line 0 ++ (dead_seal ++ (dead_seal ++ other))) (13 ∷ 0 ∷ 4 ∷ []) (0 ∷ 26 ∷ 2 ∷ []) ∷
    -- the cell's own flag: a live cell under a deleted header is found, a deleted one under a live header is not
    finds (dead_cell 0 73 ++ seal 1 0) (0 ∷ 46 ∷ 2 ∷ []) (0 ∷ 46 ∷ 2 ∷ []) ∷
    finds (cell 0 73 ++ seal 1 1) (13 ∷ 0 ∷ 2 ∷ []) (0 ∷ 46 ∷ 2 ∷ []) ∷
    -- the text comes before 13
    case (finding (find_of Live 2 (with_marker dead_seal) (97 ∷ []))) (12 ∷ 0 ∷ 0 ∷ []) ∷
    []

-- the look-up of 00417 by a file's words, with a marker behind them, and a whole buffer of entries; and with deleted cells
abbrev pub looks : List ℕ → List ℕ → List ℕ → List ℕ → Case
looks ws index live all =
    case (found_numbers (live_look_up_of 2 (with_marker ws) index (length index) text00417) ++ found_numbers (look_up_of index (length index) text00417)) (live ++ all)

-- an entry of 00417 and one of 417
abbrev pub at : ℕ → List ℕ
at place = entry 49234 51080 place

abbrev pub other_at : ℕ → List ℕ
other_at place = entry 55677 0 place

abbrev pub live_look_cases : List Case
live_look_cases =
    -- three of one name, the first two deleted, four entries: 3 + 1 looks by the rule, and two steps on
    looks (dead_seal ++ (dead_seal ++ (live_seal ++ other))) (at 0 ++ (at 46 ++ (at 92 ++ other_at 138))) (0 ∷ 92 ∷ 6 ∷ []) (0 ∷ 0 ∷ 4 ∷ []) ∷
    looks (live_seal ++ other) (at 0 ++ other_at 46) (0 ∷ 0 ∷ 3 ∷ []) (0 ∷ 0 ∷ 3 ∷ []) ∷
    -- only deleted ones: a step to an entry of another name, or past the end, is not counted
    looks (dead_seal ++ (dead_seal ++ other)) (at 0 ++ (at 46 ++ other_at 92)) (13 ∷ 0 ∷ 4 ∷ []) (0 ∷ 0 ∷ 3 ∷ []) ∷
    looks (dead_seal ++ dead_seal) (at 0 ++ at 46) (13 ∷ 0 ∷ 4 ∷ []) (0 ∷ 0 ∷ 3 ∷ []) ∷
    looks dead_seal (at 0) (13 ∷ 0 ∷ 2 ∷ []) (0 ∷ 0 ∷ 2 ∷ []) ∷
    -- the rule's last look is counted at an entry of another name too; no entry is no look
    looks other (other_at 0) (13 ∷ 0 ∷ 2 ∷ []) (13 ∷ 0 ∷ 2 ∷ []) ∷
    looks live_seal [] (13 ∷ 0 ∷ 0 ∷ []) (13 ∷ 0 ∷ 0 ∷ []) ∷
    -- a place inside a cell, of a line, of the marker, behind it or beyond the file counts as deleted
    looks live_seal (at 5 ++ at 0) (0 ∷ 0 ∷ 4 ∷ []) (0 ∷ 5 ∷ 3 ∷ []) ∷
    looks (line 0 ++ live_seal) (at 0 ++ at 26) (0 ∷ 26 ∷ 4 ∷ []) (0 ∷ 0 ∷ 3 ∷ []) ∷
    looks live_seal (at 46) (13 ∷ 0 ∷ 2 ∷ []) (0 ∷ 46 ∷ 2 ∷ []) ∷
    looks (other ++ (65535 ∷ live_seal)) (at 47) (13 ∷ 0 ∷ 2 ∷ []) (0 ∷ 47 ∷ 2 ∷ []) ∷
    looks live_seal (bytes (49234 ∷ 51080 ∷ 65535 ∷ 65535 ∷ [])) (13 ∷ 0 ∷ 2 ∷ []) (0 ∷ 4294967295 ∷ 2 ∷ []) ∷
    -- the place of a live cell of another name is taken; of several the first in the order of the entries
    looks other (at 0) (0 ∷ 0 ∷ 2 ∷ []) (0 ∷ 0 ∷ 2 ∷ []) ∷
    looks (live_seal ++ live_seal) (at 46 ++ at 0) (0 ∷ 46 ∷ 3 ∷ []) (0 ∷ 46 ∷ 3 ∷ []) ∷
    -- 1 for the index before the file's own, which comes before 12
    case (found_numbers (live_look_up_of 2 [] (at 0) 7 text00417)) (1 ∷ 0 ∷ 0 ∷ []) ∷
    case (found_numbers (live_look_up_of 4 (with_marker live_seal) (at 0) 8 text00417)) (1 ∷ 0 ∷ 0 ∷ []) ∷
    case (found_numbers (live_look_up_of 2 (bytes live_seal) (at 0) 8 (97 ∷ []))) (2 ∷ 46 ∷ 0 ∷ []) ∷
    case (found_numbers (live_look_up_of 2 (with_marker live_seal) (at 0) 8 (97 ∷ []))) (12 ∷ 0 ∷ 0 ∷ []) ∷
    case (found_numbers (live_look_up_of 2 (with_marker live_seal) (at 0) 8 text417)) (13 ∷ 0 ∷ 1 ∷ []) ∷
    []

abbrev pub deleted_cases : List Case
deleted_cases = find_cases ++ live_look_cases
