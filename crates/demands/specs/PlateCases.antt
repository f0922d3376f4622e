-- Worked cases of plates and of the listing of platelist (RULES.md, "Plates", "Listing").
use Rattle.std.specs.Prelude.{ℕ, ◌+◌, true, List, [], ◌∷◌, ◌++◌, length, replicate, Err, Ok, Result}
use Rattle.refusals.specs.declared.Refusal.{Refusal}
use Rattle.words.specs.Words.{bytes}
use Rattle.edits.specs.Calls.{Session, mark_call, step}
use Rattle.edits.specs.Demand.{used_bytes}
use Rattle.plates.specs.Plates.{plate_numbers, plate_of}
use Rattle.plates.specs.declared.Plate.{Plate}
use Rattle.demands.specs.Cases.{Case, case}
use Rattle.demands.specs.Elements.{first_word, live, element, plain, raw, line, dead_line, text, cell, dead_cell, named_cell, chain}
use Rattle.demands.specs.Shown.{with_marker}
use Rattle.demands.specs.Listing.{plate_listing_of}
use Rattle.demands.specs.SessionCases.{session, nines}

-- 0, the two words of the name, the six counts and the levels; or the refusal
abbrev pub plate_shown : Result Plate Refusal → List ℕ
plate_shown (Ok plate) = 0 ∷ plate_numbers plate
plate_shown (Err refusal) = refusal.number ∷ refusal.place ∷ []

abbrev pub plate_read : ℕ → List ℕ → ℕ → List ℕ
plate_read dim ws at = plate_shown (plate_of dim (with_marker ws) at)

-- a 2D cell around components, without a name, with words 21 to 26 as given
abbrev pub masked : ℕ → List ℕ → List ℕ → List ℕ
masked c own inside = plain 2 c 46 ((27 + length inside) ∷ 0 ∷ 0 ∷ own) ++ inside

abbrev pub around : List ℕ → List ℕ
around inside = masked 0 [] inside

-- the counts of a 2D cell around components
abbrev pub counts : List ℕ → List ℕ → Case
counts inside six = case (plate_read 2 (around inside) 0) (0 ∷ 0 ∷ 0 ∷ six ++ (0 ∷ []))

-- each of the six
abbrev pub one_of_each : List ℕ
one_of_each = line 1 ++ (plain 4 1 27 (2 ∷ []) ++ (text 1 ++ (plain 15 1 36 [] ++ (chain 1 1 0 ++ raw 1))))

abbrev pub plate_readings : List Case
plate_readings =
    -- an empty cell, and the cell 00417 with its deleted line and with a live one
    counts [] (0 ∷ 0 ∷ 0 ∷ 0 ∷ 0 ∷ 0 ∷ []) ∷
    case (plate_read 2 (named_cell 53 49234 51080 ++ dead_line 1) 0) (0 ∷ 49234 ∷ 51080 ∷ replicate 7 0) ∷
    case (plate_read 2 (named_cell 53 49234 51080 ++ line 1) 0) (0 ∷ 49234 ∷ 51080 ∷ 1 ∷ replicate 6 0) ∷
    -- each kind once, and each type of a kind
    counts one_of_each (1 ∷ 1 ∷ 1 ∷ 1 ∷ 1 ∷ 1 ∷ []) ∷
    counts (plain 4 1 27 (2 ∷ []) ++ (plain 6 1 27 (2 ∷ []) ++ (plain 11 1 27 (2 ∷ []) ++ plain 21 1 27 (2 ∷ [])))) (0 ∷ 4 ∷ 0 ∷ 0 ∷ 0 ∷ 0 ∷ []) ∷
    counts (plain 15 1 36 [] ++ plain 16 1 40 []) (0 ∷ 0 ∷ 0 ∷ 2 ∷ 0 ∷ 0 ∷ []) ∷
    counts (masked 1 [] [] ++ (plain 7 1 35 (16 ∷ 0 ∷ []) ++ (plain 12 1 20 (1 ∷ 0 ∷ []) ++ plain 14 1 20 (1 ∷ 0 ∷ [])))) (0 ∷ 0 ∷ 0 ∷ 0 ∷ 4 ∷ 0 ∷ []) ∷
    counts (plain 5 1 18 [] ++ (plain 9 1 18 [] ++ (plain 13 1 18 [] ++ (plain 66 1 18 [] ++ plain 127 1 18 [])))) (0 ∷ 0 ∷ 0 ∷ 0 ∷ 0 ∷ 5 ∷ []) ∷
    case (plate_read 3 (plain 2 0 62 (85 ∷ []) ++ (plain 18 1 21 (2 ∷ 0 ∷ []) ++ plain 19 1 21 (2 ∷ 0 ∷ []))) 0) (0 ∷ 0 ∷ 0 ∷ 0 ∷ 0 ∷ 0 ∷ 0 ∷ 2 ∷ 0 ∷ 0 ∷ []) ∷
    -- a header counts as one, and what is under it belongs to it alone
    counts (masked 1 [] (line 1 ++ line 1) ++ line 1) (1 ∷ 0 ∷ 0 ∷ 0 ∷ 1 ∷ 0 ∷ []) ∷
    case (plate_read 2 (around (masked 1 [] (line 1 ++ line 1) ++ line 1)) 46) (0 ∷ 0 ∷ 0 ∷ 2 ∷ replicate 6 0) ∷
    -- a deleted component does not count, whatever its kind; the flag is its own
    counts (dead_cell 1 53 ++ (line 1 ++ dead_line 1)) (replicate 6 0) ∷
    case (plate_read 2 (dead_cell 0 53 ++ line 1) 0) (0 ∷ 0 ∷ 0 ∷ 1 ∷ replicate 6 0) ∷
    -- the levels: all bits of words 22 to 25, and none of words 21 and 26
    case (plate_read 2 (masked 0 (0 ∷ 65535 ∷ 65535 ∷ 65535 ∷ 65535 ∷ 0 ∷ []) []) 0) (0 ∷ replicate 8 0 ++ (64 ∷ [])) ∷
    case (plate_read 2 (masked 0 (65535 ∷ 0 ∷ 0 ∷ 0 ∷ 0 ∷ 65535 ∷ []) []) 0) (0 ∷ replicate 9 0) ∷
    case (plate_read 2 (masked 0 (0 ∷ 1 ∷ 32768 ∷ 21845 ∷ 7 ∷ 0 ∷ []) []) 0) (0 ∷ replicate 8 0 ++ (13 ∷ [])) ∷
    -- a library cell: its name in words 16 and 17, its masks in the same words
    case (plate_read 2 (live 1 0 ∷ 33 ∷ replicate 14 0 ++ (55677 ∷ 0 ∷ 42 ∷ 65535 ∷ 65535 ∷ 65535 ∷ 3 ∷ 0 ∷ 0 ∷ 1 ∷ replicate 9 65535) ++ line 1) 0)
    (0 ∷ 55677 ∷ 0 ∷ 1 ∷ 0 ∷ 0 ∷ 0 ∷ 0 ∷ 0 ∷ 3 ∷ []) ∷
    -- 13 where none starts, 18 at 0 at an element that is no cell, and the file's own first: 1, 2, 3 at the second element
    case (plate_read 2 (around (line 1)) 1 ++ plate_read 2 (around (line 1)) 72) (13 ∷ 0 ∷ 13 ∷ 0 ∷ []) ∷
    case (plate_read 2 (around (line 1)) 46 ++ plate_read 2 (raw 0 ++ chain 0 1 0) 2) (18 ∷ 0 ∷ 18 ∷ 0 ∷ []) ∷
    case (plate_shown (plate_of 4 (with_marker (around [])) 0) ++ plate_shown (plate_of 2 (bytes (around [])) 0)) (1 ∷ 0 ∷ 2 ∷ 46 ∷ []) ∷
    case (plate_read 2 (around [] ++ (live 3 0 ∷ 24 ∷ [])) 0) (3 ∷ 46 ∷ []) ∷
    -- the same extent elsewhere has the same plate
    case (plate_read 2 (raw 0 ++ around one_of_each) 2) (plate_read 2 (around one_of_each) 0) ∷
    []

---- a mark

-- a session on a cell around each kind once, and its plate after the element at a place was marked deleted
abbrev pub each_kind : Session
each_kind = session (around one_of_each) [] [] (nines 7)

abbrev pub after_marked : ℕ → List ℕ
after_marked p = plate_shown (plate_of 2 (used_bytes (step 2 each_kind (mark_call p true)).after) 0)

abbrev pub marked_plates : List Case
marked_plates =
    case (after_marked 46) (0 ∷ 0 ∷ 0 ∷ 0 ∷ 1 ∷ 1 ∷ 1 ∷ 1 ∷ 1 ∷ 0 ∷ []) ∷
    case (after_marked 72) (0 ∷ 0 ∷ 0 ∷ 1 ∷ 0 ∷ 1 ∷ 1 ∷ 1 ∷ 1 ∷ 0 ∷ []) ∷
    case (after_marked 99) (0 ∷ 0 ∷ 0 ∷ 1 ∷ 1 ∷ 0 ∷ 1 ∷ 1 ∷ 1 ∷ 0 ∷ []) ∷
    case (after_marked 129) (0 ∷ 0 ∷ 0 ∷ 1 ∷ 1 ∷ 1 ∷ 0 ∷ 1 ∷ 1 ∷ 0 ∷ []) ∷
    case (after_marked 165) (0 ∷ 0 ∷ 0 ∷ 1 ∷ 1 ∷ 1 ∷ 1 ∷ 0 ∷ 1 ∷ 0 ∷ []) ∷
    case (after_marked 185) (0 ∷ 0 ∷ 0 ∷ 1 ∷ 1 ∷ 1 ∷ 1 ∷ 1 ∷ 0 ∷ 0 ∷ []) ∷
    []

---- the listing

abbrev pub plate_listed : List ℕ → List ℕ → Case
plate_listed ws lines = case (plate_listing_of (with_marker ws)) lines

abbrev pub plate_listings : List Case
plate_listings =
    -- the cell 00417 with its deleted line; an empty code prints nothing, nor the space before it
    plate_listed (named_cell 53 49234 51080 ++ dead_line 1)
    (48 ∷ 32 ∷ 48 ∷ 32 ∷ 48 ∷ 32 ∷ 48 ∷ 32 ∷ 48 ∷ 32 ∷ 48 ∷ 32 ∷ 48 ∷ 32 ∷ 48 ∷ 32 ∷ 48 ∷ 48 ∷ 52 ∷ 49 ∷ 55 ∷ 10 ∷ []) ∷
    plate_listed (masked 0 (0 ∷ 65535 ∷ 65535 ∷ 65535 ∷ 65535 ∷ 0 ∷ []) one_of_each)
    (48 ∷ 32 ∷ 49 ∷ 32 ∷ 49 ∷ 32 ∷ 49 ∷ 32 ∷ 49 ∷ 32 ∷ 49 ∷ 32 ∷ 49 ∷ 32 ∷ 54 ∷ 52 ∷ 10 ∷ []) ∷
    -- deleted cells are passed over, and the live one under a deleted one is not; other elements have no line
    plate_listed (raw 0 ++ (dead_cell 0 73 ++ masked 1 [] []))
    (52 ∷ 56 ∷ 32 ∷ 48 ∷ 32 ∷ 48 ∷ 32 ∷ 48 ∷ 32 ∷ 48 ∷ 32 ∷ 48 ∷ 32 ∷ 48 ∷ 32 ∷ 48 ∷ 10 ∷ []) ∷
    -- no cells: nothing at all
    plate_listed (raw 0 ++ line 0) [] ∷
    plate_listed [] [] ∷
    -- "REFUSED 3 0", "REFUSED 1 0"
    plate_listed (live 3 0 ∷ 24 ∷ []) (82 ∷ 69 ∷ 70 ∷ 85 ∷ 83 ∷ 69 ∷ 68 ∷ 32 ∷ 51 ∷ 32 ∷ 48 ∷ 10 ∷ []) ∷
    case (plate_listing_of (0 ∷ [])) (82 ∷ 69 ∷ 70 ∷ 85 ∷ 83 ∷ 69 ∷ 68 ∷ 32 ∷ 49 ∷ 32 ∷ 48 ∷ 10 ∷ []) ∷
    []

abbrev pub plate_cases : List Case
plate_cases = plate_readings ++ (marked_plates ++ plate_listings)
