-- Worked cases of sessions (RULES.md, "Edits"). A call's case is of the whole session: its answer, both used lengths and
-- every byte of both buffers.
use Rattle.std.specs.Prelude.{ℕ, ◌+◌, ◌*◌, List, [], ◌∷◌, ◌++◌, true, false, length, replicate}
use Rattle.std.proofs.Math.Option.{none, some}
use Rattle.words.specs.Words.{bytes}
use Rattle.files.specs.Spots.{Spot}
use Rattle.edits.specs.Allowed.{Fault?, fine, fault, room_fault, insert_fault}
use Rattle.edits.specs.Records.{record_words, flag, inserted}
use Rattle.edits.specs.Calls.{Session, Call, mark_call, rename_call, insert_call, remove_call, undo_call, Outcome, step, edited_numbers}
use Rattle.edits.specs.Demand.{run_of}
use Rattle.demands.specs.Cases.{Case, case}
use Rattle.demands.specs.Elements.{first_word, live, element, plain, raw, raws, line, dead_line, cell, dead_cell, named_cell, library_cell, chain, text00417, text417}

-- a session by the file's words, the words behind its marker, the journal's records and the words behind them
abbrev pub session : List ℕ → List ℕ → List ℕ → List ℕ → Session
session ws behind records free = record {
  file = bytes (ws ++ (65535 ∷ behind));
  used = 2 * (length ws + 1);
  journal = bytes (records ++ free);
  jused = 2 * length records;
  index = none;
}

-- both used lengths and every byte of both buffers
abbrev pub session_numbers : Session → List ℕ
session_numbers s = s.used ∷ s.jused ∷ s.file ++ s.journal

-- what a call answers and what it leaves
abbrev pub result_numbers : Outcome → List ℕ
result_numbers r = edited_numbers r.answer ++ session_numbers r.after

-- a call of a 2D session is made and leaves another session
abbrev pub makes : Session → Call → Session → Case
makes s c t = case (result_numbers (step 2 s c)) (0 ∷ t.used ∷ t.jused ∷ session_numbers t)

-- a call of a 2D session is refused with a number and a place, and leaves every byte and length
abbrev pub refuses : Session → Call → ℕ → ℕ → Case
refuses s c n p = case (result_numbers (step 2 s c)) (n ∷ p ∷ session_numbers s)

-- the six words that end a record, places below 65,536: kind, header place -1 or a place, place, payload words
abbrev pub at_top : ℕ → ℕ → ℕ → List ℕ
at_top kind place n = kind ∷ 65535 ∷ 65535 ∷ 0 ∷ place ∷ n ∷ []

abbrev pub under : ℕ → ℕ → ℕ → ℕ → List ℕ
under header kind place n = kind ∷ 0 ∷ header ∷ 0 ∷ place ∷ n ∷ []

-- words that no call wrote, and words that were freed
abbrev pub nines : ℕ → List ℕ
nines n = replicate n 9

abbrev pub zeros : ℕ → List ℕ
zeros n = replicate n 0

-- the record of a mark: the extent's old flags, then six words
abbrev pub marked : ℕ → List ℕ → List ℕ
marked place old = old ++ at_top 1 place (length old)

-- a cell with a dead line among live ones, then a line at the top; the cell dead with all its lines
abbrev pub mixed : List ℕ
mixed = cell 0 105 ++ line 1 ++ dead_line 1 ++ line 1 ++ line 0

abbrev pub dead : List ℕ
dead = dead_cell 0 105 ++ dead_line 1 ++ dead_line 1 ++ dead_line 1 ++ line 0

-- mark and its undo; the words behind the file and behind the journal stay
abbrev pub mark_cases : List Case
mark_cases =
    -- an element that is no header: one bit is set, and the record has one payload word
    makes (session (line 0) (nines 1) [] (nines 8)) (mark_call 0 true) (session (dead_line 0) (nines 1) (marked 0 (0 ∷ [])) (nines 1)) ∷
    -- its undo clears the bit, and the journal's bytes stay
    makes (session (dead_line 0) (nines 1) (marked 0 (0 ∷ [])) []) undo_call (session (line 0) (nines 1) [] (marked 0 (0 ∷ []))) ∷
    -- a cell goes as a whole, and what follows its extent stays; its undo brings the mixture back
    makes (session mixed [] [] (nines 7)) (mark_call 0 true) (session dead [] (marked 0 (4 ∷ [])) []) ∷
    makes (session dead [] (marked 0 (4 ∷ [])) []) undo_call (session mixed [] [] (marked 0 (4 ∷ []))) ∷
    -- and so it comes back as a whole
    makes (session dead [] [] (nines 7)) (mark_call 0 false) (session (cell 0 105 ++ line 1 ++ line 1 ++ line 1 ++ line 0) [] (marked 0 (15 ∷ [])) []) ∷
    -- an undo looks at no flag that stands: over other flags, and over those that it writes
    makes (session (cell 0 105 ++ dead_line 1 ++ line 1 ++ dead_line 1 ++ line 0) [] (marked 0 (4 ∷ [])) []) undo_call (session mixed [] [] (marked 0 (4 ∷ []))) ∷
    makes (session mixed [] (marked 0 (4 ∷ [])) []) undo_call (session mixed [] [] (marked 0 (4 ∷ []))) ∷
    -- a component alone: not its header, not the components beside it; the record stands behind the one before
    makes (session mixed [] (nines 1) (nines 7)) (mark_call 72 false) (session (cell 0 105 ++ line 1 ++ line 1 ++ line 1 ++ line 0) [] (nines 1 ++ marked 72 (1 ∷ [])) []) ∷
    makes (session (cell 0 105 ++ line 1 ++ line 1 ++ line 1 ++ line 0) [] (nines 1 ++ marked 72 (1 ∷ [])) []) undo_call (session mixed [] (nines 1) (marked 72 (1 ∷ []))) ∷
    -- a cell in a cell, with what stands under it and not with the cell around it
    makes (session (cell 0 101 ++ cell 1 29 ++ raws 1 0 ++ line 1) [] [] (nines 7)) (mark_call 46 true)
    (session (cell 0 101 ++ dead_cell 1 29 ++ raws 1 1 ++ line 1) [] (marked 46 (0 ∷ [])) []) ∷
    -- the cell around both, which takes all of them; its undo
    makes (session (cell 0 101 ++ dead_cell 1 29 ++ raws 1 0 ++ dead_line 1) [] [] (nines 7)) (mark_call 0 true)
    (session (dead_cell 0 101 ++ dead_cell 1 29 ++ raws 1 1 ++ dead_line 1) [] (marked 0 (10 ∷ [])) []) ∷
    makes (session (dead_cell 0 101 ++ dead_cell 1 29 ++ raws 1 1 ++ dead_line 1) [] (marked 0 (10 ∷ [])) []) undo_call
    (session (cell 0 101 ++ dead_cell 1 29 ++ raws 1 0 ++ dead_line 1) [] [] (marked 0 (10 ∷ []))) ∷
    -- flags in the middle of a word
    makes (session (cell 0 57 ++ raws 5 0 ++ raws 3 1 ++ raws 7 0) [] [] (nines 7)) (mark_call 0 true) (session (dead_cell 0 57 ++ raws 15 1) [] (marked 0 (448 ∷ [])) []) ∷
    -- sixteen elements: one payload word, the header's flag in its lowest bit
    makes (session (cell 0 57 ++ raws 15 1) [] [] (nines 7)) (mark_call 0 true) (session (dead_cell 0 57 ++ raws 15 1) [] (marked 0 (65534 ∷ [])) []) ∷
    makes (session (dead_cell 0 57 ++ raws 15 1) [] (marked 0 (65534 ∷ [])) []) undo_call (session (cell 0 57 ++ raws 15 1) [] [] (marked 0 (65534 ∷ []))) ∷
    -- seventeen: two, the seventeenth's flag in the second one's lowest bit
    makes (session (cell 0 59 ++ raws 15 0 ++ raws 1 1) [] [] (nines 8)) (mark_call 0 true) (session (dead_cell 0 59 ++ raws 16 1) [] (marked 0 (0 ∷ 1 ∷ [])) []) ∷
    makes (session (dead_cell 0 59 ++ raws 16 1) [] (marked 0 (0 ∷ 1 ∷ [])) []) undo_call (session (cell 0 59 ++ raws 15 0 ++ raws 1 1) [] [] (marked 0 (0 ∷ 1 ∷ []))) ∷
    -- thirty-three: three
    makes (session (cell 0 91 ++ raws 31 0 ++ raws 1 1) [] [] (nines 9)) (mark_call 0 true) (session (dead_cell 0 91 ++ raws 32 1) [] (marked 0 (0 ∷ 0 ∷ 1 ∷ [])) []) ∷
    -- marked twice: 14, and marked live while live; by the named element's own flag alone
    refuses (session (dead_line 0) [] (marked 0 (0 ∷ [])) (nines 7)) (mark_call 0 true) 14 0 ∷
    refuses (session (line 0) [] [] (nines 7)) (mark_call 0 false) 14 0 ∷
    refuses (session (dead_cell 0 53 ++ line 1) [] [] (nines 7)) (mark_call 0 true) 14 0 ∷
    refuses (session (cell 0 53 ++ dead_line 1) [] [] (nines 7)) (mark_call 0 false) 14 0 ∷
    -- no element starts there: 13, before 14, since bit 15 of word 1 is clear; nor at the marker
    refuses (session (line 0) [] [] (nines 7)) (mark_call 1 false) 13 0 ∷
    refuses (session (line 0) [] [] (nines 7)) (mark_call 26 true) 13 0 ∷
    -- 14 before 16; six free words are too few, and seven are for seventeen elements: 16
    refuses (session (line 0) [] [] (nines 6)) (mark_call 0 false) 14 0 ∷
    refuses (session (line 0) [] [] (nines 6)) (mark_call 0 true) 16 0 ∷
    refuses (session (cell 0 57 ++ raws 15 0) [] [] (nines 6)) (mark_call 0 true) 16 0 ∷
    refuses (session (cell 0 59 ++ raws 16 0) [] [] (nines 7)) (mark_call 0 true) 16 0 ∷
    []

-- rename and its undo: the two old words are the payload
abbrev pub rename_cases : List Case
rename_cases =
    makes (session (named_cell 27 49234 51080) [] [] (nines 8)) (rename_call 0 text417) (session (named_cell 27 55677 0) [] (49234 ∷ 51080 ∷ at_top 2 0 2) []) ∷
    makes (session (named_cell 27 55677 0) [] (49234 ∷ 51080 ∷ at_top 2 0 2) []) undo_call (session (named_cell 27 49234 51080) [] [] (49234 ∷ 51080 ∷ at_top 2 0 2)) ∷
    -- a library cell has its name in words 16-17
    makes (session (library_cell 55677 0) [] [] (nines 8)) (rename_call 0 text00417) (session (library_cell 49234 51080) [] (55677 ∷ 0 ∷ at_top 2 0 2) []) ∷
    -- a text that is no name: 12, for a small letter, for a space at the end, for seven letters
    refuses (session (cell 0 27) [] [] (nines 8)) (rename_call 0 (97 ∷ [])) 12 0 ∷
    refuses (session (cell 0 27) [] [] (nines 8)) (rename_call 0 (65 ∷ 32 ∷ [])) 12 0 ∷
    refuses (session (cell 0 27) [] [] (nines 8)) (rename_call 0 (text00417 ++ (48 ∷ 48 ∷ []))) 12 0 ∷
    -- not a cell: 18, before 12
    refuses (session (line 0) [] [] (nines 8)) (rename_call 0 text417) 18 0 ∷
    refuses (session (line 0) [] [] (nines 8)) (rename_call 0 (97 ∷ [])) 18 0 ∷
    -- no element starts there: 13, before 18 and 12
    refuses (session (line 0) [] [] (nines 8)) (rename_call 1 (97 ∷ [])) 13 0 ∷
    -- 12 before 16; seven free words are too few: 16
    refuses (session (cell 0 27) [] [] []) (rename_call 0 (97 ∷ [])) 12 0 ∷
    refuses (session (cell 0 27) [] [] (nines 7)) (rename_call 0 text417) 16 0 ∷
    []

-- a chain in a cell in a cell, without a component and with one line; it starts at word 92, the line at word 112, where the
-- extents of all three end before the line is put in
abbrev pub empty : List ℕ
empty = cell 0 93 ++ cell 1 47 ++ chain 1 1 0

abbrev pub filled : List ℕ
filled = cell 0 119 ++ cell 1 73 ++ chain 1 27 1 ++ line 1

-- insert and its undo
abbrev pub insert_cases : List Case
insert_cases =
    -- the total of every header on the path grows by 26, and the direct header's count by 1; the record has no payload
    makes (session empty (nines 27) [] (nines 6)) (insert_call (some 92) 112 (bytes (line 1))) (session filled (nines 1) (under 92 3 112 0) []) ∷
    -- its undo takes the line out again; the freed words become zero
    makes (session filled (nines 1) (under 92 3 112 0) []) undo_call (session empty (zeros 26 ++ nines 1) [] (under 92 3 112 0)) ∷
    -- the same place under the inner cell, under the outer cell and at the top: the chain keeps total and count
    makes (session empty (nines 26) [] (nines 6)) (insert_call (some 46) 112 (bytes (line 1)))
    (session (cell 0 119 ++ cell 1 73 ++ chain 1 1 0 ++ line 1) [] (under 46 3 112 0) []) ∷
    makes (session empty (nines 26) [] (nines 6)) (insert_call (some 0) 112 (bytes (line 1)))
    (session (cell 0 119 ++ cell 1 47 ++ chain 1 1 0 ++ line 1) [] (under 0 3 112 0) []) ∷
    makes (session empty (nines 26) [] (nines 6)) (insert_call none 112 (bytes (line 0))) (session (empty ++ line 0) [] (at_top 3 112 0) []) ∷
    -- before a direct component: the words from there on move
    makes (session (chain 0 3 1 ++ raw 1) (nines 26) [] (nines 6)) (insert_call (some 0) 20 (bytes (line 1)))
    (session (chain 0 29 2 ++ line 1 ++ raw 1) [] (under 0 3 20 0) []) ∷
    -- a place inside an element, a named header that is none, one that is no element, and a component of another header: 13
    refuses (session empty (nines 26) [] (nines 6)) (insert_call (some 92) 111 (bytes (line 1))) 13 0 ∷
    refuses (session (line 0) (nines 26) [] (nines 6)) (insert_call (some 0) 26 (bytes (line 1))) 13 0 ∷
    refuses (session (line 0) (nines 26) [] (nines 6)) (insert_call (some 1) 26 (bytes (line 1))) 13 0 ∷
    refuses (session empty (nines 26) [] (nines 6)) (insert_call (some 0) 92 (bytes (line 1))) 13 0 ∷
    -- 13 before the piece's own
    refuses (session empty (nines 26) [] (nines 6)) (insert_call (some 92) 111 (bytes (line 0))) 13 0 ∷
    -- the piece's own, by its new header and depth: 5 for C clear, 6 for a header under a chain
    refuses (session empty (nines 26) [] (nines 6)) (insert_call (some 92) 112 (bytes (line 0))) 5 0 ∷
    refuses (session empty (nines 46) [] (nines 6)) (insert_call (some 92) 112 (bytes (cell 1 27))) 6 0 ∷
    -- a fault within the piece at its place there; words left over last, at the first of them; an empty piece is cut
    refuses (session [] (nines 48) [] (nines 6)) (insert_call none 0 (bytes (cell 0 29 ++ raw 0))) 5 46 ∷
    refuses (session [] (nines 28) [] (nines 6)) (insert_call none 0 (bytes (line 0 ++ raw 0))) 3 26 ∷
    refuses (session [] (nines 28) [] (nines 6)) (insert_call none 0 []) 3 0 ∷
    -- 21 for an ellipse with a float that is refused, in the piece and in the file itself
    refuses (session (raw 0) (nines 36) [] (nines 6)) (insert_call none 2 (bytes (plain 15 0 36 (32768 ∷ [])))) 21 0 ∷
    refuses (session (raw 0 ++ plain 15 0 36 (32768 ∷ [])) (nines 26) [] (nines 6)) (insert_call none 0 (bytes (line 0))) 21 2 ∷
    -- the piece's own before 15; the file's buffer one word too small: 15, before 16
    refuses (session empty [] [] (nines 6)) (insert_call (some 92) 112 (bytes (line 0))) 5 0 ∷
    refuses (session empty (nines 25) [] (nines 6)) (insert_call (some 92) 112 (bytes (line 1))) 15 0 ∷
    refuses (session empty (nines 25) [] []) (insert_call (some 92) 112 (bytes (line 1))) 15 0 ∷
    -- one free journal word too few: 16
    refuses (session empty (nines 26) [] (nines 5)) (insert_call (some 92) 112 (bytes (line 1))) 16 0 ∷
    []

-- remove and its undo: the words removed are the payload
abbrev pub remove_cases : List Case
remove_cases =
    -- the last component of the inner header: every total on the path falls by 26, the chain's count by 1
    makes (session filled (nines 1) [] (nines 32)) (remove_call 112) (session empty (zeros 26 ++ nines 1) (line 1 ++ under 92 4 112 26) []) ∷
    -- its undo puts the line back under the chain, not under a cell or at the top
    makes (session empty (zeros 26) (line 1 ++ under 92 4 112 26) []) undo_call
    (session filled [] [] (line 1 ++ under 92 4 112 26)) ∷
    -- a header goes with its extent
    makes (session filled [] [] (nines 52)) (remove_call 92)
    (session (cell 0 73 ++ cell 1 27) (zeros 46) (chain 1 27 1 ++ line 1 ++ under 46 4 92 46) []) ∷
    -- an element at the top, and its undo
    makes (session (line 0 ++ raw 0) [] [] (nines 32)) (remove_call 0) (session (raw 0) (zeros 26) (line 0 ++ at_top 4 0 26) []) ∷
    makes (session (raw 0) (zeros 26) (line 0 ++ at_top 4 0 26) []) undo_call (session (line 0 ++ raw 0) [] [] (line 0 ++ at_top 4 0 26)) ∷
    -- no element starts there: 13; one free journal word too few: 16
    refuses (session filled [] [] (nines 32)) (remove_call 113) 13 0 ∷
    refuses (session filled [] [] (nines 32)) (remove_call 138) 13 0 ∷
    refuses (session filled [] [] (nines 31)) (remove_call 112) 16 0 ∷
    []

-- the refusals of undo
abbrev pub undo_cases : List Case
undo_cases =
    -- nothing to undo: 17
    refuses (session (line 0) [] [] (at_top 1 0 0)) undo_call 17 0 ∷
    -- a record that does not fit in the used journal, by its six words and by its payload: 19
    refuses (session (line 0) [] (nines 5) []) undo_call 19 0 ∷
    refuses (session (line 0) [] (nines 1 ++ at_top 4 26 2) []) undo_call 19 0 ∷
    -- a kind that is not 1 to 4
    refuses (session (line 0) [] (at_top 0 0 0) []) undo_call 19 0 ∷
    refuses (session (line 0) [] (at_top 5 0 0) []) undo_call 19 0 ∷
    -- a mark's record without a payload, and with another size than the extent needs
    refuses (session (dead_line 0) [] (marked 0 []) []) undo_call 19 0 ∷
    refuses (session (dead_line 0) [] (marked 0 (0 ∷ 0 ∷ [])) []) undo_call 19 0 ∷
    refuses (session (dead_cell 0 57 ++ raws 15 1) [] (marked 0 (0 ∷ 0 ∷ [])) []) undo_call 19 0 ∷
    refuses (session (dead_cell 0 59 ++ raws 16 1) [] (marked 0 (0 ∷ [])) []) undo_call 19 0 ∷
    -- with a spare bit set
    refuses (session (dead_line 0) [] (marked 0 (2 ∷ [])) []) undo_call 19 0 ∷
    refuses (session dead [] (marked 0 (16 ∷ [])) []) undo_call 19 0 ∷
    refuses (session (dead_cell 0 59 ++ raws 16 1) [] (marked 0 (0 ∷ 2 ∷ [])) []) undo_call 19 0 ∷
    refuses (session dead [] (marked 0 (32768 ∷ [])) []) undo_call 19 0 ∷
    refuses (session (dead_cell 0 59 ++ raws 16 1) [] (marked 0 (0 ∷ 32768 ∷ [])) []) undo_call 19 0 ∷
    -- a payload that is not its kind's
    refuses (session (cell 0 27) [] (nines 1 ++ at_top 2 0 1) []) undo_call 19 0 ∷
    refuses (session (line 0) [] (nines 1 ++ at_top 3 0 1) []) undo_call 19 0 ∷
    -- a header place that is not its kind's
    refuses (session (cell 0 53 ++ line 1) [] (0 ∷ under 0 1 46 1) []) undo_call 19 0 ∷
    refuses (session (cell 0 27) [] (nines 2 ++ under 0 2 0 2) []) undo_call 19 0 ∷
    -- the element of a kind 3 record is not there, or not directly under its header place
    refuses (session (line 0) [] (at_top 3 1 0) []) undo_call 19 0 ∷
    refuses (session filled [] (under 46 3 112 0) []) undo_call 19 0 ∷
    refuses (session filled [] (at_top 3 112 0) []) undo_call 19 0 ∷
    -- a reversal that is not allowed: no element there, not a cell, no name, a piece with C clear
    refuses (session (line 0) [] (marked 1 (0 ∷ [])) []) undo_call 19 0 ∷
    refuses (session (line 0) [] (nines 2 ++ at_top 2 0 2) []) undo_call 19 0 ∷
    refuses (session (cell 0 27) [] (64000 ∷ 0 ∷ at_top 2 0 2) []) undo_call 19 0 ∷
    refuses (session empty (zeros 26) (line 0 ++ under 92 4 112 26) []) undo_call 19 0 ∷
    -- no room to put the element back: 15, and 19 before it
    refuses (session empty (zeros 25) (line 1 ++ under 92 4 112 26) []) undo_call 15 0 ∷
    refuses (session empty (zeros 25) (line 1 ++ under 91 4 112 26) []) undo_call 19 0 ∷
    []

-- a cell in a cell, at words 48 and 2; their extents have 48 and 94 words
abbrev pub nested : List ℕ
nested = raw 0 ++ cell 0 75 ++ cell 1 29 ++ raw 1

-- 0 where nothing is refused, or a refusal's number and place
abbrev pub fault_numbers : Fault? → List ℕ
fault_numbers fine = 0 ∷ []
fault_numbers (fault n p) = n ∷ p ∷ []

-- the list of elements of a file with one cell of the greatest extent; its own words are enough for what an insert asks
abbrev pub largest : List Spot
largest = record { place = 0; end = 65535; depth = 0; header = none } ∷ []

-- 8 of an insert: an extent that would have above 65,535 words
abbrev pub growth_cases : List Case
growth_cases =
    -- 65,535 words are allowed in each
    case (fault_numbers (room_fault 65441 nested (2 ∷ 48 ∷ []))) (0 ∷ []) ∷
    -- more: 8, at the outermost that would have them
    case (fault_numbers (room_fault 65442 nested (2 ∷ 48 ∷ []))) (8 ∷ 2 ∷ []) ∷
    case (fault_numbers (room_fault 65488 nested (48 ∷ []))) (8 ∷ 48 ∷ []) ∷
    -- a piece behind the last component of a cell whose extent has 65,535 words: 8, but the piece's own first, 5 for C clear
    case (fault_numbers (insert_fault 2 largest (cell 0 65516) (some 0) 65535 (raw 1))) (8 ∷ 0 ∷ []) ∷
    case (fault_numbers (insert_fault 2 largest (cell 0 65516) (some 0) 65535 (raw 0))) (5 ∷ 0 ∷ []) ∷
    []

-- the refusals before a call's own: 1, the file's own, 1 if the marker is found before the last used word
abbrev pub open_cases : List Case
open_cases =
    -- a used file that does not end in the word 65535, and an empty one
    refuses (record { file = bytes (line 0); used = 52; journal = []; jused = 0; index = none }) undo_call 1 0 ∷
    refuses (record { file = bytes (65535 ∷ []); used = 0; journal = []; jused = 0; index = none }) undo_call 1 0 ∷
    -- a used length beyond its buffer, of the file and of the journal, and an odd one
    refuses (record { file = bytes (65535 ∷ []); used = 4; journal = []; jused = 0; index = none }) undo_call 1 0 ∷
    refuses (record { file = bytes (65535 ∷ []); used = 2; journal = []; jused = 2; index = none }) undo_call 1 0 ∷
    refuses (record { file = bytes (65535 ∷ []); used = 1; journal = []; jused = 0; index = none }) undo_call 1 0 ∷
    -- an odd buffer, an odd piece
    refuses (record { file = 255 ∷ 255 ∷ 0 ∷ []; used = 2; journal = []; jused = 0; index = none }) undo_call 1 0 ∷
    refuses (session [] (nines 2) [] (nines 6)) (insert_call none 0 (0 ∷ [])) 1 0 ∷
    -- 1 before the file's own, the file's own before 13
    refuses (record { file = bytes (raw 1 ++ (65535 ∷ [])); used = 6; journal = 0 ∷ []; jused = 0; index = none }) (mark_call 1 true) 1 0 ∷
    refuses (session (line 0 ++ raw 1) [] [] []) (mark_call 1 true) 5 26 ∷
    -- the marker before the last used word: 1, before 17
    refuses (session (65535 ∷ []) [] [] []) undo_call 1 0 ∷
    -- a dimension that is not 2 or 3
    case (edited_numbers (step 4 (session [] [] [] []) undo_call).answer) (1 ∷ 0 ∷ []) ∷
    []

-- places of a record as longs, high word first, of an element at word 65,538 and under a header at word 131,073
abbrev pub record_cases : List Case
record_cases =
    case (record_words (flag 65538 (5 ∷ []))) (5 ∷ 1 ∷ 65535 ∷ 65535 ∷ 1 ∷ 2 ∷ 1 ∷ []) ∷
    case (record_words (inserted (some 131073) 131093)) (3 ∷ 2 ∷ 1 ∷ 2 ∷ 21 ∷ 0 ∷ []) ∷
    []

-- a cell marked, renamed, given a component and, after a refused call, rid of it: the four edits' records, one behind another
abbrev pub four_edits : List Call
four_edits = mark_call 0 true ∷ rename_call 0 text417 ∷ insert_call (some 0) 46 (bytes (raw 1)) ∷ mark_call 1 true ∷ remove_call 46 ∷ []

abbrev pub four_records : List ℕ
four_records = marked 0 (0 ∷ []) ++ (49234 ∷ 51080 ∷ at_top 2 0 2) ++ under 0 3 46 0 ++ (raw 1 ++ under 0 4 46 2)

abbrev pub four_undos : List Call
four_undos = undo_call ∷ undo_call ∷ undo_call ∷ undo_call ∷ []

-- calls of a session of the cell 00417, each lent what the last one left, leave a session
abbrev pub leaves : List Call → Session → Case
leaves cs t = case (session_numbers (run_of 2 (session (named_cell 27 49234 51080) (nines 2) [] (nines 29)) cs).session) (session_numbers t)

-- calls one after another
abbrev pub run_cases : List Case
run_cases =
    -- four edits made, with a refused call among them
    leaves four_edits (session (element (first_word 2 0 0 1) 46 0 0 (27 ∷ 55677 ∷ 0 ∷ [])) (zeros 2) four_records []) ∷
    -- all four undone, the last first: the file's words are the original's, the journal's bytes stay
    leaves (four_edits ++ four_undos) (session (named_cell 27 49234 51080) (zeros 2) [] four_records) ∷
    -- one undo more changes nothing
    leaves (four_edits ++ four_undos ++ (undo_call ∷ [])) (session (named_cell 27 49234 51080) (zeros 2) [] four_records) ∷
    []

abbrev pub session_cases : List Case
session_cases =
    mark_cases ++ rename_cases ++ insert_cases ++ remove_cases ++ undo_cases ++ growth_cases ++ open_cases ++ record_cases ++ run_cases

-- a cell in a cell, in a buffer without room
abbrev pub full : Session
full = session nested [] [] []

-- a raw component of 65,442 words, whatever its words after the first two, put in at the end of the inner cell
abbrev pub large_piece : List ℕ → List ℕ
large_piece rest = bytes (live 5 1 ∷ 65440 ∷ []) ++ rest

abbrev pub put_large : List ℕ → Call
put_large rest = insert_call (some 48) 94 (large_piece rest)
