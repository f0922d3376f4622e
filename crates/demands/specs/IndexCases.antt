-- Worked cases of an index (RULES.md, "Index"): what building answers and every byte of the buffer then, the cells in file order, the
-- look-up with its looks, and calls of a session with the index that they leave.
use Rattle.std.specs.Prelude.{ℕ, ◌+◌, ◌*◌, List, [], ◌∷◌, ◌++◌, true, false, length, replicate, Err, Ok, Result}
use Rattle.std.proofs.Math.Option.{Option, none, some}
use Rattle.refusals.specs.declared.Refusal.{Refusal}
use Rattle.words.specs.Words.{words, bytes}
use Rattle.files.specs.Judge.{judge_of}
use Rattle.cells.specs.Cells.{cells_of}
use Rattle.cells.specs.Index.{index_of, index_bytes}
use Rattle.indexing.specs.Indexing.{built_by, left_by}
use Rattle.lookup.specs.LookUp.{look_up, look_up_of}
use Rattle.answers.specs.Answers.{Reply, done, refuse}
use Rattle.dgn_index.specs.IndexNumbers.{cells_reply, listed_by}
use Rattle.edits.specs.Calls.{Index, Session, Call, mark_call, rename_call, insert_call, remove_call, undo_call, step, edited_numbers}
use Rattle.finder.specs.declared.Found.{Found}
use Rattle.finder.specs.declared.Missed.{Missed}
use Rattle.demands.specs.Cases.{Case, case}
use Rattle.demands.specs.Elements.{line, dead_cell, named_cell, library_cell, in_cells, text00417, text417}

-- 0 and the used length, or the refusal's number and place
abbrev pub built_numbers : Result ℕ Refusal → List ℕ
built_numbers (Ok used) = 0 ∷ used ∷ []
built_numbers (Err refusal) = refusal.number ∷ refusal.place ∷ []

-- building of a 2D file's words, with a marker behind them, in a buffer
abbrev pub builds : List ℕ → List ℕ → List ℕ → Case
builds ws index given =
    case
    (built_numbers (built_by (judge_of 2 (bytes (ws ++ (65535 ∷ [])))) (index_bytes 2 (words (bytes (ws ++ (65535 ∷ []))))) (length index))
    ++ left_by (judge_of 2 (bytes (ws ++ (65535 ∷ [])))) (index_bytes 2 (words (bytes (ws ++ (65535 ∷ []))))) (index_of 2 (words (bytes (ws ++ (65535 ∷ []))))) index)
    given

-- the bytes of an entry whose place is below 65,536
abbrev pub entry : ℕ → ℕ → ℕ → List ℕ
entry first second place = bytes (first ∷ second ∷ 0 ∷ place ∷ [])

-- n bytes that no call wrote
abbrev pub sevens : ℕ → List ℕ
sevens n = replicate n 7

abbrev pub build_cases : List Case
build_cases =
    -- no cell: nothing is used, and every byte of the buffer becomes zero, an odd last one too
    builds (line 0) [] (0 ∷ 0 ∷ []) ∷
    builds (line 0) (sevens 3) (0 ∷ 0 ∷ 0 ∷ 0 ∷ 0 ∷ []) ∷
    -- one: a buffer of just its length, one of a byte less, which stays, and one of a byte more
    builds (named_cell 27 49234 51080) (sevens 8) (0 ∷ 8 ∷ entry 49234 51080 0) ∷
    builds (named_cell 27 49234 51080) (sevens 7) (15 ∷ 0 ∷ sevens 7) ∷
    builds (named_cell 27 49234 51080) (sevens 9) (0 ∷ 8 ∷ entry 49234 51080 0 ++ (0 ∷ [])) ∷
    -- two of one name, by place; a library cell among them
    builds (library_cell 1600 0 ++ named_cell 27 1600 0) (sevens 16) (0 ∷ 16 ∷ entry 1600 0 0 ++ entry 1600 0 35) ∷
    -- the order of the words and not of the texts: A, which is 1600, before 0, which is 48000
    builds (named_cell 27 48000 0 ++ named_cell 27 1600 0) (sevens 16) (0 ∷ 16 ∷ entry 1600 0 46 ++ entry 48000 0 0) ∷
    -- the second word decides where the first is the same
    builds (named_cell 27 1600 1600 ++ named_cell 27 1600 0) (sevens 16) (0 ∷ 16 ∷ entry 1600 0 46 ++ entry 1600 1600 0) ∷
    -- deleted cells and nested ones are listed
    builds (dead_cell 0 27 ++ in_cells 2 []) (sevens 24) (0 ∷ 24 ∷ entry 0 0 0 ++ (entry 0 0 46 ++ entry 0 0 92)) ∷
    -- the file's own refusal comes before 15
    case (built_numbers (built_by (judge_of 2 (bytes (named_cell 27 49234 51080))) (index_bytes 2 (named_cell 27 49234 51080)) 0)) (2 ∷ 46 ∷ []) ∷
    []

-- 0 and the numbers, or the refusal's number and place
abbrev pub reply_numbers : Reply ℕ → List ℕ
reply_numbers (done given) = 0 ∷ given
reply_numbers (refuse number place) = number ∷ place ∷ []

-- the cells of a 2D file in file order: the answer, and a buffer of entries then
abbrev pub lists : List ℕ → List ℕ → List ℕ → List ℕ → Case
lists file s answer left =
    case (reply_numbers (cells_reply (judge_of 2 file) (length (cells_of 2 (words file)))) ++ listed_by (judge_of 2 file) (cells_of 2 (words file)) s) (answer ++ left)

-- the cell 0 before the cell A, whose word is smaller
abbrev pub two_cells : List ℕ
two_cells = bytes (named_cell 27 48000 0 ++ named_cell 27 1600 0 ++ (65535 ∷ []))

abbrev pub list_cases : List Case
list_cases =
    -- how many, the file's elements, its depth and its marker; in the order of the file, and bytes past the last entry stay
    lists two_cells (sevens 18) (0 ∷ 2 ∷ 2 ∷ 0 ∷ 92 ∷ []) (entry 48000 0 0 ++ (entry 1600 0 46 ++ sevens 2)) ∷
    -- as many entries as the buffer holds whole, and all cells counted
    lists two_cells (sevens 15) (0 ∷ 2 ∷ 2 ∷ 0 ∷ 92 ∷ []) (entry 48000 0 0 ++ sevens 7) ∷
    lists two_cells [] (0 ∷ 2 ∷ 2 ∷ 0 ∷ 92 ∷ []) [] ∷
    -- the file's own refusal, and the buffer stays
    lists (bytes (named_cell 27 48000 0)) (sevens 8) (2 ∷ 46 ∷ []) (sevens 8) ∷
    []

-- the place and the looks after a 0, or the refusal's number, its place and the looks
abbrev pub found_numbers : Result Found Missed → List ℕ
found_numbers (Ok found) = 0 ∷ found.place ∷ found.looks ∷ []
found_numbers (Err missed) = missed.refusal.number ∷ missed.refusal.place ∷ missed.looks ∷ []

-- an entry of a name and a place, as one number
abbrev pub named : ℕ → ℕ → ℕ
named name place = 4294967296 * name + place

abbrev pub look_cases : List Case
look_cases =
    case (found_numbers (look_up [] 5)) (13 ∷ 0 ∷ 0 ∷ []) ∷
    case (found_numbers (look_up (named 5 7 ∷ []) 5)) (0 ∷ 7 ∷ 2 ∷ []) ∷
    case (found_numbers (look_up (named 5 7 ∷ []) 4)) (13 ∷ 0 ∷ 2 ∷ []) ∷
    case (found_numbers (look_up (named 5 7 ∷ []) 9)) (13 ∷ 0 ∷ 1 ∷ []) ∷
    case (found_numbers (look_up (named 5 7 ∷ named 6 8 ∷ []) 5)) (0 ∷ 7 ∷ 3 ∷ []) ∷
    case (found_numbers (look_up (named 5 7 ∷ named 6 8 ∷ []) 6)) (0 ∷ 8 ∷ 3 ∷ []) ∷
    case (found_numbers (look_up (named 5 7 ∷ named 6 8 ∷ []) 9)) (13 ∷ 0 ∷ 1 ∷ []) ∷
    case (found_numbers (look_up (named 5 7 ∷ named 6 8 ∷ named 6 9 ∷ []) 6)) (0 ∷ 8 ∷ 3 ∷ []) ∷
    case (found_numbers (look_up (named 5 7 ∷ named 6 8 ∷ named 6 9 ∷ named 8 1 ∷ []) 6)) (0 ∷ 8 ∷ 4 ∷ []) ∷
    case (found_numbers (look_up (named 5 7 ∷ named 6 8 ∷ named 6 9 ∷ named 8 1 ∷ []) 8)) (0 ∷ 1 ∷ 3 ∷ []) ∷
    -- over entries that are in no order: what the rule gives
    case (found_numbers (look_up (named 6 8 ∷ named 5 7 ∷ []) 6)) (13 ∷ 0 ∷ 1 ∷ []) ∷
    -- by bytes: a used length that is not whole entries or beyond the buffer, a text that is no name, 00417 found at 46
    case (found_numbers (look_up_of (entry 49234 51080 46) 7 text00417)) (1 ∷ 0 ∷ 0 ∷ []) ∷
    case (found_numbers (look_up_of (entry 49234 51080 46) 16 text00417)) (1 ∷ 0 ∷ 0 ∷ []) ∷
    case (found_numbers (look_up_of (entry 49234 51080 46) 8 (97 ∷ []))) (12 ∷ 0 ∷ 0 ∷ []) ∷
    case (found_numbers (look_up_of (entry 49234 51080 46) 8 text00417)) (0 ∷ 46 ∷ 2 ∷ []) ∷
    case (found_numbers (look_up_of (entry 49234 51080 46) 8 text417)) (13 ∷ 0 ∷ 1 ∷ []) ∷
    []

-- a session by its file's words, with room for 46 more, its journal's words with none used, and an index with so many bytes used
abbrev pub beside : List ℕ → List ℕ → List ℕ → ℕ → Session
beside ws journal index iused = record {
  file = bytes (ws ++ (65535 ∷ replicate 46 0));
  used = 2 * (length ws + 1);
  journal = bytes journal;
  jused = 0;
  index = some (record { buffer = index; iused = iused });
}

-- the used length and every byte of an index
abbrev pub index_numbers : Option Index → List ℕ
index_numbers none = []
index_numbers (some i) = i.iused ∷ i.buffer

-- what a call of a 2D session answers, and the index that it leaves
abbrev pub lends : Session → Call → List ℕ → List ℕ → Case
lends s c answer index = case (edited_numbers (step 2 s c).answer ++ index_numbers (step 2 s c).after.index) (answer ++ index)

-- the 2D cell 00417 without components, 46 words
abbrev pub seal : List ℕ
seal = named_cell 27 49234 51080

abbrev pub beside_cases : List Case
beside_cases =
    -- whatever bytes are lent, a call that is made leaves the index of the file and zeros
    lends (beside seal (replicate 7 9) (sevens 9) 8) (mark_call 0 true) (0 ∷ 94 ∷ 14 ∷ []) (8 ∷ entry 49234 51080 0 ++ (0 ∷ [])) ∷
    -- a rename: the new name, at its place in the order
    lends (beside (named_cell 27 1600 0 ++ seal) (replicate 8 9) (sevens 16) 0) (rename_call 0 text417) (0 ∷ 186 ∷ 16 ∷ []) (16 ∷ entry 49234 51080 46 ++ entry 55677 0 0) ∷
    -- an insert of a cell: its entry, and the place of the cell behind it moved
    lends (beside seal (replicate 6 9) (sevens 16) 8) (insert_call none 0 (bytes (named_cell 27 1600 0))) (0 ∷ 186 ∷ 12 ∷ []) (16 ∷ entry 1600 0 0 ++ entry 49234 51080 46) ∷
    -- a remove: no entry is left
    lends (beside seal (replicate 52 9) (entry 49234 51080 0) 8) (remove_call 0) (0 ∷ 2 ∷ 104 ∷ []) (0 ∷ replicate 8 0) ∷
    -- 15 where the index after the call does not fit, before 16, and the index stays
    lends (beside seal [] (sevens 7) 0) (mark_call 0 true) (15 ∷ 0 ∷ []) (0 ∷ sevens 7) ∷
    lends (beside seal (replicate 6 9) (sevens 15) 8) (insert_call none 0 (bytes (named_cell 27 1600 0))) (15 ∷ 0 ∷ []) (8 ∷ sevens 15) ∷
    -- the call's own refusal before 15
    lends (beside seal [] [] 0) (mark_call 0 false) (14 ∷ 0 ∷ []) (0 ∷ []) ∷
    -- 1 for a used length that is not whole entries, or beyond the buffer
    lends (beside seal (replicate 7 9) (sevens 8) 4) (mark_call 0 true) (1 ∷ 0 ∷ []) (4 ∷ sevens 8) ∷
    lends (beside seal (replicate 7 9) (sevens 8) 16) (mark_call 0 true) (1 ∷ 0 ∷ []) (16 ∷ sevens 8) ∷
    -- an undo of a remove needs room for the entry that comes back
    lends (record { file = bytes (65535 ∷ replicate 46 0); used = 2; journal = bytes (seal ++ (4 ∷ 65535 ∷ 65535 ∷ 0 ∷ 0 ∷ 46 ∷ [])); jused = 104; index = some (record { buffer = sevens 8; iused = 0 }) })
    undo_call (0 ∷ 94 ∷ 0 ∷ []) (8 ∷ entry 49234 51080 0) ∷
    lends (record { file = bytes (65535 ∷ replicate 46 0); used = 2; journal = bytes (seal ++ (4 ∷ 65535 ∷ 65535 ∷ 0 ∷ 0 ∷ 46 ∷ [])); jused = 104; index = some (record { buffer = sevens 7; iused = 0 }) })
    undo_call (15 ∷ 0 ∷ []) (0 ∷ sevens 7) ∷
    []

abbrev pub index_cases : List Case
index_cases = build_cases ++ list_cases ++ look_cases ++ beside_cases
