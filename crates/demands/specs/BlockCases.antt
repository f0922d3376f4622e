-- Worked cases of stored journals (RULES.md, "Stored journals"): what the calls answer and leave of the buffer, the bytes of blocks, each
-- fault of a block.
use Rattle.std.specs.Prelude.{ℕ, ◌*◌, Bool, cond, List, [], ◌∷◌, ◌++◌, take, drop, replicate, Err, Ok, Result}
use Rattle.refusals.specs.declared.Refusal.{Refusal}
use Rattle.words.specs.Words.{put_word}
use Rattle.blocks.specs.Blocks.{closed, block, blocks_for, stored, good, flat_of}
use Rattle.blocks.specs.Calls.{to_blocks, from_blocks, left_by}
use Rattle.demands.specs.Cases.{Case, case}

-- 0 and the bytes written, or the refusal
abbrev pub moved_shown : Result ℕ Refusal → List ℕ
moved_shown (Ok n) = 0 ∷ n ∷ []
moved_shown (Err refusal) = refusal.number ∷ refusal.place ∷ []

-- 1 where a block is good
abbrev pub good_shown : Bool → List ℕ
good_shown b = cond b 1 0 ∷ []

-- the answer for these blocks, with room for 2,000 bytes
abbrev pub given : List ℕ → List ℕ
given s = moved_shown (from_blocks s 2000)

-- n bytes
abbrev pub ones : ℕ → List ℕ
ones n = replicate n 1

abbrev pub none : ℕ → List ℕ
none n = replicate n 0

abbrev pub two : List ℕ
two = 1 ∷ 2 ∷ []

-- a full block of twos
abbrev pub twos : List ℕ
twos = stored (replicate 508 2)

-- a buffer of n sevens after a call with the journal j, or with the blocks s
abbrev pub after_to : List ℕ → ℕ → List ℕ
after_to j n = left_by (to_blocks j n) (stored j) (replicate n 7)

abbrev pub after_from : List ℕ → ℕ → List ℕ
after_from s n = left_by (from_blocks s n) (flat_of s) (replicate n 7)

abbrev pub block_cases : List Case
block_cases =
    -- no bytes; two; a full block; two bytes more; the longest
    case (moved_shown (to_blocks [] 0)) (0 ∷ 0 ∷ []) ∷
    case (moved_shown (from_blocks [] 0)) (0 ∷ 0 ∷ []) ∷
    case (moved_shown (to_blocks two 512)) (0 ∷ 512 ∷ []) ∷
    case (moved_shown (to_blocks two 511)) (15 ∷ 0 ∷ []) ∷
    case (moved_shown (to_blocks (ones 1) 512)) (1 ∷ 0 ∷ []) ∷
    case (moved_shown (to_blocks (ones 1) 0)) (1 ∷ 0 ∷ []) ∷
    case (stored two) (1 ∷ 2 ∷ (none 506 ++ (2 ∷ 0 ∷ 253 ∷ 253 ∷ []))) ∷
    case (moved_shown (to_blocks (ones 508) 512)) (0 ∷ 512 ∷ []) ∷
    case (stored (ones 508)) (ones 508 ++ (252 ∷ 1 ∷ 6 ∷ 255 ∷ [])) ∷
    case (moved_shown (to_blocks (ones 510) 1023)) (15 ∷ 0 ∷ []) ∷
    case (moved_shown (to_blocks (ones 510) 1024)) (0 ∷ 1024 ∷ []) ∷
    case (stored (ones 510)) (ones 508 ++ (252 ∷ 1 ∷ 6 ∷ 255 ∷ (ones 2 ++ (none 506 ++ (2 ∷ 0 ∷ 253 ∷ 254 ∷ []))))) ∷
    case (512 * blocks_for 1048574 ∷ 512 * blocks_for 1048576 ∷ []) (1057280 ∷ 1057280 ∷ []) ∷
    -- and back
    case (moved_shown (from_blocks (stored two) 2)) (0 ∷ 2 ∷ []) ∷
    case (moved_shown (from_blocks (stored two) 1)) (15 ∷ 0 ∷ []) ∷
    case (flat_of (stored (ones 510))) (ones 510) ∷
    -- an odd length; a short end, alone, behind a full block and behind one that is part full; 22 before 15
    case (given (take 511 (stored two))) (1 ∷ 0 ∷ []) ∷
    case (given (take 510 (stored two))) (22 ∷ 0 ∷ []) ∷
    case (given (twos ++ none 2)) (22 ∷ 1 ∷ []) ∷
    case (given (stored two ++ none 2)) (22 ∷ 0 ∷ []) ∷
    case (moved_shown (from_blocks (take 510 (stored two)) 0)) (22 ∷ 0 ∷ []) ∷
    -- a wrong check; counts of 0, of 510, and odd ones, with a right check
    case (given (put_word (stored two) 255 65020)) (22 ∷ 0 ∷ []) ∷
    case (given (closed (none 508) 0)) (22 ∷ 0 ∷ []) ∷
    case (given (closed (none 508) 1)) (22 ∷ 0 ∷ []) ∷
    case (given (closed (none 508) 3)) (22 ∷ 0 ∷ []) ∷
    case (given (closed (none 508) 507)) (22 ∷ 0 ∷ []) ∷
    case (given (closed (none 508) 509)) (22 ∷ 0 ∷ []) ∷
    case (given (closed (none 508) 510)) (22 ∷ 0 ∷ []) ∷
    case (given (closed (none 508) 508)) (0 ∷ 508 ∷ []) ∷
    -- a rest that is not zero, at its first byte and at its last
    case (given (closed (1 ∷ 2 ∷ 3 ∷ none 505) 2)) (22 ∷ 0 ∷ []) ∷
    case (given (closed (1 ∷ 2 ∷ (none 505 ++ ones 1)) 2)) (22 ∷ 0 ∷ []) ∷
    -- the first bad block, whatever its fault is: a rest that is not zero, and a wrong check behind it
    case (given (closed (1 ∷ 2 ∷ 3 ∷ none 505) 2 ++ put_word twos 255 0)) (22 ∷ 0 ∷ []) ∷
    -- part full before the last; an empty last block
    case (given (stored two ++ twos)) (22 ∷ 0 ∷ []) ∷
    case (given (twos ++ (stored two ++ stored two))) (22 ∷ 1 ∷ []) ∷
    case (given (twos ++ closed (none 508) 0)) (22 ∷ 1 ∷ []) ∷
    -- the 2,065th block with 64 bytes and with 66, the 2,064th with 508; a 2,066th
    case (good_shown (good 2064 (block (ones 64)))) (1 ∷ []) ∷
    case (good_shown (good 2064 (block (ones 66)))) (0 ∷ []) ∷
    case (good_shown (good 2063 (block (ones 508)))) (1 ∷ []) ∷
    case (good_shown (good 2065 (block (ones 2)))) (0 ∷ []) ∷
    -- full blocks that changed places, and one that is doubled, are taken; so is what is left without the last block
    case (given (twos ++ stored (ones 508))) (0 ∷ 1016 ∷ []) ∷
    case (flat_of (twos ++ stored (ones 508))) (replicate 508 2 ++ ones 508) ∷
    case (given (twos ++ twos)) (0 ∷ 1016 ∷ []) ∷
    case (given (take 512 (stored (ones 510)))) (0 ∷ 508 ∷ []) ∷
    -- and two words of a block that changed places: the sum stays
    case (put_word (put_word (stored (1 ∷ 0 ∷ 2 ∷ 0 ∷ [])) 0 2) 1 1) (stored (2 ∷ 0 ∷ 1 ∷ 0 ∷ [])) ∷
    case (given (stored (2 ∷ 0 ∷ 1 ∷ 0 ∷ []))) (0 ∷ 4 ∷ []) ∷
    -- the buffer: bytes behind what is written stay, and a refusal leaves it
    case (after_to two 514) (stored two ++ (7 ∷ 7 ∷ [])) ∷
    case (after_to two 511) (replicate 511 7) ∷
    case (after_to (ones 1) 514) (replicate 514 7) ∷
    case (after_from (stored two) 4) (1 ∷ 2 ∷ 7 ∷ 7 ∷ []) ∷
    case (after_from (stored two) 1) (7 ∷ []) ∷
    case (after_from (twos ++ closed (none 508) 0) 600) (replicate 600 7) ∷
    []
