-- A journal's bytes in blocks of 512 bytes (RULES.md, "Stored journals"): 508 of the journal, a word with how many of them are used,
-- and a word that makes the sum of the block's 256 words zero in 16 bits.
use Rattle.std.specs.Prelude.{ℕ, zero, suc, ◌+◌, ◌-◌, ◌*◌, ◌/◌, ◌%◌, Bool, true, cond, ◌&&◌, List, [], ◌∷◌, ◌++◌, length, take, drop, replicate, ◌==◌, nat_le, nat_lt}
use Rattle.words.specs.Words.{words, bytes, word_at}

---- one block

-- the words added up, not yet in 16 bits
abbrev pub sum : List ℕ → ℕ
sum [] = 0
sum (w ∷ ws) = w + sum ws

-- the word that makes a sum zero in 16 bits
unfoldable pub completing : ℕ → ℕ
completing n = (65536 - n % 65536) % 65536

-- a chunk of at most 508 bytes, and zeros up to 508
unfoldable pub padded : List ℕ → List ℕ
padded c = c ++ replicate (508 - length c) 0

-- the block of 508 bytes of which u are used
unfoldable pub closed : List ℕ → ℕ → List ℕ
closed p u = p ++ bytes (u ∷ completing (sum (words p) + u) ∷ [])

-- the block of a chunk
unfoldable pub block : List ℕ → List ℕ
block c = closed (padded c) (length c)

---- a journal

-- as many blocks as hold n bytes
unfoldable pub blocks_for : ℕ → ℕ
blocks_for n = (n + 507) / 508

-- the first n blocks of a journal, and all of them
abbrev pub stored_from : ℕ → List ℕ → List ℕ
stored_from zero j = []
stored_from (suc n) j = block (take 508 j) ++ stored_from n (drop 508 j)

unfoldable pub stored : List ℕ → List ℕ
stored j = stored_from (blocks_for (length j)) j

---- and back

-- how many of a block's bytes are used, by its own word, and these bytes
unfoldable pub used : List ℕ → ℕ
used b = word_at (words b) 254

unfoldable pub chunk : List ℕ → List ℕ
chunk b = take (used b) b

-- the bytes of the 508 that are not used, which are zero
unfoldable pub rest : List ℕ → List ℕ
rest b = take (508 - used b) (drop (used b) b)

abbrev pub zeros : List ℕ → Bool
zeros [] = true
zeros (x ∷ xs) = x == 0 && zeros xs

-- the bytes b are a block that uses at least `least` and at most `most` bytes
unfoldable pub sound : ℕ → ℕ → List ℕ → Bool
sound least most b =
    (length b == 512)
    && (nat_le least (used b)
    && (nat_le (used b) most
    && (used b % 2 == 0
    && (zeros (rest b)
    && sum (words b) % 65536 == 0))))

-- the fewest bytes that a block may use where n bytes are left, its own among them: all where more stands behind it
unfoldable pub fewest : ℕ → ℕ
fewest n = cond (nat_lt 512 n) 508 2

-- the most bytes that block k may use, so that the journal has no more than 1048576
unfoldable pub most : ℕ → ℕ
most k = cond (nat_lt k 2064) 508 (1048576 - 508 * k)

-- the bytes s from block k on begin with a good block
unfoldable pub good : ℕ → List ℕ → Bool
good k s = sound (fewest (length s)) (most k) (take 512 s)

-- as many blocks as n bytes take, a short end counted
unfoldable pub blocks_in : ℕ → ℕ
blocks_in n = (n + 511) / 512

-- the number of the first bad block among n from block k on; k + n where there is none
abbrev pub bad_from : ℕ → ℕ → List ℕ → ℕ
bad_from zero k s = k
bad_from (suc n) k s = cond (good k s) (bad_from n (suc k) (drop 512 s)) k

-- among all of them
unfoldable pub first_bad : List ℕ → ℕ
first_bad s = bad_from (blocks_in (length s)) 0 s

-- what the first n blocks hold of a journal, and what all of them hold
abbrev pub flat_from : ℕ → List ℕ → List ℕ
flat_from zero s = []
flat_from (suc n) s = chunk (take 512 s) ++ flat_from n (drop 512 s)

unfoldable pub flat_of : List ℕ → List ℕ
flat_of s = flat_from (blocks_in (length s)) s

---- what is accepted

-- bytes of blocks are even in number and at most 1,057,280, which are 2,065 blocks
abbrev pub stored_ok : ℕ → Bool
stored_ok n = n % 2 == 0 && nat_le n 1057280

-- and no block is bad
abbrev pub accepted : List ℕ → Bool
accepted s = stored_ok (length s) && first_bad s == blocks_in (length s)
