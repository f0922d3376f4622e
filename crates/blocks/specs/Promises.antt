-- What is promised of stored journals: how the calls refuse, what they accept, that they undo each other, and which damage is seen
-- and which is not.
use Rattle.std.specs.Prelude.{◌≡◌, ℕ, ◌+◌, ◌-◌, ◌*◌, ◌/◌, ◌%◌, ◌<◌, ◌≤◌, true, cond, ◌≢◌, ◌⊎◌, ◌↔◌, List, ◌++◌, length, take, drop, nat_le, Ok, Result}
use Rattle.words.specs.Words.{words, Below, word_at, put_word, over}
use Rattle.limits.specs.Limits.{size_ok}
use Rattle.refusals.specs.Refusals.{refused_with}
use Rattle.refusals.specs.declared.Refusal.{Refusal}
use Rattle.blocks.specs.Blocks.{block, blocks_for, stored, used, blocks_in, first_bad, flat_of, stored_ok, accepted}
use Rattle.blocks.specs.Calls.{within, to_blocks, from_blocks, Moves}

---- refusals: the number and the place, and the buffer stays

-- a journal to blocks
abbrev pub ToRefused : Type 0
ToRefused =
    (j s t : List ℕ) (n p : ℕ) → Moves (to_blocks j (length s)) (stored j) s (refused_with n p) t → ((n ≡ 1) ⊎ (n ≡ 15)) × (p ≡ 0) × (t ≡ s)

-- blocks to a journal: the place of 22 is one of the blocks, a short end among them
abbrev pub FromRefused : Type 0
FromRefused =
    (b s t : List ℕ) (n p : ℕ) → Moves (from_blocks b (length s)) (flat_of b) s (refused_with n p) t →
    ((((n ≡ 1) ⊎ (n ≡ 15)) × (p ≡ 0)) ⊎ ((n ≡ 22) × (p < blocks_in (length b)))) × (t ≡ s)

---- acceptance

-- accepted are the bytes whose answer is that of the room alone
abbrev pub AcceptedExactly : Type 0
AcceptedExactly = (s : List ℕ) (room : ℕ) → accepted s ≡ true ↔ (from_blocks s room ≡ within (length (flat_of s)) room)

-- a journal that may be stored is written as blocks where there is room for them
abbrev pub StoredWithRoom : Type 0
StoredWithRoom =
    (j : List ℕ) (room : ℕ) → size_ok (length j) ≡ true → 512 * blocks_for (length j) ≤ room → to_blocks j room ≡ Ok (512 * blocks_for (length j))

-- and its blocks as the journal where there is room for it
abbrev pub GivenWithRoom : Type 0
GivenWithRoom = (j : List ℕ) (room : ℕ) → size_ok (length j) ≡ true → length j ≤ room → from_blocks (stored j) room ≡ Ok (length j)

---- there and back

-- the blocks of every journal that may be stored are accepted and give the journal
abbrev pub JournalBack : Type 0
JournalBack = (j : List ℕ) → size_ok (length j) ≡ true → (accepted (stored j) ≡ true) × (flat_of (stored j) ≡ j)

-- all accepted bytes give a journal that may be stored and whose blocks they are
abbrev pub BlocksBack : Type 0
BlocksBack = (s : List ℕ) → Below 256 s → accepted s ≡ true → (size_ok (length (flat_of s)) ≡ true) × (stored (flat_of s) ≡ s)

-- s is the blocks of a journal that may be stored
pub record StoredOf (s : List ℕ) : Type 0 where
  pub journal : List ℕ
  pub ok : size_ok (length journal) ≡ true
  pub is : stored journal ≡ s

abbrev pub StoredExactly : Type 0
StoredExactly = (s : List ℕ) → Below 256 s → accepted s ≡ true ↔ StoredOf s

-- of the calls themselves: what the first one wrote is handed to the second, which has room enough
abbrev pub JournalMovedBack : Type 0
JournalMovedBack =
    (j s t o u : List ℕ) (n : ℕ) (r : Result ℕ Refusal) → Moves (to_blocks j (length s)) (stored j) s (Ok n) t → length j ≤ length o →
    Moves (from_blocks (take n t) (length o)) (flat_of (take n t)) o r u → (r ≡ Ok (length j)) × (u ≡ over o 0 j)

abbrev pub BlocksMovedBack : Type 0
BlocksMovedBack =
    (b s t o u : List ℕ) (n : ℕ) (r : Result ℕ Refusal) → Below 256 b → Moves (from_blocks b (length s)) (flat_of b) s (Ok n) t → length b ≤ length o →
    Moves (to_blocks (take n t) (length o)) (stored (take n t)) o r u → (r ≡ Ok (length b)) × (u ≡ over o 0 b)

---- damage that is always seen: each with any room, and with the block that is named

-- another word at any place of accepted bytes
abbrev pub WordChanged : Type 0
WordChanged =
    (s : List ℕ) (i w room : ℕ) → Below 256 s → accepted s ≡ true → i < length s / 2 → w < 65536 → w ≢ word_at (words s) i →
    from_blocks (put_word s i w) room ≡ refused_with 22 (i / 256)

-- bytes t as many as accepted s, in whose block k one word is another, whatever the other blocks are: 22 at that block or before it
abbrev pub WordOfBlockChanged : Type 0
WordOfBlockChanged =
    (s t : List ℕ) (k i w room : ℕ) → Below 256 s → accepted s ≡ true → 256 * k + i < length s / 2 → i < 256 → w < 65536 →
    w ≢ word_at (words s) (256 * k + i) → length t ≡ length s → take 512 (drop (512 * k) t) ≡ take 512 (drop (512 * k) (put_word s (256 * k + i) w)) →
    (from_blocks t room ≡ refused_with 22 (first_bad t)) × (first_bad t ≤ k)

-- an end inside a block
abbrev pub CutInside : Type 0
CutInside =
    (s : List ℕ) (m room : ℕ) → accepted s ≡ true → m ≤ length s → m % 2 ≡ 0 → m % 512 ≢ 0 → from_blocks (take m s) room ≡ refused_with 22 (m / 512)

-- anything behind a last block that is part full, also that block a second time
abbrev pub BehindPartFull : Type 0
BehindPartFull =
    (s t : List ℕ) (room : ℕ) → accepted s ≡ true → 0 < length s → used (drop (length s - 512) s) < 508 → 0 < length t →
    stored_ok (length (s ++ t)) ≡ true → from_blocks (s ++ t) room ≡ refused_with 22 (length s / 512 - 1)

-- a last block that is part full, moved forward over full blocks b
abbrev pub PartFullMoved : Type 0
PartFullMoved =
    (a b c : List ℕ) (room : ℕ) → length a % 508 ≡ 0 → length b % 508 ≡ 0 → 0 < length b → 0 < length c → length c < 508 →
    size_ok (length (a ++ (b ++ c))) ≡ true → from_blocks (stored a ++ (block c ++ stored b)) room ≡ refused_with 22 (length a / 508)

-- a 2,065th block that uses more than 64 bytes, though it is a block in itself
abbrev pub AboveLimit : Type 0
AboveLimit =
    (a c : List ℕ) (room : ℕ) → length a ≡ 508 * 2064 → 64 < length c → length c ≤ 508 → from_blocks (stored a ++ block c) room ≡ refused_with 22 2064

-- full blocks a and blocks b behind them, too long together: 22 at the last one where they are 2,065 blocks, 1 where they are more
abbrev pub JoinedTooLong : Type 0
JoinedTooLong =
    (a b : List ℕ) (room : ℕ) → length a % 508 ≡ 0 → 1048576 < length (a ++ b) →
    from_blocks (stored a ++ stored b) room ≡ cond (nat_le (length (a ++ b)) (508 * 2065)) (refused_with 22 2064) (refused_with 1 0)

---- damage that is not seen: what is left is the blocks of another journal that may be stored

-- the last blocks are missing, or all of them
abbrev pub CutBetween : Type 0
CutBetween =
    (j : List ℕ) (k : ℕ) → size_ok (length j) ≡ true → 508 * k ≤ length j → (take (512 * k) (stored j) ≡ stored (take (508 * k) j)) ×
    (accepted (take (512 * k) (stored j)) ≡ true)

-- full blocks a, and blocks b behind them: so also full blocks left out, in another order, replaced by other full ones, and doubled
-- where the journal is then not too long
abbrev pub FullBlocks : Type 0
FullBlocks =
    (a b : List ℕ) → length a % 508 ≡ 0 → size_ok (length (a ++ b)) ≡ true → (stored a ++ stored b ≡ stored (a ++ b)) ×
    (accepted (stored a ++ stored b) ≡ true)

-- two runs of full blocks change places, with full blocks between them or none
abbrev pub Swapped : Type 0
Swapped =
    (p a m b q : List ℕ) → length p % 508 ≡ 0 → length a % 508 ≡ 0 → length m % 508 ≡ 0 → length b % 508 ≡ 0 →
    size_ok (length (p ++ (a ++ (m ++ (b ++ q))))) ≡ true →
    (stored (p ++ (a ++ (m ++ (b ++ q)))) ≡ stored p ++ (stored a ++ (stored m ++ (stored b ++ stored q))))
    × (stored p ++ (stored b ++ (stored m ++ (stored a ++ stored q))) ≡ stored (p ++ (b ++ (m ++ (a ++ q)))))
    × (accepted (stored p ++ (stored b ++ (stored m ++ (stored a ++ stored q)))) ≡ true)
