-- Blocks of more than 1048576 bytes: the first 2064 are good, the next one uses more than it may, and more blocks are too long.
use Rattle.std.proofs.Common.{◌≡◌, ℕ, zero, suc, ◌+◌, ◌*◌, ◌%◌, ◌<◌, ◌≤◌, Bool, true, false, cond, eqb, leb, List, ◌++◌, length, take, drop, sym, refl, ap, ◌∙◌, arith, length-append, length-drop, length-take, take_at, drop_at, leb-false, leb-true}
use mathlib.Core.Bool.{and-false}
use borrow.Author.Tests.{lt-leb}
use Rattle.refusals.specs.Refusals.{refused_with}
use Rattle.blocks.specs.Blocks.{block, stored_from, stored, used, fewest, most, good, blocks_in, bad_from, first_bad}
use Rattle.blocks.specs.Calls.{from_blocks}
use Rattle.blocks.specs.Promises.{AboveLimit, JoinedTooLong}
use Rattle.blocks.proofs.Block.{length_block, block_used, block_sound}
use Rattle.blocks.proofs.Journal.{take_short, fewest_le, most_le, most_is, good_is, length_stored_from, length_stored, for_is, for_low, for_in}
use Rattle.blocks.proofs.Answers.{bad_answer}
use Rattle.blocks.proofs.Damage.{stored_ok_lem, bad_beside}
use Rattle.blocks.proofs.Joined.{joined, stored_one}

-- n full blocks from block k on, and block 2064 behind them
above : (n k : ℕ) (j : List ℕ) → k + n ≡ 2064 → 508 * n + 64 < length j → length j ≤ 508 * suc n → bad_from (suc n) k (stored_from (suc n) j) ≡ 2064
above zero k j e a b =
    let c = take 508 j in
    let s = block (take 508 j) ++ stored_from 0 (drop 508 j) in
    let lc = length-take 508 j in
    let t : take 512 s ≡ block c = take_at (block c) (stored_from 0 (drop 508 j)) 512 (length_block c (take_short 508 j)) in
    let u : used (take 512 s) ≡ length c = ap used t ∙ block_used c (take_short 508 j) in
    let bad : good k s ≡ false =
    bad_beside k s (λ o. omega (arith, (most_is k (used (take 512 s)) (omega (arith, u, lc, a)) o.high).1, u, lc, a, e)) in
    rw bad (omega arith)
above (suc n) k j e a b =
    let c = take 508 j in
    let s = block (take 508 j) ++ stored_from (suc n) (drop 508 j) in
    let lc = length-take 508 j in
    let ld = length-drop 508 j in
    let lb = length_block (take 508 j) (take_short 508 j) in
    let full : length c ≡ 508 = omega arith in
    let t : take 512 s ≡ block c = take_at (block c) (stored_from (suc n) (drop 508 j)) 512 lb in
    let d : drop 512 s ≡ stored_from (suc n) (drop 508 j) = drop_at (block c) (stored_from (suc n) (drop 508 j)) 512 lb in
    let o = block_sound (fewest (512 * suc (suc n))) (most k) c (take_short 508 j) (omega arith)
    (fewest_le (512 * suc (suc n)) (length c) (λ h. omega (arith, full)) (omega (arith, full)))
    (most_le k (length c) (take_short 508 j) (omega arith)) in
    let g : good k s ≡ true = good_is k (512 * suc (suc n)) s (block c) t (length_stored_from (suc (suc n)) j) o in
    let i = above n (suc k) (drop 508 j) (omega arith) (omega arith) (omega arith) in
    rw (g, d) i

last_above : (j : List ℕ) (room : ℕ) → 1048576 < length j → length j ≤ 508 * 2065 → from_blocks (stored j) room ≡ refused_with 22 2064
unfolding first_bad stored
last_above j room a b =
    let n = for_is 2065 (length j) b (omega arith) in
    let l : length (stored j) ≡ 512 * 2065 = length_stored j ∙ ap (λ i. 512 * i) n in
    let blocks : blocks_in (length (stored j)) ≡ 2065 = ap blocks_in l ∙ for_in 2065 in
    let bad : first_bad (stored j) ≡ 2064 =
    ap (λ i. bad_from i 0 (stored j)) blocks ∙ ap (λ i. bad_from 2065 0 (stored_from i j)) n ∙ above 2064 0 j (omega arith) (omega arith) b in
    bad_answer (stored j) room 2064 (stored_ok_lem (length (stored j)) (omega arith) (omega arith)) bad (omega arith)

more_above : (j : List ℕ) (room : ℕ) → 508 * 2065 < length j → from_blocks (stored j) room ≡ refused_with 1 0
more_above j room a =
    let l = length_stored j in
    let n = for_low (length j) in
    rw (lt-leb (length (stored j)) 1057280 (omega arith), and-false (eqb (length (stored j) % 2) 0)) refl

too_long : (j : List ℕ) (room : ℕ) → 1048576 < length j → from_blocks (stored j) room ≡ cond (leb (length j) (508 * 2065)) (refused_with 22 2064) (refused_with 1 0)
too_long j room a = go (leb (length j) (508 * 2065)) refl
  where
    go : (b : Bool) → leb (length j) (508 * 2065) ≡ b → from_blocks (stored j) room ≡ cond b (refused_with 22 2064) (refused_with 1 0)
    go true e = last_above j room a (leb-true (length j) (508 * 2065) e)
    go false e = more_above j room (leb-false (length j) (508 * 2065) e)

pub joined_too_long : JoinedTooLong
joined_too_long a b room e h = ap (λ t. from_blocks t room) (sym (joined a b e)) ∙ too_long (a ++ b) room h

pub above_limit : AboveLimit
above_limit a c room e h l =
    let n = length-append a c in
    let s : stored (a ++ c) ≡ stored a ++ block c = joined a c (omega arith) ∙ ap (λ r. stored a ++ r) (stored_one c (omega arith) l) in
    ap (λ t. from_blocks t room) (sym s) ∙ last_above (a ++ c) room (omega arith) (omega arith)
