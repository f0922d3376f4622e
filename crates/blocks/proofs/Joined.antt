-- Full blocks and blocks behind them are the blocks of both journals joined, so no order of full blocks is refused; only a last one is part full.
use Rattle.std.proofs.Common.{◌≡◌, ℕ, zero, suc, ◌+◌, ◌-◌, ◌*◌, ◌/◌, ◌%◌, ◌<◌, ◌≤◌, true, List, [], ◌∷◌, ◌++◌, length, take, drop, sym, refl, ap, ◌∙◌, subst, append_assoc, append-nil, zero-add, arith, length-append, length-drop, length-take-le, take_all, take-take, drop_at}
use lib.Seq.{take-append-le, take-append-add, drop-append-le}
use Rattle.limits.specs.Limits.{size_ok}
use Rattle.refusals.specs.Refusals.{refused_with}
use Rattle.blocks.specs.Blocks.{block, blocks_for, stored_from, stored, used, accepted}
use Rattle.blocks.specs.Calls.{from_blocks}
use Rattle.blocks.specs.Promises.{CutBetween, FullBlocks, Swapped, PartFullMoved}
use Rattle.blocks.proofs.Block.{length_block, block_used}
use Rattle.blocks.proofs.Journal.{length_stored, take_short, flat_ok, flat_parts, stored_accepted, journal_back}
use Rattle.blocks.proofs.Damage.{drop_take, stored_ok_lem, behind_part_full}

---- the first blocks

for_whole : (k : ℕ) → blocks_for (508 * k) ≡ k
unfolding blocks_for
for_whole k = omega arith

for_more : (m k : ℕ) → 508 * k ≤ m → k ≤ blocks_for m
unfolding blocks_for
for_more m k h = omega arith

first_blocks : (k n : ℕ) (j : List ℕ) → k ≤ n → 508 * k ≤ length j → take (512 * k) (stored_from n j) ≡ stored_from k (take (508 * k) j)
first_blocks zero n j h l = refl
first_blocks (suc k) zero j h l = absurd (omega (arith, h))
first_blocks (suc k) (suc n) j h l =
    let b = block (take 508 j) in
    let lb : length (block (take 508 j)) ≡ 512 = length_block (take 508 j) (take_short 508 j) in
    let d = length-drop 508 j in
    let m : 512 * suc k ≡ 512 + 512 * k = omega arith in
    let w : 508 * suc k - 508 ≡ 508 * k = omega arith in
    let i = first_blocks k n (drop 508 j) (omega (arith, h)) (omega (arith, d, l)) in
    let t : take 508 (take (508 * suc k) j) ≡ take 508 j = take-take 508 (508 * suc k) j (omega arith) in
    let r : drop 508 (take (508 * suc k) j) ≡ take (508 * k) (drop 508 j) =
    drop_take 508 (508 * suc k) j (omega arith) ∙ ap (λ x. take x (drop 508 j)) w in
    ap (λ x. take x (b ++ stored_from n (drop 508 j))) m
    ∙ behind b (stored_from n (drop 508 j)) (512 * k) lb
    ∙ ap (λ x. b ++ x) i
    ∙ sym (ap (λ x. block x ++ stored_from k (drop 508 (take (508 * suc k) j))) t ∙ ap (λ x. b ++ stored_from k x) r)
  where
    behind : (p q : List ℕ) (x : ℕ) → length p ≡ 512 → take (512 + x) (p ++ q) ≡ p ++ take x q
    behind p q x e = subst (λ (y : ℕ). take (y + x) (p ++ q) ≡ p ++ take x q) e (take-append-add p q x)

pub cut_between : CutBetween
unfolding stored
cut_between j k e l =
    let p = flat_parts (length j) e in
    let n = length-take-le (508 * k) j l in
    let same : take (512 * k) (stored j) ≡ stored (take (508 * k) j) =
    first_blocks k (blocks_for (length j)) j (for_more (length j) k l) l
    ∙ ap (λ x. stored_from x (take (508 * k) j)) (sym (ap blocks_for n ∙ for_whole k)) in
    let ok = stored_accepted (take (508 * k) j) (omega arith) (omega (arith, n, p.1, l)) in
    (same, subst (λ (x : List ℕ). accepted x ≡ true) (sym same) ok)

---- full blocks, and blocks behind them

for_both : (k n m : ℕ) → n ≡ 508 * k → blocks_for (n + m) ≡ k + blocks_for m
unfolding blocks_for
for_both k n m e = omega arith

joined_from : (k n : ℕ) (a b : List ℕ) → length a ≡ 508 * k → stored_from (k + n) (a ++ b) ≡ stored_from k a ++ stored_from n b
joined_from zero n [] b e = ap (λ x. stored_from x b) (zero-add n)
joined_from zero n (x ∷ a) b e = absurd (omega (arith, e))
joined_from (suc k) n a b e =
    let c = take-append-le 508 a b (omega arith) in
    let d = drop-append-le 508 a b (omega arith) in
    let l = length-drop 508 a in
    let m : suc k + n ≡ suc (k + n) = omega arith in
    let i = joined_from k n (drop 508 a) b (omega arith) in
    ap (λ x. stored_from x (a ++ b)) m
    ∙ ap (λ x. block x ++ stored_from (k + n) (drop 508 (a ++ b))) c
    ∙ ap (λ x. block (take 508 a) ++ stored_from (k + n) x) d
    ∙ ap (λ x. block (take 508 a) ++ x) i
    ∙ sym (append_assoc (block (take 508 a)) (stored_from k (drop 508 a)) (stored_from n b))

pub joined : (a b : List ℕ) → length a % 508 ≡ 0 → stored (a ++ b) ≡ stored a ++ stored b
unfolding stored
joined a b e =
    let k = length a / 508 in
    let l : length a ≡ 508 * k = omega arith in
    let n = for_both k (length a) (length b) l in
    let m : blocks_for (length a) ≡ k = ap blocks_for l ∙ for_whole k in
    ap (λ x. stored_from (blocks_for x) (a ++ b)) (length-append a b)
    ∙ ap (λ x. stored_from x (a ++ b)) n
    ∙ joined_from k (blocks_for (length b)) a b l
    ∙ ap (λ x. stored_from x a ++ stored_from (blocks_for (length b)) b) (sym m)

pub full_blocks : FullBlocks
full_blocks a b e ok =
    let same = joined a b e in
    (sym same, subst (λ (x : List ℕ). accepted x ≡ true) same (journal_back (a ++ b) ok).0)

-- four runs of full blocks, and blocks behind them
runs : (p a m b q : List ℕ) → length p % 508 ≡ 0 → length a % 508 ≡ 0 → length m % 508 ≡ 0 → length b % 508 ≡ 0 →
    stored (p ++ (a ++ (m ++ (b ++ q)))) ≡ stored p ++ (stored a ++ (stored m ++ (stored b ++ stored q)))
runs p a m b q x y v z =
    joined p (a ++ (m ++ (b ++ q))) x
    ∙ ap (λ l. stored p ++ l) (joined a (m ++ (b ++ q)) y)
    ∙ ap (λ l. stored p ++ (stored a ++ l)) (joined m (b ++ q) v)
    ∙ ap (λ l. stored p ++ (stored a ++ (stored m ++ l))) (joined b q z)

length_runs : (p a m b q : List ℕ) → length (p ++ (a ++ (m ++ (b ++ q)))) ≡ length p + (length a + (length m + (length b + length q)))
length_runs p a m b q =
    let l1 = length-append p (a ++ (m ++ (b ++ q))) in
    let l2 = length-append a (m ++ (b ++ q)) in
    let l3 = length-append m (b ++ q) in
    let l4 = length-append b q in
    omega arith

pub swapped : Swapped
swapped p a m b q x y v z ok =
    let l = length_runs p a m b q in
    let r = length_runs p b m a q in
    let same : length (p ++ (a ++ (m ++ (b ++ q)))) ≡ length (p ++ (b ++ (m ++ (a ++ q)))) = omega arith in
    let back = journal_back (p ++ (b ++ (m ++ (a ++ q)))) (subst (λ (n : ℕ). size_ok n ≡ true) same ok) in
    let is = runs p b m a q x z v y in
    (runs p a m b q x y v z, sym is, subst (λ (t : List ℕ). accepted t ≡ true) is back.0)

---- a block that is part full, with full ones behind it

for_one : (n : ℕ) → 0 < n → n ≤ 508 → blocks_for n ≡ 1
unfolding blocks_for
for_one n a b = omega arith

pub stored_one : (c : List ℕ) → 0 < length c → length c ≤ 508 → stored c ≡ block c
unfolding stored
stored_one c a b = rw (for_one (length c) a b) (append-nil (block (take 508 c)) ∙ ap block (take_all 508 c b))

length_runs_stored : (a : List ℕ) → length a % 508 ≡ 0 → length (stored a) ≡ 512 * (length a / 508)
length_runs_stored a e =
    let l : length a ≡ 508 * (length a / 508) = omega arith in
    length_stored a ∙ ap (λ n. 512 * n) (ap blocks_for l ∙ for_whole (length a / 508))

pub part_full_moved : PartFullMoved
part_full_moved a b c room x y some z w ok =
    let f = flat_parts (length (a ++ (b ++ c))) ok in
    let l1 = length-append a (b ++ c) in
    let l2 = length-append b c in
    let l3 = length-append a c in
    let la = length_runs_stored a x in
    let lb = length_runs_stored b y in
    let lc = length_block c (omega (arith, w)) in
    let is : stored (a ++ c) ≡ stored a ++ block c = joined a c x ∙ ap (λ r. stored a ++ r) (stored_one c z (omega (arith, w))) in
    let good = subst (λ (t : List ℕ). accepted t ≡ true) is (journal_back (a ++ c) (flat_ok (length (a ++ c)) (omega arith) (omega arith))).0 in
    let ls = length-append (stored a) (block c) in
    let at : length (stored a ++ block c) - 512 ≡ length (stored a) = omega arith in
    let last : drop (length (stored a ++ block c) - 512) (stored a ++ block c) ≡ block c = drop_at (stored a) (block c) _ (sym at) in
    let u : used (drop (length (stored a ++ block c) - 512) (stored a ++ block c)) < 508 =
    subst (λ (t : List ℕ). used t < 508) (sym last) (subst (λ (i : ℕ). i < 508) (sym (block_used c (omega (arith, w)))) w) in
    let lt = length-append (stored a ++ block c) (stored b) in
    let room_left = stored_ok_lem (length ((stored a ++ block c) ++ stored b)) (omega arith) (omega arith) in
    let place : length (stored a ++ block c) / 512 - 1 ≡ length a / 508 = omega arith in
    let bad = behind_part_full (stored a ++ block c) (stored b) room good (omega arith) u (omega arith) room_left in
    ap (λ t. from_blocks t room) (sym (append_assoc (stored a) (block c) (stored b))) ∙ bad ∙ ap (refused_with 22) place
