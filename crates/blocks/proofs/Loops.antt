-- The loops over blocks: what stands after k blocks, and what is left to judge.
use Rattle.std.proofs.Common.{◌≡◌, ℕ, zero, suc, ◌+◌, ◌-◌, ◌*◌, ◌<◌, ◌≤◌, Bool, true, false, cond, List, ◌++◌, length, take, drop, sym, refl, ap, ◌∙◌, append_assoc, append-nil, arith, length-drop, length-take, take_all, drop-drop}
use Rattle.words.specs.Words.{over}
use borrow.Rule.Slice.PartMut.{put_mid}
use Rattle.words.proofs.Over.{over_over}
use Rattle.blocks.specs.Blocks.{block, blocks_for, stored_from, sound, fewest, most, good, blocks_in, bad_from, first_bad}
use Rattle.blocks.proofs.Block.{length_block}
use Rattle.blocks.proofs.Turns.{not_sound}
use Rattle.blocks.proofs.Journal.{length_stored_from, take_short}

pub first_short : (c t : List ℕ) → length c < 508 → t ≡ block c → t ≡ block (take 508 c)
first_short c t h e = e ∙ ap block (sym (take_all 508 c (omega (arith, h))))

pub stored_snoc : (k : ℕ) (j : List ℕ) → stored_from (suc k) j ≡ stored_from k j ++ block (take 508 (drop (508 * k) j))
stored_snoc zero j = append-nil (block (take 508 j))
stored_snoc (suc k) j =
    let e : 508 + 508 * k ≡ 508 * suc k = omega arith in
    ap (λ r. block (take 508 j) ++ r)
    (stored_snoc k (drop 508 j) ∙ ap (λ r. stored_from k (drop 508 j) ++ block (take 508 r)) (drop-drop (508 * k) 508 j ∙ ap (λ i. drop i j) e))
    ∙ sym (append_assoc (block (take 508 j)) (stored_from k (drop 508 j)) _)

pub for_room : (m n k : ℕ) → n ≡ blocks_for m → k < n → 508 * k ≤ m
unfolding blocks_for
for_room m n k e h = omega arith

pub in_room : (m n k : ℕ) → n ≡ blocks_in m → k < n → 512 * k ≤ m
unfolding blocks_in
in_room m n k e h = omega arith

pub good_short : (s : List ℕ) (k : ℕ) → length s - 512 * k < 512 → false ≡ good k (drop (512 * k) s)
unfolding good
good_short s k h =
    let d = length-drop (512 * k) s in
    let t = length-take 512 (drop (512 * k) s) in
    not_sound (fewest (length (drop (512 * k) s))) (most k) (take 512 (drop (512 * k) s)) (λ o. omega (arith, o.size, d, t, h))

pub good_tested : (s : List ℕ) (k f m : ℕ) (r : Bool) → f ≡ fewest (length s - 512 * k) → m ≡ most k →
    r ≡ sound f m (take (512 * k + 512 - 512 * k) (drop (512 * k) s)) → r ≡ good k (drop (512 * k) s)
unfolding good
good_tested s k f m r e g i = let h : 512 * k + 512 - 512 * k ≡ 512 = omega arith in i ∙ rw (e, g, h, length-drop (512 * k) s) refl

---- the first bad block

step : (m n k : ℕ) (s : List ℕ) (g : Bool) → m ≡ suc n → g ≡ good k s → bad_from m k s ≡ cond g (bad_from n (suc k) (drop 512 s)) k
step m n k s g e h = rw (e, h) refl

pub bad_turn : (n k : ℕ) (s : List ℕ) (g : Bool) → k < n → first_bad s ≡ bad_from (n - k) k (drop (512 * k) s) → g ≡ good k (drop (512 * k) s) →
    g ≡ true → first_bad s ≡ bad_from (n - suc k) (suc k) (drop (512 * suc k) s)
bad_turn n k s g h e a b =
    let m : n - k ≡ suc (n - suc k) = omega arith in
    let d : drop 512 (drop (512 * k) s) ≡ drop (512 * suc k) s = drop-drop 512 (512 * k) s ∙ more k s in
    e ∙ step (n - k) (n - suc k) k (drop (512 * k) s) g m a ∙ rw b (rw d refl)
  where
    more : (k : ℕ) (s : List ℕ) → drop (512 * k + 512) s ≡ drop (512 * suc k) s
    more k s = let q : 512 * k + 512 ≡ 512 * suc k = omega arith in ap (λ i. drop i s) q

pub bad_here : (n k : ℕ) (s : List ℕ) (g : Bool) → k < n → first_bad s ≡ bad_from (n - k) k (drop (512 * k) s) → g ≡ good k (drop (512 * k) s) →
    g ≡ false → k ≡ first_bad s
bad_here n k s g h e a b =
    let m : n - k ≡ suc (n - suc k) = omega arith in
    sym (e ∙ step (n - k) (n - suc k) k (drop (512 * k) s) g m a ∙ rw b refl)

pub bad_end : (n k : ℕ) (s : List ℕ) → n ≤ k → k ≤ n → first_bad s ≡ bad_from (n - k) k (drop (512 * k) s) → n ≡ first_bad s
bad_end n k s a b e =
    let m : n - k ≡ 0 = omega arith in
    let q : n ≡ k = omega arith in
    q ∙ sym (e ∙ rw m refl)

pub bad_start : (n : ℕ) (s : List ℕ) → n ≡ blocks_in (length s) → first_bad s ≡ bad_from (n - 0) 0 (drop (512 * 0) s)
unfolding first_bad
bad_start n s e = let z : n - 0 ≡ blocks_in (length s) = omega arith in rw z refl

---- blocks are filled in

put_mid_lem : (s x : List ℕ) (a : ℕ) → length x ≡ 512 → put_mid a (a + 512 - a) s x ≡ over s a x
unfolding over
put_mid_lem s x a l =
    let e : a + 512 - a ≡ 512 = omega arith in
    rw (e, l) (ap (λ r. take a s ++ (x ++ r)) (drop-drop 512 a s))

-- one more block stands behind the k that stand
pub fill_turn : (s0 s j x : List ℕ) (k n : ℕ) → s ≡ over s0 0 (stored_from k j) → n ≡ blocks_for (length j) → k < n → 512 * n ≤ length s0 →
    x ≡ block (take 508 (take (length j - 508 * k) (drop (508 * k) j))) →
    put_mid (512 * k) (512 * k + 512 - 512 * k) s x ≡ over s0 0 (stored_from (suc k) j)
fill_turn s0 s j x k n e b h l ex =
    let d = length-drop (508 * k) j in
    let t : take (length j - 508 * k) (drop (508 * k) j) ≡ drop (508 * k) j = take_all (length j - 508 * k) (drop (508 * k) j) (omega arith) in
    let ex2 : x ≡ block (take 508 (drop (508 * k) j)) = ex ∙ ap (λ r. block (take 508 r)) t in
    let lx : length x ≡ 512 = ap length ex2 ∙ length_block (take 508 (drop (508 * k) j)) (take_short 508 (drop (508 * k) j)) in
    let lk = length_stored_from k j in
    put_mid_lem s x (512 * k) lx
    ∙ ap (λ r. over r (512 * k) x) e
    ∙ over_over s0 0 (stored_from k j) (512 * k) x (omega arith) (omega arith)
    ∙ ap (over s0 0) (ap (λ r. stored_from k j ++ r) ex2 ∙ sym (stored_snoc k j))

pub mid_length : (s : List ℕ) (a : ℕ) → a + 512 ≤ length s → length (take (a + 512 - a) (drop a s)) ≡ 512
mid_length s a h = let d = length-drop a s in let t = length-take (a + 512 - a) (drop a s) in omega arith

-- after the last turn all n stand, f k being the first k
pub turns_end : (f : ℕ → List ℕ) (s0 s : List ℕ) (k n : ℕ) → n ≤ k → k ≤ n → s ≡ over s0 0 (f k) → s ≡ over s0 0 (f n)
turns_end f s0 s k n a b e = let q : k ≡ n = omega arith in e ∙ ap (λ i. over s0 0 (f i)) q
