-- Laws of a journal in blocks: the two ways undo each other, and what is accepted is what is stored.
use Rattle.std.proofs.Common.{◌≡◌, ℕ, zero, suc, ◌+◌, ◌-◌, ◌*◌, ◌%◌, ◌<◌, ◌≤◌, Bool, true, false, cond, eqb, ltb, leb, List, [], ◌∷◌, ◌++◌, length, take, drop, sym, refl, ap, ◌∙◌, subst, append-nil, zero-add, arith, length-append, length-drop, take-append-drop, drop_of_length-le, length-take, take_all, take_at, drop_at, ltb-false, ltb-true, eq-eqb, eqb-true, le-leb, leb-true}
use mathlib.Core.Bool.{and-eq-true_iff}
use Rattle.words.specs.Words.{Below}
use Rattle.limits.specs.Limits.{size_ok}
use Rattle.blocks.specs.Blocks.{block, blocks_for, stored_from, stored, used, chunk, sound, fewest, most, good, blocks_in, bad_from, first_bad, flat_from, flat_of, stored_ok, accepted}
use Rattle.blocks.specs.Promises.{JournalBack, BlocksBack, StoredExactly}
use Rattle.blocks.proofs.Block.{and-true, length_block, block_chunk, block_sound, Sound, sound_is, length_chunk, sound_block, below_drop}

---- parts

pub take_short : (n : ℕ) (l : List ℕ) → length (take n l) ≤ n
take_short n l = let e = length-take n l in omega arith

empty : (l : List ℕ) → length l ≤ 0 → l ≡ []
empty [] h = refl
empty (x ∷ l) h = absurd (omega arith)

below_take : (m n : ℕ) (s : List ℕ) → 0 < m → Below m s → Below m (take n s)
below_take m zero s z h i = z
below_take m (suc n) [] z h i = z
below_take m (suc n) (x ∷ s) z h zero = h 0
below_take m (suc n) (x ∷ s) z h (suc i) = below_take m n s z (λ k. h (suc k)) i

---- the bounds of a block's count

pub fewest_le : (n c : ℕ) → (512 < n → 508 ≤ c) → 2 ≤ c → fewest n ≤ c
unfolding fewest
fewest_le n c h g = go (ltb 512 n) refl
  where
    go : (b : Bool) → ltb 512 n ≡ b → cond b 508 2 ≤ c
    go true e = h (ltb-true _ _ e)
    go false e = g

pub fewest_is : (n c : ℕ) → fewest n ≤ c → (2 ≤ c) × (512 < n → 508 ≤ c)
unfolding fewest
fewest_is n c = go (ltb 512 n) refl
  where
    go : (b : Bool) → ltb 512 n ≡ b → cond b 508 2 ≤ c → (2 ≤ c) × (512 < n → 508 ≤ c)
    go true e h = (omega arith, λ g. h)
    go false e h = (h, λ g. absurd (omega (arith, ltb-false 512 n e, g)))

pub most_le : (k c : ℕ) → c ≤ 508 → 508 * k + c ≤ 1048576 → c ≤ most k
unfolding most
most_le k c h g = go (ltb k 2064) refl
  where
    go : (b : Bool) → ltb k 2064 ≡ b → c ≤ cond b 508 (1048576 - 508 * k)
    go true e = h
    go false e = omega arith

pub most_is : (k c : ℕ) → 2 ≤ c → c ≤ most k → (c ≤ 508) × (508 * k + c ≤ 1048576)
unfolding most
most_is k c z = go (ltb k 2064) refl
  where
    go : (b : Bool) → ltb k 2064 ≡ b → c ≤ cond b 508 (1048576 - 508 * k) → (c ≤ 508) × (508 * k + c ≤ 1048576)
    go true e h = (h, omega (arith, ltb-true k 2064 e))
    go false e h = (omega (arith, ltb-false k 2064 e), omega (arith, ltb-false k 2064 e))

pub most_small : (k : ℕ) → most k ≤ 508
unfolding most
most_small k = go (ltb k 2064) refl
  where
    go : (b : Bool) → ltb k 2064 ≡ b → cond b 508 (1048576 - 508 * k) ≤ 508
    go true e = omega arith
    go false e = omega (arith, ltb-false k 2064 e)

---- flat, stored, flat

pub length_stored_from : (n : ℕ) (j : List ℕ) → length (stored_from n j) ≡ 512 * n
length_stored_from zero j = refl
length_stored_from (suc n) j =
    let a = length-append (block (take 508 j)) (stored_from n (drop 508 j)) in
    let b = length_block (take 508 j) (take_short 508 j) in
    let c = length_stored_from n (drop 508 j) in
    omega arith

pub good_is : (k m : ℕ) (s b : List ℕ) → take 512 s ≡ b → length s ≡ m → sound (fewest m) (most k) b ≡ true → good k s ≡ true
unfolding good
good_is k m s b e l h = rw (e, l) h

first_sound : (n k : ℕ) (j : List ℕ) → length j ≤ 508 * suc n → 508 * suc n < length j + 508 → length j % 2 ≡ 0 → 508 * k + length j ≤ 1048576 →
    sound (fewest (512 * suc n)) (most k) (block (take 508 j)) ≡ true
first_sound n k j a b e l =
    let lt = length-take 508 j in
    block_sound (fewest (512 * suc n)) (most k) (take 508 j) (take_short 508 j) (omega arith)
    (fewest_le (512 * suc n) (length (take 508 j)) (λ h. omega (arith, h)) (omega arith))
    (most_le k (length (take 508 j)) (take_short 508 j) (omega arith))

pub back : (n k : ℕ) (j : List ℕ) → length j ≤ 508 * n → 508 * n < length j + 508 → length j % 2 ≡ 0 → (0 < n → 508 * k + length j ≤ 1048576) →
    (bad_from n k (stored_from n j) ≡ k + n) × (flat_from n (stored_from n j) ≡ j)
back zero k j a b e f = (omega arith, sym (empty j (omega arith)))
back (suc n) k j a b e f =
    let s = block (take 508 j) ++ stored_from n (drop 508 j) in
    let l : 508 * k + length j ≤ 1048576 = f (omega arith) in
    let lt = length-take 508 j in
    let ld = length-drop 508 j in
    let lb = length_block (take 508 j) (take_short 508 j) in
    let ls : length s ≡ 512 * suc n = length_stored_from (suc n) j in
    let t : take 512 s ≡ block (take 508 j) = take_at _ _ 512 lb in
    let d : drop 512 s ≡ stored_from n (drop 508 j) = drop_at (block (take 508 j)) _ 512 lb in
    let g : good k s ≡ true = good_is k (512 * suc n) s (block (take 508 j)) t ls (first_sound n k j a b e l) in
    let ih = back n (suc k) (drop 508 j) (omega arith) (omega arith) (omega arith) (λ z. omega (arith, z)) in
    let flat : chunk (block (take 508 j)) ++ flat_from n (stored_from n (drop 508 j)) ≡ j =
    ap (λ c. c ++ flat_from n (stored_from n (drop 508 j))) (block_chunk (take 508 j) (take_short 508 j))
    ∙ ap (λ r. take 508 j ++ r) ih.1
    ∙ take-append-drop 508 j in
    (rw (g, d) (ih.0 ∙ omega arith), rw (t, d) flat)

pub for_in : (n : ℕ) → blocks_in (512 * n) ≡ n
unfolding blocks_in
for_in n = omega arith

pub for_low : (n : ℕ) → n ≤ 508 * blocks_for n
unfolding blocks_for
for_low n = omega arith

pub for_high : (n : ℕ) → 508 * blocks_for n < n + 508
unfolding blocks_for
for_high n = omega arith

pub for_is : (n m : ℕ) → m ≤ 508 * n → 508 * n < m + 508 → blocks_for m ≡ n
unfolding blocks_for
for_is n m a b = omega arith

pub in_low : (n : ℕ) → n ≤ 512 * blocks_in n
unfolding blocks_in
in_low n = omega arith

pub in_high : (n : ℕ) → 512 * blocks_in n < n + 512
unfolding blocks_in
in_high n = omega arith

pub length_stored : (j : List ℕ) → length (stored j) ≡ 512 * blocks_for (length j)
unfolding stored
length_stored j = length_stored_from (blocks_for (length j)) j

pub stored_first_bad : (j : List ℕ) → length j % 2 ≡ 0 → length j ≤ 1048576 → first_bad (stored j) ≡ blocks_in (length (stored j))
unfolding first_bad stored
stored_first_bad j e l =
    let n = blocks_for (length j) in
    rw (length_stored_from n j, for_in n) ((back n 0 j (for_low (length j)) (for_high (length j)) e (λ z. omega arith)).0 ∙ omega arith)

pub flat_stored : (j : List ℕ) → length j % 2 ≡ 0 → length j ≤ 1048576 → flat_of (stored j) ≡ j
unfolding flat_of stored
flat_stored j e l =
    let n = blocks_for (length j) in
    rw (length_stored_from n j, for_in n) (back n 0 j (for_low (length j)) (for_high (length j)) e (λ z. omega arith)).1

pub stored_accepted : (j : List ℕ) → length j % 2 ≡ 0 → length j ≤ 1048576 → accepted (stored j) ≡ true
stored_accepted j e l =
    let s = length_stored j in
    let h = for_high (length j) in
    and-true (and-true (eq-eqb (length (stored j) % 2) 0 (omega arith)) (le-leb (length (stored j)) 1057280 (omega arith)))
    (eq-eqb _ _ (stored_first_bad j e l))

---- stored, flat, stored

pub record Forth (n k : ℕ) (s : List ℕ) : Type 0 where
  pub low : length (flat_from n s) ≤ 508 * n
  pub high : 508 * n < length (flat_from n s) + 508
  pub even : length (flat_from n s) % 2 ≡ 0
  pub limit : 0 < n → 508 * k + length (flat_from n s) ≤ 1048576
  pub same : stored_from n (flat_from n s) ≡ s

pub good_sound : (k : ℕ) (s : List ℕ) → good k s ≡ true → Sound (fewest (length s)) (most k) (take 512 s)
unfolding good
good_sound k s h = sound_is _ _ _ h

-- no bad block among n + 1: the first is good, and there is none behind it
pub bad_next : (n k : ℕ) (s : List ℕ) → bad_from (suc n) k s ≡ k + suc n → (good k s ≡ true) × (bad_from n (suc k) (drop 512 s) ≡ suc k + n)
bad_next n k s = go (good k s)
  where
    go : (b : Bool) → cond b (bad_from n (suc k) (drop 512 s)) k ≡ k + suc n → (b ≡ true) × (bad_from n (suc k) (drop 512 s) ≡ suc k + n)
    go true e = (refl, e ∙ omega arith)
    go false e = absurd (omega (arith, e))

seam : (n : ℕ) (c f : List ℕ) → length c ≤ 508 → (0 < n → length c ≡ 508) → length f ≤ 508 * n → (take 508 (c ++ f) ≡ c) × (drop 508 (c ++ f) ≡ f)
seam zero c f a b h = rw (empty f (omega arith)) (rw (append-nil c) (take_all 508 c a, drop_of_length-le c a))
seam (suc n) c f a b h = let e = b (omega arith) in (take_at c f 508 e, drop_at c f 508 e)

pub record First (n k : ℕ) (s : List ℕ) : Type 0 where
  pub long : 512 ≤ length s
  pub size : length (chunk (take 512 s)) ≡ used (take 512 s)
  pub some : 2 ≤ used (take 512 s)
  pub small : used (take 512 s) ≤ 508
  pub full : 0 < n → used (take 512 s) ≡ 508
  pub even : used (take 512 s) % 2 ≡ 0
  pub limit : 508 * k + used (take 512 s) ≤ 1048576
  pub same : block (chunk (take 512 s)) ≡ take 512 s

pub first_is : (n k : ℕ) (s : List ℕ) → 512 * suc n < length s + 512 → Below 256 s → good k s ≡ true → First n k s
first_is n k s a h g =
    let o = good_sound k s g in
    let f = fewest_is (length s) (used (take 512 s)) o.low in
    let m = most_is k (used (take 512 s)) f.0 o.high in
    record {
      long = omega (arith, o.size, length-take 512 s);
      size = length_chunk (take 512 s) (omega (arith, o.size, m.0));
      some = f.0;
      small = m.0;
      full = λ z. let q = f.1 (omega (arith, a, z)) in omega (arith, q, m.0);
      even = o.even;
      limit = m.1;
      same = sound_block _ _ (take 512 s) (most_small k) (below_take 256 512 s (omega arith) h) o;
    }

high_step : (n f u : ℕ) → 2 ≤ u → (0 < n → u ≡ 508) → 508 * n < f + 508 → 508 * suc n < u + f + 508
high_step zero f u a b h = omega arith
high_step (suc n) f u a b h = let e = b (omega arith) in omega arith

limit_step : (n k f u : ℕ) → 508 * k + u ≤ 1048576 → (0 < n → u ≡ 508) → f ≤ 508 * n → (0 < n → 508 * suc k + f ≤ 1048576) →
    508 * k + (u + f) ≤ 1048576
limit_step zero k f u a b l h = omega arith
limit_step (suc n) k f u a b l h = let e = b (omega arith) in let m = h (omega arith) in omega arith

forth_step : (n k : ℕ) (s : List ℕ) → First n k s → Forth n (suc k) (drop 512 s) → Forth (suc n) k s
forth_step n k s p q =
    let l : length (chunk (take 512 s) ++ flat_from n (drop 512 s)) ≡ used (take 512 s) + length (flat_from n (drop 512 s)) =
    length-append (chunk (take 512 s)) (flat_from n (drop 512 s)) ∙ rw p.size refl in
    let m = seam n (chunk (take 512 s)) (flat_from n (drop 512 s)) (rw p.size p.small) (λ h. p.size ∙ p.full h) q.low in
    record {
      low = omega (arith, l, p.small, q.low);
      high = rw l (high_step n (length (flat_from n (drop 512 s))) (used (take 512 s)) p.some p.full q.high);
      even = omega (arith, l, p.even, q.even);
      limit = λ h. rw l (limit_step n k (length (flat_from n (drop 512 s))) (used (take 512 s)) p.limit p.full q.low q.limit);
      same =
          ap (λ c. block c ++ stored_from n (drop 508 (chunk (take 512 s) ++ flat_from n (drop 512 s)))) m.0
          ∙ ap (λ r. block (chunk (take 512 s)) ++ stored_from n r) m.1
          ∙ ap (λ r. r ++ stored_from n (flat_from n (drop 512 s))) p.same
          ∙ ap (λ r. take 512 s ++ r) q.same
          ∙ take-append-drop 512 s;
    }

pub forth : (n k : ℕ) (s : List ℕ) → length s ≤ 512 * n → 512 * n < length s + 512 → Below 256 s → bad_from n k s ≡ k + n → Forth n k s
forth zero k s a b h e =
    record { low = omega arith; high = omega arith; even = refl; limit = λ z. absurd (omega (arith, z)); same = sym (empty s (omega arith)) }
forth (suc n) k s a b h e =
    let g = bad_next n k s e in
    let p = first_is n k s b h g.0 in
    let ld = length-drop 512 s in
    let q = forth n (suc k) (drop 512 s) (omega arith) (omega (arith, p.long)) (below_drop 256 512 s h) g.1 in
    forth_step n k s p q

pub both_ways : (s : List ℕ) → Below 256 s → accepted s ≡ true → Forth (blocks_in (length s)) 0 s
unfolding first_bad
both_ways s h e =
    let p = (and-eq-true_iff (stored_ok (length s)) (eqb (first_bad s) (blocks_in (length s)))).0 e in
    forth (blocks_in (length s)) 0 s (in_low (length s)) (in_high (length s)) h
    (eqb-true (first_bad s) (blocks_in (length s)) p.1 ∙ sym (zero-add (blocks_in (length s))))

pub stored_flat : (s : List ℕ) → Below 256 s → accepted s ≡ true → stored (flat_of s) ≡ s
unfolding flat_of stored
stored_flat s h e =
    let f = both_ways s h e in
    let n = blocks_in (length s) in
    rw (for_is n (length (flat_from n s)) f.low f.high) f.same

---- what is accepted is what is stored

-- the test of a journal's length, and its two parts
pub flat_ok : (n : ℕ) → n % 2 ≡ 0 → n ≤ 1048576 → size_ok n ≡ true
flat_ok n e l = and-true (eq-eqb (n % 2) 0 e) (le-leb n 1048576 l)

pub flat_parts : (n : ℕ) → size_ok n ≡ true → (n % 2 ≡ 0) × (n ≤ 1048576)
flat_parts n e =
    let p = (and-eq-true_iff (eqb (n % 2) 0) (leb n 1048576)).0 e in
    (eqb-true (n % 2) 0 p.0, leb-true n 1048576 p.1)

pub journal_back : JournalBack
journal_back j e = let p = flat_parts (length j) e in (stored_accepted j p.0 p.1, flat_stored j p.0 p.1)

pub blocks_back : BlocksBack
unfolding flat_of
blocks_back s h e =
    let f = both_ways s h e in
    (flat_ok (length (flat_of s)) f.even (limit_any (blocks_in (length s)) _ f.low f.limit), stored_flat s h e)
  where
    limit_any : (n m : ℕ) → m ≤ 508 * n → (0 < n → 508 * 0 + m ≤ 1048576) → m ≤ 1048576
    limit_any zero m l h = omega arith
    limit_any (suc n) m l h = let q = h (omega arith) in omega arith

pub stored_exactly : StoredExactly
stored_exactly s h = (
  λ e. let b = blocks_back s h e in record { journal = flat_of s; ok = b.0; is = b.1 },
  λ o. subst (λ (t : List ℕ). accepted t ≡ true) o.is (journal_back o.journal o.ok).0,
)
