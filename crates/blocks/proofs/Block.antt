-- Laws of one block: the block of a chunk is sound and gives the chunk back; a sound block is that of its chunk.
use Rattle.std.proofs.Common.{◌≡◌, ℕ, zero, suc, ◌+◌, ◌-◌, ◌*◌, ◌/◌, ◌%◌, ◌<◌, ◌≤◌, Bool, true, ◌&&◌, eqb, List, [], ◌∷◌, ◌++◌, length, get_or, take, drop, replicate, sym, refl, ap, ◌∙◌, append_assoc, add-zero, zero-add, arith, length-append, length-drop, take-append-drop, length-take-le, get_or-drop, take_at, get_or-append-add, take-add, drop_at, eq-eqb, eqb-true, le-leb, leb-true}
use mathlib.Core.Bool.{and-eq-true_iff}
use lib.ListN.{length-replicate}
use Rattle.words.specs.Words.{words, bytes, Below}
use Rattle.words.proofs.Laws.{length_words, words_append, words_bytes}
use Rattle.blocks.specs.Blocks.{sum, completing, padded, closed, block, used, chunk, rest, zeros, sound}

---- two tests

pub and-true : {t u : Bool} → t ≡ true → u ≡ true → (t && u) ≡ true
and-true a b = rw (a, b) refl

---- sums

pub sum_append : (a b : List ℕ) → sum (a ++ b) ≡ sum a + sum b
sum_append [] b = sym (zero-add (sum b))
sum_append (x ∷ a) b = let e = sum_append a b in omega arith

pub completes : (n : ℕ) → (n + completing n) % 65536 ≡ 0
unfolding completing
completes n = omega arith

pub completing_small : (n : ℕ) → completing n < 65536
unfolding completing
completing_small n = omega arith

pub completing_is : (n w : ℕ) → w < 65536 → (n + w) % 65536 ≡ 0 → completing n ≡ w
unfolding completing
completing_is n w h e = omega arith

---- zeros

pub zeros_replicate : (n : ℕ) → zeros (replicate n 0) ≡ true
zeros_replicate zero = refl
zeros_replicate (suc n) = zeros_replicate n

pub zeros_are : (l : List ℕ) → zeros l ≡ true → l ≡ replicate (length l) 0
zeros_are [] e = refl
zeros_are (x ∷ l) e =
    let h = (and-eq-true_iff (eqb x 0) (zeros l)).0 e in
    rw (eqb-true x 0 h.0) (ap (λ r. 0 ∷ r) (zeros_are l h.1))

---- lengths

pub length_padded : (c : List ℕ) → length c ≤ 508 → length (padded c) ≡ 508
unfolding padded
length_padded c h = let e = length-append c (replicate (508 - length c) 0) in let f = length-replicate {A = ℕ} (508 - length c) 0 in omega arith

pub length_closed : (p : List ℕ) (u : ℕ) → length (closed p u) ≡ length p + 4
unfolding closed
length_closed p u = length-append p (bytes (u ∷ completing (sum (words p) + u) ∷ []))

pub length_block : (c : List ℕ) → length c ≤ 508 → length (block c) ≡ 512
unfolding block
length_block c h = length_closed (padded c) (length c) ∙ rw (length_padded c h) refl

---- the words of a block

closed_words : (p : List ℕ) (u : ℕ) → length p ≡ 508 → u < 65536 → words (closed p u) ≡ words p ++ (u ∷ completing (sum (words p) + u) ∷ [])
unfolding closed
closed_words p u e h =
    words_append 254 p _ e ∙ ap (λ l. words p ++ l) (words_bytes (u ∷ completing (sum (words p) + u) ∷ []) small)
  where
    small : Below 65536 (u ∷ completing (sum (words p) + u) ∷ [])
    small zero = h
    small (suc zero) = completing_small _
    small (suc (suc i)) = omega arith

closed_used : (p : List ℕ) (u : ℕ) → length p ≡ 508 → u < 65536 → used (closed p u) ≡ u
unfolding used
closed_used p u e h =
    let l : length (words p) ≡ 254 = let q = length_words p in omega arith in
    rw (closed_words p u e h)
    (ap (λ n. get_or (words p ++ (u ∷ completing (sum (words p) + u) ∷ [])) n 0) (sym l ∙ sym (add-zero (length (words p)))) ∙ get_or-append-add (words p) _ 0 0)

closed_sum : (p : List ℕ) (u : ℕ) → length p ≡ 508 → u < 65536 → sum (words (closed p u)) % 65536 ≡ 0
closed_sum p u e h =
    let c = completes (sum (words p) + u) in
    let s = sum_append (words p) (u ∷ completing (sum (words p) + u) ∷ []) in
    rw (closed_words p u e h) (omega arith)

---- the block of a chunk

pub block_used : (c : List ℕ) → length c ≤ 508 → used (block c) ≡ length c
unfolding block
block_used c h = closed_used (padded c) (length c) (length_padded c h) (omega arith)

pub block_sum : (c : List ℕ) → length c ≤ 508 → sum (words (block c)) % 65536 ≡ 0
unfolding block
block_sum c h = closed_sum (padded c) (length c) (length_padded c h) (omega arith)

-- a block is its chunk, zeros, and four bytes
block_parts : (c : List ℕ) → block c ≡ c ++ (replicate (508 - length c) 0 ++ bytes (length c ∷ completing (sum (words (padded c)) + length c) ∷ []))
unfolding block closed padded
block_parts c = append_assoc c (replicate (508 - length c) 0) _

pub block_chunk : (c : List ℕ) → length c ≤ 508 → chunk (block c) ≡ c
unfolding chunk
block_chunk c h = rw (block_used c h) (rw (block_parts c) (take_at c _ _ refl))

pub block_rest : (c : List ℕ) → length c ≤ 508 → rest (block c) ≡ replicate (508 - length c) 0
unfolding rest
block_rest c h =
    rw (block_used c h)
    (rw (block_parts c) (rw (drop_at c (replicate (508 - length c) 0 ++ bytes (length c ∷ completing (sum (words (padded c)) + length c) ∷ [])) _ refl)
    (take_at (replicate (508 - length c) 0) _ _ (length-replicate (508 - length c) 0))))

pub block_sound : (least most : ℕ) (c : List ℕ) → length c ≤ 508 → length c % 2 ≡ 0 → least ≤ length c → length c ≤ most →
    sound least most (block c) ≡ true
unfolding sound
block_sound least most c h e l m =
    let u = block_used c h in
    and-true (eq-eqb _ _ (length_block c h))
    (and-true (le-leb least (used (block c)) (rw u l))
    (and-true (le-leb (used (block c)) most (rw u m))
    (and-true (eq-eqb (used (block c) % 2) 0 (rw u e))
    (and-true (ap zeros (block_rest c h) ∙ zeros_replicate (508 - length c))
    (eq-eqb _ _ (block_sum c h))))))

---- a sound block

pub record Sound (least most : ℕ) (b : List ℕ) : Type 0 where
  pub size : length b ≡ 512
  pub low : least ≤ used b
  pub high : used b ≤ most
  pub even : used b % 2 ≡ 0
  pub zero : zeros (rest b) ≡ true
  pub check : sum (words b) % 65536 ≡ 0

pub sound_is : (least most : ℕ) (b : List ℕ) → sound least most b ≡ true → Sound least most b
unfolding sound
sound_is least most b e =
    let p1 = (and-eq-true_iff _ _).0 e in
    let p2 = (and-eq-true_iff _ _).0 p1.1 in
    let p3 = (and-eq-true_iff _ _).0 p2.1 in
    let p4 = (and-eq-true_iff _ _).0 p3.1 in
    let p5 = (and-eq-true_iff _ _).0 p4.1 in
    record {
      size = eqb-true _ _ p1.0;
      low = leb-true _ _ p2.0;
      high = leb-true _ _ p3.0;
      even = eqb-true _ _ p4.0;
      zero = p5.0;
      check = eqb-true _ _ p5.1;
    }

-- p is 508 bytes, of which u are used, and four bytes follow
closed_is : (p : List ℕ) (u x y z w : ℕ) → length p ≡ 508 → x < 256 → y < 256 → z < 256 → w < 256 → x + 256 * y ≡ u →
    (sum (words p) + (u + (z + 256 * w))) % 65536 ≡ 0 → closed p u ≡ p ++ (x ∷ y ∷ z ∷ w ∷ [])
unfolding closed
closed_is p u x y z w l hx hy hz hw e s =
    let v : completing (sum (words p) + u) ≡ z + 256 * w = completing_is _ _ (omega arith) (omega arith) in
    let a : u % 256 ≡ x = omega arith in
    let b1 : u / 256 ≡ y = omega arith in
    let b2 : y % 256 ≡ y = omega arith in
    let c : (z + 256 * w) % 256 ≡ z = omega arith in
    let d1 : (z + 256 * w) / 256 ≡ w = omega arith in
    let d2 : w % 256 ≡ w = omega arith in
    rw (v, a, b1, b2, c, d1, d2) refl

pub four : (l : List ℕ) → length l ≡ 4 → l ≡ get_or l 0 0 ∷ get_or l 1 0 ∷ get_or l 2 0 ∷ get_or l 3 0 ∷ []
four (a ∷ b ∷ c ∷ d ∷ []) e = refl
four [] e = absurd (omega arith)
four (a ∷ []) e = absurd (omega arith)
four (a ∷ b ∷ []) e = absurd (omega arith)
four (a ∷ b ∷ c ∷ []) e = absurd (omega arith)
four (a ∷ b ∷ c ∷ d ∷ f ∷ l) e = absurd (omega arith)

pub below_drop : (m n : ℕ) (s : List ℕ) → Below m s → Below m (drop n s)
below_drop m n s h i = rw (get_or-drop n s i 0) (h (n + i))

-- 508 bytes and the four behind them
sound_closed : (p q : List ℕ) (u : ℕ) → length p ≡ 508 → length q ≡ 4 → Below 256 q → used (p ++ q) ≡ u → sum (words (p ++ q)) % 65536 ≡ 0 →
    closed p u ≡ p ++ q
unfolding used
sound_closed p q u l m b e s =
    let f = four q m in
    let w : words (p ++ q) ≡ words p ++ words q = words_append 254 p q l in
    let g : get_or (words p ++ words q) 254 0 ≡ u = ap (λ ws. get_or ws 254 0) (sym w) ∙ e in
    let n : length (words p) ≡ 254 = let k = length_words p in omega arith in
    let g2 : get_or (words p ++ words q) 254 0 ≡ get_or (words q) 0 0 =
    ap (λ k. get_or (words p ++ words q) k 0) (sym n ∙ sym (add-zero (length (words p)))) ∙ get_or-append-add (words p) (words q) 0 0 in
    let wq : words q ≡ (get_or q 0 0 + 256 * get_or q 1 0) ∷ (get_or q 2 0 + 256 * get_or q 3 0) ∷ [] = ap words f in
    let g3 : get_or (words q) 0 0 ≡ get_or q 0 0 + 256 * get_or q 1 0 = ap (λ ws. get_or ws 0 0) wq in
    let t : sum (words (p ++ q)) ≡ sum (words p) + sum (words q) = ap sum w ∙ sum_append (words p) (words q) in
    let t2 : sum (words q) ≡ (get_or q 0 0 + 256 * get_or q 1 0) + ((get_or q 2 0 + 256 * get_or q 3 0) + 0) = ap sum wq in
    closed_is p u (get_or q 0 0) (get_or q 1 0) (get_or q 2 0) (get_or q 3 0) l (b 0) (b 1) (b 2) (b 3) (omega arith) (omega arith) ∙ ap (λ r. p ++ r) (sym f)

pub length_chunk : (b : List ℕ) → used b ≤ length b → length (chunk b) ≡ used b
unfolding chunk
length_chunk b h = length-take-le (used b) b h

length_rest : (b : List ℕ) → used b ≤ 508 → length b ≡ 512 → length (rest b) ≡ 508 - used b
unfolding rest
length_rest b u l = length-take-le (508 - used b) (drop (used b) b) (let e = length-drop (used b) b in omega arith)

joined : (b : List ℕ) → used b ≤ 508 → chunk b ++ rest b ≡ take 508 b
unfolding rest chunk
joined b u = let e : used b + (508 - used b) ≡ 508 = omega arith in sym (take-add (used b) (508 - used b) b) ∙ ap (λ n. take n b) e

padded_chunk : (least most : ℕ) (b : List ℕ) → most ≤ 508 → Sound least most b → padded (chunk b) ≡ take 508 b
unfolding padded
padded_chunk least most b m s =
    let u : used b ≤ 508 = omega (arith, s.high) in
    let e = length_chunk b (omega (arith, s.size)) in
    let z = zeros_are (rest b) s.zero in
    let lr : length (rest b) ≡ 508 - used b = length_rest b u s.size in
    rw e (ap (λ n. chunk b ++ replicate n 0) (sym lr) ∙ ap (λ r. chunk b ++ r) (sym z) ∙ joined b u)

pub sound_block : (least most : ℕ) (b : List ℕ) → most ≤ 508 → Below 256 b → Sound least most b → block (chunk b) ≡ b
unfolding block
sound_block least most b m h s =
    let split = take-append-drop 508 b in
    let e = length_chunk b (omega (arith, s.size, s.high)) in
    let c : closed (take 508 b) (used b) ≡ take 508 b ++ drop 508 b =
    sound_closed (take 508 b) (drop 508 b) (used b) (length-take-le 508 b (omega (arith, s.size))) (length-drop 508 b ∙ rw s.size refl)
    (below_drop 256 508 b h) (ap used split) (rw split s.check) in
    rw (padded_chunk least most b m s, e) (c ∙ split)
