-- What the code's turns and ways out leave, in the definitions' words.
use Rattle.std.proofs.Common.{◌≡◌, ℕ, zero, suc, ◌+◌, ◌-◌, ◌/◌, ◌%◌, ◌<◌, ◌≤◌, Bool, true, false, T, eqb, List, [], ◌∷◌, ◌++◌, length, get_or, take, drop, set, replicate, sym, refl, ap, ◌∙◌, subst, zero-add, arith, length-append, length-drop, take_all, take-suc, take_at, le-ltb, lt-ltb, eq-eqb, le-leb}
use Rattle.words.specs.Words.{words, bytes, word_at, put_word, over}
use Rattle.words.proofs.Laws.{length_words, put_in}
use Rattle.words.proofs.Over.{length_over, over_over}
use Rattle.copies.specs.Copies.{copied, cleared}
use Rattle.copies.proofs.Copies.{copied_fits}
use Rattle.copies.proofs.Clears.{cleared_in}
use Rattle.blocks.specs.Blocks.{sum, completing, padded, closed, block, zeros, used, rest, sound, fewest, most}
use Rattle.blocks.proofs.Block.{sum_append, Sound, sound_is, length_padded, four}

pub sum_turn : (ws : List ℕ) (i t w r : ℕ) → i < length ws → t ≡ sum (take i ws) % 65536 → w ≡ get_or ws i 0 → r ≡ (t + w) % 65536 →
    r ≡ sum (take (suc i) ws) % 65536
sum_turn ws i t w r h a b c =
    let e = sum_append (take i ws) (get_or ws i 0 ∷ []) in
    rw (take-suc ws i 0 h) (omega arith)

pub sum_end : (s : List ℕ) (i t : ℕ) → length s / 2 ≤ i → t ≡ sum (take i (words s)) % 65536 → t ≡ sum (words s) % 65536
sum_end s i t h e = let l = length_words s in e ∙ rw (take_all i (words s) (omega arith)) refl

pub not_sound : (least most : ℕ) (b : List ℕ) → (Sound least most b → ⊥) → false ≡ sound least most b
not_sound least most b f = go (sound least most b) refl
  where
    go : (t : Bool) → sound least most b ≡ t → false ≡ t
    go true e = absurd (f (sound_is least most b e))
    go false e = refl

pub sound_last : (least most : ℕ) (b : List ℕ) → length b ≡ 512 → least ≤ used b → used b ≤ most → used b % 2 ≡ 0 → true ≡ zeros (rest b) →
    eqb (sum (words b) % 65536) 0 ≡ sound least most b
unfolding sound
sound_last least most b a l m e z =
    rw (eq-eqb (length b) 512 a, le-leb least (used b) l, le-leb (used b) most m, eq-eqb (used b % 2) 0 e, ← z) refl

pub fewest_more : (n : ℕ) → 512 < n → 508 ≡ fewest n
unfolding fewest
fewest_more n h = rw (lt-ltb 512 n h) refl

pub fewest_last : (n : ℕ) → n ≤ 512 → 2 ≡ fewest n
unfolding fewest
fewest_last n h = rw (le-ltb 512 n h) refl

pub most_any : (k : ℕ) → k < 2064 → 508 ≡ most k
unfolding most
most_any k h = rw (lt-ltb k 2064 h) refl

pub most_none : (k : ℕ) → 2064 < k → 0 ≡ most k
unfolding most
most_none k h = rw (le-ltb k 2064 (omega (arith, h))) (omega (arith, h))

pub most_end : (k : ℕ) → 2064 ≤ k → k ≤ 2064 → 64 ≡ most k
unfolding most
most_end k h g = rw (le-ltb k 2064 h) (omega (arith, h, g))

---- the ways out of a block's test

word_used : (b : List ℕ) (u : ℕ) → u ≡ word_at (words b) 254 → u ≡ used b
unfolding used
word_used b u e = e

rest_of : (b : List ℕ) (u : ℕ) → u ≡ word_at (words b) 254 → take (508 - u) (drop u b) ≡ rest b
unfolding rest
rest_of b u e = rw (word_used b u e) refl

pub sound_size : (least most : ℕ) (b : List ℕ) → (length b ≡ 512 → ⊥) → false ≡ sound least most b
sound_size l m b h = not_sound l m b (λ s. h s.size)

pub sound_low : (least most : ℕ) (b : List ℕ) (u : ℕ) → u ≡ word_at (words b) 254 → u < least → false ≡ sound least most b
sound_low l m b u e h = not_sound l m b (λ s. omega (arith, s.low, word_used b u e, h))

pub sound_high : (least most : ℕ) (b : List ℕ) (u : ℕ) → u ≡ word_at (words b) 254 → most < u → false ≡ sound least most b
sound_high l m b u e h = not_sound l m b (λ s. omega (arith, s.high, word_used b u e, h))

pub sound_odd : (least most : ℕ) (b : List ℕ) (u : ℕ) → u ≡ word_at (words b) 254 → (u % 2 ≡ 0 → ⊥) → false ≡ sound least most b
sound_odd l m b u e h = not_sound l m b (λ s. h (rw (word_used b u e) s.even))

pub sound_rest : (least most : ℕ) (b : List ℕ) (u : ℕ) (z : Bool) → u ≡ word_at (words b) 254 → z ≡ zeros (take (508 - u) (drop u b)) → z ≡ false →
    false ≡ sound least most b
sound_rest l m b u z e h f = not_sound l m b (λ s. subst T (sym (sym f ∙ h ∙ ap zeros (rest_of b u e) ∙ s.zero)) tt)

pub sound_sum : (least most : ℕ) (b : List ℕ) (u : ℕ) (z : Bool) (t : ℕ) → length b ≡ 512 → u ≡ word_at (words b) 254 → least ≤ u → u ≤ most →
    u % 2 ≡ 0 → z ≡ zeros (take (508 - u) (drop u b)) → z ≡ true → t ≡ sum (words b) % 65536 → eqb t 0 ≡ sound least most b
sound_sum l m b u z t a e lo hi ev h f s =
    let v = word_used b u e in
    rw s (sound_last l m b a (rw (← v) lo) (rw (← v) hi) (rw (← v) ev) (sym f ∙ h ∙ ap zeros (rest_of b u e)))

---- a block is put

set_behind : (p q : List ℕ) (i a n : ℕ) → n ≡ length p + i → set (p ++ q) n a ≡ p ++ set q i a
set_behind [] q i a n e = ap (λ k. set q k a) (e ∙ zero-add i)
set_behind (x ∷ p) q i a zero e = absurd (omega (arith, e))
set_behind (x ∷ p) q i a (suc n) e = ap (λ r. x ∷ r) (set_behind p q i a n (omega (arith, e)))

put_four : (p : List ℕ) (x y z w u v : ℕ) → length p ≡ 508 → put_word (put_word (p ++ (x ∷ y ∷ z ∷ w ∷ [])) 254 u) 255 v ≡ p ++ bytes (u ∷ v ∷ [])
put_four p x y z w u v l =
    let q = x ∷ y ∷ z ∷ w ∷ [] in
    let k = length-append p q in
    let a = put_in (p ++ q) 254 u (omega arith) in
    let a1 = set_behind p q 0 (u % 256) 508 (omega arith) in
    let a2 = set_behind p (u % 256 ∷ y ∷ z ∷ w ∷ []) 1 (u / 256 % 256) 509 (omega arith) in
    let b =
    put_in (p ++ (u % 256 ∷ u / 256 % 256 ∷ z ∷ w ∷ [])) 255 v (let k2 = length-append p (u % 256 ∷ u / 256 % 256 ∷ z ∷ w ∷ []) in omega arith) in
    let b1 = set_behind p (u % 256 ∷ u / 256 % 256 ∷ z ∷ w ∷ []) 2 (v % 256) 510 (omega arith) in
    let b2 = set_behind p (u % 256 ∷ u / 256 % 256 ∷ v % 256 ∷ w ∷ []) 3 (v / 256 % 256) 511 (omega arith) in
    ap (λ s. put_word s 255 v) (a ∙ ap (λ s. set s 509 (u / 256 % 256)) a1 ∙ a2) ∙ b ∙ ap (λ s. set s 511 (v / 256 % 256)) b1 ∙ b2

over_start : (s x : List ℕ) → over s 0 x ≡ x ++ drop (length x) s
unfolding over
over_start s x = ap (λ n. x ++ drop n s) (zero-add (length x))

filled : (s c : List ℕ) → length s ≡ 512 → length c ≤ 508 → cleared (copied s 0 c) (length c) 508 ≡ padded c ++ drop 508 s
unfolding padded
filled s c l h =
    let k = length_padded c h in
    let m = length_over s 0 c (omega arith) in
    rw (copied_fits s 0 c (omega arith))
    (cleared_in (over s 0 c) (length c) 508 h (omega arith)
    ∙ over_over s 0 c (length c) (replicate (508 - length c) 0) (sym (zero-add (length c))) (omega arith)
    ∙ over_start s (c ++ replicate (508 - length c) 0)
    ∙ ap (λ n. (c ++ replicate (508 - length c) 0) ++ drop n s) k)

completed : (n t : ℕ) → t ≡ n % 65536 → (65536 - t) % 65536 ≡ completing n
unfolding completing
completed n t e = rw e refl

block_put : (c q : List ℕ) (t : ℕ) → length c ≤ 508 → length q ≡ 4 → t ≡ (sum (words (padded c)) + length c) % 65536 →
    put_word (put_word (padded c ++ q) 254 (length c)) 255 ((65536 - t) % 65536) ≡ block c
unfolding block closed
block_put c q t h l e =
    rw (completed (sum (words (padded c)) + length c) t e)
    (ap (λ r. put_word (put_word (padded c ++ r) 254 (length c)) 255 (completing (sum (words (padded c)) + length c))) (four q l)
    ∙ put_four (padded c) _ _ _ _ (length c) (completing (sum (words (padded c)) + length c)) (length_padded c h))

pub put_done : (s0 c s1 s2 s3 s4 : List ℕ) (a t : ℕ) → length s0 ≡ 512 → length c ≤ 508 → s1 ≡ copied s0 0 c →
    s2 ≡ cleared s1 (length c) 508 → a ≡ sum (words (take 508 s2)) % 65536 → t ≡ (a + length c) % 65536 →
    s3 ≡ put_word s2 254 (length c) → s4 ≡ put_word s3 255 ((65536 - t) % 65536) → s4 ≡ block c
put_done s0 c s1 s2 s3 s4 a t l h e1 e2 ea et e3 e4 =
    let f : s2 ≡ padded c ++ drop 508 s0 = e2 ∙ ap (λ s. cleared s (length c) 508) e1 ∙ filled s0 c l h in
    let p : take 508 s2 ≡ padded c = ap (take 508) f ∙ take_at (padded c) (drop 508 s0) 508 (length_padded c h) in
    let ea2 : a ≡ sum (words (padded c)) % 65536 = ea ∙ ap (λ s. sum (words s) % 65536) p in
    e4
    ∙ ap (λ s. put_word s 255 ((65536 - t) % 65536)) (e3 ∙ ap (λ s. put_word s 254 (length c)) f)
    ∙ block_put c (drop 508 s0) t h (let d = length-drop 508 s0 in omega arith) (omega (arith, ea2, et))
