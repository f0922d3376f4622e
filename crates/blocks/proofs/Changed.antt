-- One changed word: the block that it stands in no longer gives zero, and every block before it is as it was.
use Rattle.std.proofs.Common.{◌≡◌, ℕ, zero, suc, ◌+◌, ◌-◌, ◌*◌, ◌/◌, ◌%◌, ◌<◌, ◌≤◌, Bool, true, false, cond, ltb, ◌≢◌, List, [], ◌∷◌, length, get_or, take, drop, set, sym, refl, ap, ◌∙◌, subst, zero-add, arith, length-drop, length-take, get_or-drop, get_or-take, drop-drop, ltb-false, ltb-true}
use lib.Seq.{take-set-lt, take-set-le, drop-set-add}
use Rattle.words.specs.Words.{words, Below, word_at, put_word}
use Rattle.words.proofs.Laws.{length_words, words_take, words_drop, put_in, words_put, length_put, words_below}
use Rattle.blocks.specs.Blocks.{sum, good, blocks_in, bad_from, first_bad}
use Rattle.blocks.specs.Promises.{WordChanged, WordOfBlockChanged}
use Rattle.blocks.proofs.Block.{below_drop}
use Rattle.blocks.proofs.Journal.{good_sound, bad_next}
use Rattle.blocks.proofs.Answers.{accepted_length, accepted_bad, bad_answer}

---- the block of the word

sum_set : (l : List ℕ) (i w : ℕ) → i < length l → sum (set l i w) + get_or l i 0 ≡ sum l + w
sum_set [] i w h = absurd (omega (arith, h))
sum_set (x ∷ l) zero w h = omega arith
sum_set (x ∷ l) (suc i) w h = let e = sum_set l i w (omega (arith, h)) in omega arith

-- both sums are zero only where the word is the same
same_word : (l : List ℕ) (i w : ℕ) → i < length l → get_or l i 0 < 65536 → w < 65536 → sum l % 65536 ≡ 0 → sum (set l i w) % 65536 ≡ 0 → w ≡ get_or l i 0
same_word l i w h a b p q = let e = sum_set l i w h in omega (arith, e, a, b, p, q)

first_word : (s : List ℕ) (i w : ℕ) → i < 256 → w < 65536 → words (take 512 (put_word s i w)) ≡ set (take 256 (words s)) i w
first_word s i w h b = words_take 256 (put_word s i w) ∙ ap (take 256) (words_put s i w b) ∙ take-set-lt 256 (words s) i w h

changed_here : (s : List ℕ) (k i w : ℕ) → Below 256 s → i < 256 → w < 65536 → w ≢ word_at (words s) i → good k s ≡ true →
    good k (put_word s i w) ≡ false
changed_here s k i w b h l ne g = go (good k (put_word s i w)) refl
  where
    go : (t : Bool) → good k (put_word s i w) ≡ t → t ≡ false
    go false e = refl
    go true e =
        let o = good_sound k s g in
        let p : sum (take 256 (words s)) % 65536 ≡ 0 = ap (λ l. sum l % 65536) (sym (words_take 256 s)) ∙ o.check in
        let q : sum (set (take 256 (words s)) i w) % 65536 ≡ 0 =
        ap (λ l. sum l % 65536) (sym (first_word s i w h l)) ∙ (good_sound k (put_word s i w) e).check in
        let x = get_or-take 256 (words s) i 0 h in
        let long : i < length (take 256 (words s)) = omega (arith, length-take 256 (words s), length_words s, o.size, length-take 512 s) in
        absurd (ne (same_word (take 256 (words s)) i w long (omega (arith, x, words_below s b i)) l p q ∙ x))

---- the blocks before it

later : (i : ℕ) → 2 * (256 + i) ≡ 512 + 2 * i
later i = omega arith

later_one : (i : ℕ) → 2 * (256 + i) + 1 ≡ 512 + (2 * i + 1)
later_one i = omega arith

module _ (s : List ℕ) (i w : ℕ) (h : 256 + i < length s / 2) where
  kept : take 512 (put_word s (256 + i) w) ≡ take 512 s
  kept =
      ap (take 512) (put_in s (256 + i) w h)
      ∙ take-set-le 512 (set s (2 * (256 + i)) (w % 256)) (2 * (256 + i) + 1) (w / 256 % 256) (omega arith)
      ∙ take-set-le 512 s (2 * (256 + i)) (w % 256) (omega arith)

  moved : drop 512 (put_word s (256 + i) w) ≡ put_word (drop 512 s) i w
  moved =
      let d = length-drop 512 s in
      let put : put_word s (256 + i) w ≡ set (set s (512 + 2 * i) (w % 256)) (512 + (2 * i + 1)) (w / 256 % 256) =
      put_in s (256 + i) w h ∙ rw (later_one i, later i) refl in
      ap (drop 512) put
      ∙ drop-set-add 512 (set s (512 + 2 * i) (w % 256)) (2 * i + 1) (w / 256 % 256)
      ∙ ap (λ l. set l (2 * i + 1) (w / 256 % 256)) (drop-set-add 512 s (2 * i) (w % 256))
      ∙ sym (put_in (drop 512 s) i w (omega arith))

  good_kept : (k : ℕ) → good k (put_word s (256 + i) w) ≡ good k s
  unfolding good
  good_kept k = rw (length_put s (256 + i) w, kept) refl

  word_moved : word_at (words (drop 512 s)) i ≡ word_at (words s) (256 + i)
  word_moved = ap (λ l. get_or l i 0) (words_drop 256 s) ∙ get_or-drop 256 (words s) i 0

---- all blocks

abbrev Changed : ℕ → ℕ → List ℕ → ℕ → ℕ → Type 0
Changed n k s i w = i < length s / 2 → i / 256 < n → w ≢ word_at (words s) i → bad_from n k (put_word s i w) ≡ k + i / 256

changed_later : (n k : ℕ) (s : List ℕ) (i w : ℕ) → good k s ≡ true → Changed n (suc k) (drop 512 s) i w → Changed (suc n) k s (256 + i) w
changed_later n k s i w g ih h l ne =
    let d = length-drop 512 s in
    let q = ih (omega arith) (omega arith) (λ z. ne (z ∙ word_moved s i w h)) in
    let sum : suc k + i / 256 ≡ k + (256 + i) / 256 = omega arith in
    rw (good_kept s i w h k, g) (ap (bad_from n (suc k)) (moved s i w h) ∙ q ∙ sum)

first_changed : (n k : ℕ) (s : List ℕ) (i w : ℕ) → Below 256 s → w < 65536 → bad_from n k s ≡ k + n → Changed n k s i w
first_changed zero k s i w b lw e h l ne = absurd (omega (arith, l))
first_changed (suc n) k s i w b lw e h l ne =
    go (ltb i 256) refl (bad_next n k s e) (λ j f. first_changed n (suc k) (drop 512 s) j w (below_drop 256 512 s b) lw f) h l ne
  where
    go : (t : Bool) → ltb i 256 ≡ t → (good k s ≡ true) × (bad_from n (suc k) (drop 512 s) ≡ suc k + n) →
        ((j : ℕ) → bad_from n (suc k) (drop 512 s) ≡ suc k + n → Changed n (suc k) (drop 512 s) j w) → Changed (suc n) k s i w
    go true t g ih h l ne =
        let x = ltb-true i 256 t in
        let z : k ≡ k + i / 256 = omega arith in
        rw (changed_here s k i w b x lw ne g.0) z
    go false t g ih h l ne =
        let x = ltb-false i 256 t in
        let z : 256 + (i - 256) ≡ i = omega arith in
        subst (λ (j : ℕ). Changed (suc n) k s j w) z (changed_later n k s (i - 256) w g.0 (ih (i - 256) g.1)) h l ne

in_block : (n i : ℕ) → i < n / 2 → i / 256 < blocks_in n
unfolding blocks_in
in_block n i h = omega arith

pub word_changed : WordChanged
unfolding first_bad
word_changed s i w room b e h lw ne =
    let n = length_put s i w in
    let c = first_changed (blocks_in (length s)) 0 s i w b lw (accepted_bad s e) h (in_block (length s) i h) ne in
    bad_answer (put_word s i w) room (i / 256) (rw n (accepted_length s e)) (rw n (c ∙ zero-add (i / 256))) (rw n (in_block (length s) i h))

---- one word of a block, whatever the other blocks are

bad_from_lem : (n k : ℕ) (s : List ℕ) → k ≤ bad_from n k s
bad_from_lem zero k s = omega arith
bad_from_lem (suc n) k s = go (good k s) (bad_from_lem n (suc k) (drop 512 s))
  where
    go : (b : Bool) → suc k ≤ bad_from n (suc k) (drop 512 s) → k ≤ cond b (bad_from n (suc k) (drop 512 s)) k
    go true h = omega arith
    go false h = omega arith

-- block m of those from block k on
good_at : ℕ → ℕ → List ℕ → Bool
good_at k m s = good (k + m) (drop (512 * m) s)

good_next : (k m : ℕ) (s : List ℕ) → good_at (suc k) m (drop 512 s) ≡ good_at k (suc m) s
unfolding good_at
good_next k m s =
    let a : suc k + m ≡ k + suc m = omega arith in
    let b : 512 + 512 * m ≡ 512 * suc m = omega arith in
    ap (λ i. good i (drop (512 * m) (drop 512 s))) a ∙ ap (good (k + suc m)) (drop-drop (512 * m) 512 s ∙ ap (λ i. drop i s) b)

good_here : (k : ℕ) (s : List ℕ) → good_at k 0 s ≡ good k s
unfolding good_at
good_here k s = let a : k + 0 ≡ k = omega arith in ap (λ i. good i s) a

-- the first bad block is bad
first_is_bad : (m n k : ℕ) (s : List ℕ) → m < n → bad_from n k s ≡ k + m → good_at k m s ≡ false
first_is_bad m zero k s h e = absurd (omega (arith, h))
first_is_bad zero (suc n) k s h e = good_here k s ∙ go (good k s) (bad_from_lem n (suc k) (drop 512 s)) e
  where
    go : (b : Bool) → suc k ≤ bad_from n (suc k) (drop 512 s) → cond b (bad_from n (suc k) (drop 512 s)) k ≡ k + 0 → b ≡ false
    go true l f = absurd (omega (arith, l, f))
    go false l f = refl
first_is_bad (suc m) (suc n) k s h e = go (good k s) (λ f. first_is_bad m n (suc k) (drop 512 s) (omega (arith, h)) f) e
  where
    go : (b : Bool) → (bad_from n (suc k) (drop 512 s) ≡ suc k + m → good_at (suc k) m (drop 512 s) ≡ false) →
        cond b (bad_from n (suc k) (drop 512 s)) k ≡ k + suc m → good_at k (suc m) s ≡ false
    go true ih f = sym (good_next k m s) ∙ ih (f ∙ omega arith)
    go false ih f = absurd (omega (arith, f))

-- and no block behind a bad one is the first
first_before : (m n k : ℕ) (s : List ℕ) → m < n → good_at k m s ≡ false → bad_from n k s ≤ k + m
first_before m zero k s h e = absurd (omega (arith, h))
first_before zero (suc n) k s h e = rw (sym (good_here k s) ∙ e) (omega arith)
first_before (suc m) (suc n) k s h e = go (good k s) (first_before m n (suc k) (drop 512 s) (omega (arith, h)) (good_next k m s ∙ e))
  where
    go : (b : Bool) → bad_from n (suc k) (drop 512 s) ≤ suc k + m → cond b (bad_from n (suc k) (drop 512 s)) k ≤ k + suc m
    go true l = omega arith
    go false l = omega arith

same_block : (k m : ℕ) (s t : List ℕ) → length t ≡ length s → take 512 (drop (512 * m) t) ≡ take 512 (drop (512 * m) s) → good_at k m t ≡ good_at k m s
unfolding good good_at
same_block k m s t l e = rw (e, length-drop (512 * m) t, length-drop (512 * m) s, l) refl

pub word_of_block_changed : WordOfBlockChanged
unfolding first_bad
word_of_block_changed s t k i w room b e h small lw ne l same =
    let at : (256 * k + i) / 256 ≡ k = omega arith in
    let inside : k < blocks_in (length s) = subst (λ (j : ℕ). j < blocks_in (length s)) at (in_block (length s) (256 * k + i) h) in
    let c = first_changed (blocks_in (length s)) 0 s (256 * k + i) w b lw (accepted_bad s e) h (in_block (length s) (256 * k + i) h) ne in
    let bad : good_at 0 k (put_word s (256 * k + i) w) ≡ false = first_is_bad k (blocks_in (length s)) 0 _ inside (c ∙ ap (λ j. 0 + j) at) in
    let here : good_at 0 k t ≡ false = same_block 0 k (put_word s (256 * k + i) w) t (l ∙ sym (length_put s (256 * k + i) w)) same ∙ bad in
    let up = first_before k (blocks_in (length s)) 0 t inside here in
    let first : first_bad t ≤ k = rw l (omega (arith, up)) in
    (bad_answer t room (first_bad t) (rw l (accepted_length s e)) refl (rw l (omega (arith, up, inside))), first)
