-- Flags as words: read back they are the same flags, the words are as many as they take, and no spare bit is set.
use Prim.Native.Nat.{ℕ, zero, suc, ◌+◌, ◌*◌, ◌/◌, ◌%◌, ◌^◌, ◌≤◌, ◌<◌}
use native.Mathlib.Nat.{pow-succ'}
use native.Mathlib.Omega.{arith}
use mathlib.Core.Path.{◌≡◌, refl, sym, ap, ◌∙◌}
use mathlib.Core.Bool.{Bool, true, false}
use mathlib.Core.List.{List, [], ◌∷◌, ◌++◌}
use lib.ListN.{length, take, drop, length-drop, take-append-drop}
use lib.Seq.{take_all, take-length, take-append-add, length-take-le}
use lib.Dec.{eqb, ltb}
use borrow.Author.Tests.{ltb-true, ltb-false, lt-ltb, eq-eqb}
use Rattle.words.specs.Words.{Below, word_at}
use Rattle.kinds.specs.FirstWord.{bit}
use Rattle.edits.specs.Bits.{digits, binary, flag_size, grouped, flag_words, word_flags, flags_ok}
use Rattle.edits.proofs.Bounds.{below_nil, below_cons}
use Rattle.edits.proofs.Tests.{both_and}

---- the digits of one word

lowest : (b : Bool) (n : ℕ) → eqb ((bit b + 2 * n) % 2) 1 ≡ b
lowest true n = eq-eqb ((1 + 2 * n) % 2) 1 (omega arith)
lowest false n = let e : (0 + 2 * n) % 2 ≡ 0 = omega arith in rw e refl

higher : (b : Bool) (n : ℕ) → (bit b + 2 * n) / 2 ≡ n
higher true n = omega arith
higher false n = omega arith

digits_back : (k : ℕ) (bs l : List Bool) → length bs ≤ k → take (length bs) (binary k (digits bs) ++ l) ≡ bs
digits_back k [] l h = refl
digits_back zero (b ∷ bs) l h = absurd (omega arith)
digits_back (suc k) (b ∷ bs) l h =
    rw (lowest b (digits bs), higher b (digits bs)) (ap (λ t. b ∷ t) (digits_back k bs l (omega arith)))

digits_whole : (bs : List Bool) (k : ℕ) → length bs ≡ k → binary k (digits bs) ≡ bs
digits_whole [] zero e = refl
digits_whole [] (suc k) e = absurd (omega arith)
digits_whole (b ∷ bs) zero e = absurd (omega arith)
digits_whole (b ∷ bs) (suc k) e = rw (lowest b (digits bs), higher b (digits bs)) (ap (λ t. b ∷ t) (digits_whole bs k (omega arith)))

power_some : (k : ℕ) → 0 < 2 ^ k
power_some zero = omega arith
power_some (suc k) = let h = power_some k in let e = pow-succ' 2 k in omega arith

pub digits_below : (k : ℕ) (bs : List Bool) → digits (take k bs) < 2 ^ k
digits_below zero bs = omega arith
digits_below (suc k) [] = power_some (suc k)
digits_below (suc k) (true ∷ bs) = let h = digits_below k bs in let e = pow-succ' 2 k in omega arith
digits_below (suc k) (false ∷ bs) = let h = digits_below k bs in let e = pow-succ' 2 k in omega arith

---- all words

length_grouped : (m : ℕ) (bs : List Bool) → length (grouped m bs) ≡ m
length_grouped zero bs = refl
length_grouped (suc m) bs = ap suc (length_grouped m (drop 16 bs))

below_grouped : (m : ℕ) (bs : List Bool) → Below 65536 (grouped m bs)
below_grouped zero bs = below_nil 65536 (omega arith)
below_grouped (suc m) bs = below_cons 65536 (digits (take 16 bs)) (grouped m (drop 16 bs)) (digits_below 16 bs) (below_grouped m (drop 16 bs))

grouped_back : (m : ℕ) (bs : List Bool) → length bs ≤ 16 * m → take (length bs) (word_flags (grouped m bs)) ≡ bs
unfolding word_flags
grouped_back zero [] h = refl
grouped_back zero (b ∷ bs) h = absurd (omega arith)
grouped_back (suc m) bs h = go (grouped_back m (drop 16 bs)) (ltb 16 (length bs)) refl
  where
    go : (length (drop 16 bs) ≤ 16 * m → take (length (drop 16 bs)) (word_flags (grouped m (drop 16 bs))) ≡ drop 16 bs) → (t : Bool) → ltb 16 (length bs) ≡ t → take (length bs) (binary 16 (digits (take 16 bs)) ++ word_flags (grouped m (drop 16 bs))) ≡ bs
    go back false e =
        rw (take_all 16 bs (ltb-false 16 (length bs) e)) (digits_back 16 bs (word_flags (grouped m (drop 16 bs))) (ltb-false 16 (length bs) e))
    go back true e =
        let l = ltb-true 16 (length bs) e in
        let a : length (take 16 bs) ≡ 16 = length-take-le 16 bs (omega arith) in
        let c = length-drop 16 bs in
        let n : length bs ≡ length (take 16 bs) + length (drop 16 bs) = omega arith in
        ap (λ k. take k (binary 16 (digits (take 16 bs)) ++ word_flags (grouped m (drop 16 bs)))) n
        ∙ ap (λ k. take (length (take 16 bs) + length (drop 16 bs)) (k ++ word_flags (grouped m (drop 16 bs)))) (digits_whole (take 16 bs) 16 a)
        ∙ take-append-add (take 16 bs) (word_flags (grouped m (drop 16 bs))) (length (drop 16 bs))
        ∙ ap (λ k. take 16 bs ++ k) (back (omega arith))
        ∙ take-append-drop 16 bs

spare_zero : (m : ℕ) (bs : List Bool) → length bs ≤ 16 * m → word_at (grouped m bs) (length bs / 16) < 2 ^ (length bs % 16)
spare_zero zero bs h = power_some (length bs % 16)
spare_zero (suc m) bs h = go (spare_zero m (drop 16 bs)) (ltb (length bs) 16) refl
  where
    go : (length (drop 16 bs) ≤ 16 * m → word_at (grouped m (drop 16 bs)) (length (drop 16 bs) / 16) < 2 ^ (length (drop 16 bs) % 16)) → (t : Bool) → ltb (length bs) 16 ≡ t → word_at (grouped (suc m) bs) (length bs / 16) < 2 ^ (length bs % 16)
    go next true e =
        let l = ltb-true (length bs) 16 e in
        let d : length bs / 16 ≡ 0 = omega arith in
        let r : length bs % 16 ≡ length bs = omega arith in
        let t : take 16 bs ≡ take (length bs) bs = take_all 16 bs (omega arith) ∙ sym (take-length bs) in
        rw (d, r, t) (digits_below (length bs) bs)
    go next false e =
        let l = ltb-false (length bs) 16 e in
        let c = length-drop 16 bs in
        let d : length bs / 16 ≡ suc (length (drop 16 bs) / 16) = omega arith in
        let r : length bs % 16 ≡ length (drop 16 bs) % 16 = omega arith in
        rw (d, r) (next (omega arith))

-- the first word, and those of the flags behind it
pub packed_next : (bs : List Bool) → 1 ≤ length bs → flag_words bs ≡ digits (take 16 bs) ∷ flag_words (drop 16 bs)
unfolding flag_words
packed_next bs h =
    let l = length-drop 16 bs in
    let e : flag_size (length bs) ≡ suc (flag_size (length (drop 16 bs))) = omega arith in
    rw e refl

pub length_packed : (bs : List Bool) → length (flag_words bs) ≡ flag_size (length bs)
unfolding flag_words
length_packed bs = length_grouped (flag_size (length bs)) bs

pub below_packed : (bs : List Bool) → Below 65536 (flag_words bs)
unfolding flag_words
below_packed bs = below_grouped (flag_size (length bs)) bs

pub packed_back : (bs : List Bool) → take (length bs) (word_flags (flag_words bs)) ≡ bs
unfolding flag_words
packed_back bs = grouped_back (flag_size (length bs)) bs (omega arith)

pub packed_ok : (bs : List Bool) → flags_ok (length bs) (flag_words bs) ≡ true
unfolding flags_ok flag_words
packed_ok bs =
    both_and (eq-eqb _ (flag_size (length bs)) (length_grouped (flag_size (length bs)) bs))
    (lt-ltb _ (2 ^ (length bs % 16)) (spare_zero (flag_size (length bs)) bs (omega arith)))
