-- The bytes that good blocks hold, block by block.
use Rattle.std.proofs.Common.{◌≡◌, ℕ, zero, suc, ◌+◌, ◌-◌, ◌*◌, ◌<◌, ◌≤◌, true, List, ◌++◌, length, get_or, take, drop, sym, refl, ap, ◌∙◌, subst, append_assoc, append-nil, zero-add, arith, length-append, length-drop, length-take, get_or-drop, get_or-take, take-take, drop-drop}
use Rattle.words.specs.Words.{words, word_at, over}
use Rattle.words.proofs.Laws.{words_take, words_drop}
use Rattle.words.proofs.Over.{over_over}
use Rattle.blocks.specs.Blocks.{used, chunk, good, bad_from, flat_from}
use Rattle.copies.specs.Copies.{copied}
use Rattle.blocks.proofs.Block.{length_chunk}
use Rattle.copies.proofs.Copies.{copied_fits}
use Rattle.blocks.proofs.Journal.{good_sound, bad_next, most_small, take_short}

pub flat_snoc : (k : ℕ) (s : List ℕ) → flat_from (suc k) s ≡ flat_from k s ++ chunk (take 512 (drop (512 * k) s))
flat_snoc zero s = append-nil (chunk (take 512 s))
flat_snoc (suc k) s =
    let e : 512 + 512 * k ≡ 512 * suc k = omega arith in
    ap (λ r. chunk (take 512 s) ++ r)
    (flat_snoc k (drop 512 s) ∙ ap (λ r. flat_from k (drop 512 s) ++ chunk (take 512 r)) (drop-drop (512 * k) 512 s ∙ ap (λ i. drop i s) e))
    ∙ sym (append_assoc (chunk (take 512 s)) (flat_from k (drop 512 s)) _)

chunk_short : (b : List ℕ) (n : ℕ) → length b ≤ n → length (chunk b) ≤ n
unfolding chunk
chunk_short b n h = let t = length-take (used b) b in omega arith

pub flat_le : (k : ℕ) (s : List ℕ) → length (flat_from k s) ≤ 512 * k
flat_le zero s = omega arith
flat_le (suc k) s =
    let a = length-append (chunk (take 512 s)) (flat_from k (drop 512 s)) in
    let b = chunk_short (take 512 s) 512 (take_short 512 s) in
    let c = flat_le k (drop 512 s) in
    omega arith

pub flat_mono : (k n : ℕ) (s : List ℕ) → k ≤ n → length (flat_from k s) ≤ length (flat_from n s)
flat_mono zero n s h = omega arith
flat_mono (suc k) zero s h = absurd (omega (arith, h))
flat_mono (suc k) (suc n) s h =
    let a = length-append (chunk (take 512 s)) (flat_from k (drop 512 s)) in
    let b = length-append (chunk (take 512 s)) (flat_from n (drop 512 s)) in
    let c = flat_mono k n (drop 512 s) (omega (arith, h)) in
    omega arith

good_all : (n k i m : ℕ) (s : List ℕ) → bad_from n k s ≡ k + n → i < n → m ≡ k + i → good m (drop (512 * i) s) ≡ true
good_all zero k i m s e h q = absurd (omega (arith, h))
good_all (suc n) k zero m s e h q = let p : m ≡ k = omega (arith, q) in rw p (bad_next n k s e).0
good_all (suc n) k (suc i) m s e h q =
    let a : 512 + 512 * i ≡ 512 * suc i = omega arith in
    let g = good_all n (suc k) i m (drop 512 s) (bad_next n k s e).1 (omega (arith, h)) (omega (arith, q)) in
    subst (λ (l : List ℕ). good m l ≡ true) (drop-drop (512 * i) 512 s ∙ ap (λ x. drop x s) a) g

used_at : (k : ℕ) (s : List ℕ) → used (take 512 (drop (512 * k) s)) ≡ word_at (words s) (256 * k + 254)
unfolding used
used_at k s =
    let a : 2 * (256 * k) ≡ 512 * k = omega arith in
    let d : words (drop (512 * k) s) ≡ drop (256 * k) (words s) = ap (λ i. words (drop i s)) (sym a) ∙ words_drop (256 * k) s in
    ap (λ l. get_or l 254 0) (words_take 256 (drop (512 * k) s))
    ∙ get_or-take 256 (words (drop (512 * k) s)) 254 0 (omega arith)
    ∙ ap (λ l. get_or l 254 0) d
    ∙ get_or-drop (256 * k) (words s) 254 0

pub record Here (k u : ℕ) (s : List ℕ) : Type 0 where
  pub room : 512 * k + u ≤ length s
  pub size : length (chunk (take 512 (drop (512 * k) s))) ≡ u
  pub is : chunk (take 512 (drop (512 * k) s)) ≡ take (512 * k + u - 512 * k) (drop (512 * k) s)

chunk_is : (b d : List ℕ) (u v : ℕ) → b ≡ take 512 d → used b ≡ u → u ≤ 512 → v ≡ u → chunk b ≡ take v d
unfolding chunk
chunk_is b d u v e f h q = rw (f, q, e) (take-take u 512 d h)

pub here : (n k u : ℕ) (s : List ℕ) → bad_from n 0 s ≡ n → k < n → u ≡ word_at (words s) (256 * k + 254) → Here k u s
here n k u s e h w =
    let o = good_sound k (drop (512 * k) s) (good_all n 0 k k s (e ∙ sym (zero-add n)) h (sym (zero-add k))) in
    let v : used (take 512 (drop (512 * k) s)) ≡ u = used_at k s ∙ sym w in
    let m = most_small k in
    let hi : u ≤ 508 = omega (arith, v, o.high, m) in
    let d = length-drop (512 * k) s in
    let t = length-take 512 (drop (512 * k) s) in
    let z : 512 * k + u - 512 * k ≡ u = omega arith in
    record {
      room = omega (arith, hi, d, t, o.size);
      size = length_chunk (take 512 (drop (512 * k) s)) (omega (arith, v, hi, o.size)) ∙ v;
      is = chunk_is (take 512 (drop (512 * k) s)) (drop (512 * k) s) u (512 * k + u - 512 * k) refl v (omega (arith, hi)) z;
    }

pub flat_turn : (k t u : ℕ) (s : List ℕ) → t ≡ length (flat_from k s) → Here k u s → t + u ≡ length (flat_from (suc k) s)
flat_turn k t u s e h =
    let a = length-append (flat_from k s) (chunk (take 512 (drop (512 * k) s))) in
    let b = ap length (flat_snoc k s) in
    omega (arith, a, b, h.size, e)

pub flat_end : (k n t : ℕ) (s : List ℕ) → n ≤ k → k ≤ n → t ≡ length (flat_from k s) → t ≡ length (flat_from n s)
flat_end k n t s a b e = let q : k ≡ n = omega arith in e ∙ ap (λ i. length (flat_from i s)) q

pub gather_turn : (o0 o p s : List ℕ) (k n t u : ℕ) → o ≡ over o0 0 (flat_from k s) → t ≡ length (flat_from k s) → length o ≡ length o0 → k < n →
    length (flat_from n s) ≤ length o0 → Here k u s → p ≡ copied o t (take (512 * k + u - 512 * k) (drop (512 * k) s)) →
    p ≡ over o0 0 (flat_from (suc k) s)
gather_turn o0 o p s k n t u e f l h m w q =
    let c = chunk (take 512 (drop (512 * k) s)) in
    let a = flat_turn k t u s f w in
    let b = flat_mono (suc k) n s (omega (arith, h)) in
    let x : p ≡ copied o t c = q ∙ ap (copied o t) (sym w.is) in
    let fit : t + length c ≤ length o = omega (arith, a, b, m, l, w.size) in
    x
    ∙ copied_fits o t c fit
    ∙ ap (λ r. over r t c) e
    ∙ over_over o0 0 (flat_from k s) t c (f ∙ sym (zero-add (length (flat_from k s)))) (omega (arith, fit, l))
    ∙ ap (over o0 0) (sym (flat_snoc k s))
