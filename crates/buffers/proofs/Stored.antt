-- A file's buffer in bytes and in words: words stored are their bytes, then zeros, then the rest, so a change of the
-- used bytes at even places is the same change of the used words.
use Prim.Native.Nat.{ℕ, ◌+◌, ◌-◌, ◌*◌, ◌/◌, ◌%◌, ◌≤◌, ◌<◌, max}
use mathlib.Core.Path.{◌≡◌, refl, sym, ap, ◌∙◌}
use mathlib.Core.List.{List, ◌++◌, append_assoc}
use native.Mathlib.Omega.{arith}
use lib.ListN.{length, take, drop, replicate, length-append, length-take, length-drop, length-replicate}
use lib.Seq.{slice, length-slice, length-take-le, take-append-le, take-take, drop_at}
use Rattle.words.specs.Words.{words, Below, over}
use Rattle.words.proofs.Laws.{length_words, bytes_words, words_append, words_take, words_drop}
use Rattle.edits.specs.Edits.{splice, cut}
use Rattle.edits.specs.Calls.{used_words, stored}
use Rattle.edits.proofs.Bounds.{below_append, below_take, below_drop}
use Rattle.words.proofs.Over.{over_over}

---- a change of bytes at even places, in words

words_splice : (s : List ℕ) (p : ℕ) (x : List ℕ) (m : ℕ) → 2 * p ≤ length s → length x ≡ 2 * m → words (splice (2 * p) x s) ≡ splice p (words x) (words s)
unfolding splice
words_splice s p x m h e =
    rw (words_append p (take (2 * p) s) (x ++ drop (2 * p) s) (length-take-le (2 * p) s h), words_append m x (drop (2 * p) s) e, words_take p s, words_drop p s) refl

words_cut : (s : List ℕ) (p n : ℕ) → 2 * p ≤ length s → words (cut (2 * p) (2 * n) s) ≡ cut p n (words s)
unfolding cut
words_cut s p n h =
    let e : 2 * p + 2 * n ≡ 2 * (p + n) = omega arith in
    rw (e, words_append p (take (2 * p) s) (drop (2 * (p + n)) s) (length-take-le (2 * p) s h), words_take p s, words_drop (p + n) s) refl

---- words stored, in bytes

pub stored_bytes : (s : List ℕ) (n : ℕ) (y : List ℕ) (m : ℕ) → length y ≡ 2 * m → Below 256 y
    → stored s n (words y) ≡ y ++ (replicate (n - length y) 0 ++ drop (max n (length y)) s)
unfolding stored
stored_bytes s n y m e b =
    let l : 2 * length (words y) ≡ length y = ap (λ k. 2 * k) (length_words y) ∙ (omega arith) in
    rw (l, bytes_words y m e b) refl

---- the bytes that the two moves of an insert leave, and the two of a remove

spliced : (s x s₁ s₂ : List ℕ) (used at : ℕ) → at ≤ used → used + length x ≤ length s → s₁ ≡ over s (at + length x) (slice at used s) → s₂ ≡ over s₁ at x
    → s₂ ≡ splice at x (take used s) ++ drop (used + length x) s
unfolding splice over
spliced s x s₁ s₂ used at h l e g =
    let p = length-slice at used s (omega arith) in
    let k = length-take-le (at + length x) s (omega arith) in
    let q : at + length x + length (slice at used s) ≡ used + length x = omega arith in
    rw (
      g,
      e,
      q,
      take-append-le at (take (at + length x) s) (slice at used s ++ drop (used + length x) s) (omega arith),
      take-take at (at + length x) s (omega arith),
      take-take at used s h,
      drop_at (take (at + length x) s) (slice at used s ++ drop (used + length x) s) (at + length x) k,
    )
    (simp append_assoc)

cleared : (s s₁ s₂ : List ℕ) (used at n : ℕ) → at + n ≤ used → used ≤ length s → s₁ ≡ over s at (slice (at + n) used s)
    → s₂ ≡ over s₁ (used - n) (replicate (used - (used - n)) 0) → s₂ ≡ cut at n (take used s) ++ (replicate n 0 ++ drop used s)
unfolding cut over
cleared s s₁ s₂ used at n h l e g =
    let m : used - (used - n) ≡ n = omega arith in
    let p = length-slice (at + n) used s l in
    let both : s₂ ≡ over s at (slice (at + n) used s ++ replicate n 0) =
    g ∙ rw (m, e) (over_over s at (slice (at + n) used s) (used - n) (replicate n 0) (omega arith) (omega arith)) in
    let q : at + length (slice (at + n) used s ++ replicate n 0) ≡ used = simp (length-append, length-replicate) (omega arith) in
    both ∙ rw (q, take-take at used s (omega arith)) (simp append_assoc)

---- the same in words

pub length_splice : (s : List ℕ) (p : ℕ) (x : List ℕ) → length (splice p x s) ≡ length s + length x
unfolding splice
length_splice s p x = simp (length-append, length-take, length-drop) (omega arith)

pub length_cut : (s : List ℕ) (p n : ℕ) → p + n ≤ length s → length (cut p n s) ≡ length s - n
unfolding cut
length_cut s p n h = simp (length-append, length-take, length-drop) (omega arith)

below_splice : (n : ℕ) (s : List ℕ) (p : ℕ) (x : List ℕ) → 0 < n → Below n s → Below n x → Below n (splice p x s)
unfolding splice
below_splice n s p x h b c = below_append n (take p s) (x ++ drop p s) (below_take n p s h b) (below_append n x (drop p s) c (below_drop n p s b))

below_cut : (n : ℕ) (s : List ℕ) (p k : ℕ) → 0 < n → Below n s → Below n (cut p k s)
unfolding cut
below_cut n s p k h b = below_append n (take p s) (drop (p + k) s) (below_take n p s h b) (below_drop n (p + k) s b)

module _ (s : List ℕ) (used p : ℕ) (b : Below 256 s) (even : used % 2 ≡ 0) (l : used ≤ length s) where
  pub insert_moves : (x s₁ s₂ : List ℕ) → Below 256 x → length x % 2 ≡ 0 → 2 * p ≤ used → used + length x ≤ length s
      → s₁ ≡ over s (2 * p + length x) (slice (2 * p) used s) → s₂ ≡ over s₁ (2 * p) x → s₂ ≡ stored s used (splice p (words x) (used_words s used))
  insert_moves x s₁ s₂ bx ex h r e g =
      let t = length-take-le used s l in
      let y = splice (2 * p) x (take used s) in
      let ly : length (splice (2 * p) x (take used s)) ≡ used + length x = length_splice (take used s) (2 * p) x ∙ (omega arith) in
      let none : used - (used + length x) ≡ 0 = omega arith in
      let most : max used (used + length x) ≡ used + length x = omega arith in
      let w = words_splice (take used s) p x (length x / 2) (omega arith) (omega arith) in
      spliced s x s₁ s₂ used (2 * p) h r e g
      ∙ sym (ap (stored s used) (sym w)
      ∙ stored_bytes s used y ((used + length x) / 2) (omega arith) (below_splice 256 (take used s) (2 * p) x (omega arith) (below_take 256 used s (omega arith) b) bx)
      ∙ rw (ly, none, most) refl)

  pub remove_moves : (n : ℕ) (s₁ s₂ : List ℕ) → 2 * (p + n) ≤ used → s₁ ≡ over s (2 * p) (slice (2 * p + 2 * n) used s)
      → s₂ ≡ over s₁ (used - 2 * n) (replicate (used - (used - 2 * n)) 0) → s₂ ≡ stored s used (cut p n (used_words s used))
  remove_moves n s₁ s₂ h e g =
      let t = length-take-le used s l in
      let y = cut (2 * p) (2 * n) (take used s) in
      let ly : length (cut (2 * p) (2 * n) (take used s)) ≡ used - 2 * n = length_cut (take used s) (2 * p) (2 * n) (omega arith) ∙ (omega arith) in
      let freed : used - (used - 2 * n) ≡ 2 * n = omega arith in
      let most : max used (used - 2 * n) ≡ used = omega arith in
      let w = words_cut (take used s) p n (omega arith) in
      cleared s s₁ s₂ used (2 * p) (2 * n) (omega arith) l e g
      ∙ sym (ap (stored s used) (sym w)
      ∙ stored_bytes s used y ((used - 2 * n) / 2) (omega arith) (below_cut 256 (take used s) (2 * p) (2 * n) (omega arith) (below_take 256 used s (omega arith) b))
      ∙ rw (ly, freed, most) refl)
