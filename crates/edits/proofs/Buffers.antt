-- A lent buffer and the words that its used bytes hold: what storing words, pushing a record and taking one off do to
-- both. The bytes past the used part never matter.
use Prim.Native.Nat.{ℕ, ◌+◌, ◌-◌, ◌*◌, ◌%◌, ◌≤◌, max}
use mathlib.Core.Path.{◌≡◌, refl, sym, ap, ◌∙◌}
use mathlib.Core.Bool.{true}
use mathlib.Core.List.{List, [], ◌∷◌, ◌++◌, append_assoc}
use native.Mathlib.Omega.{arith}
use lib.ListN.{length, take, drop, replicate, length-append, length-drop, length-replicate}
use lib.Seq.{take_at, take-take, length-take-le, get_or-append_seam}
use lib.Dec.{leb}
use borrow.Author.Tests.{le-leb, eq-eqb}
use Rattle.words.specs.Words.{words, bytes, Below, over}
use Rattle.words.proofs.Laws.{words_bytes, bytes_words, words_append, words_take, length_bytes}
use Rattle.limits.specs.Limits.{size_ok, used_ok}
use Rattle.edits.specs.Calls.{used_words, ends_in_marker, stored, pushed}
use Rattle.edits.proofs.Tested.{used_parts, used_twice}
use Rattle.edits.proofs.Bounds.{below_append, below_take, below_drop, below_zeros, bytes_below}

-- a buffer of `size` bytes whose n used bytes hold the words ws
pub record Holds (size : ℕ) (s : List ℕ) (n : ℕ) (ws : List ℕ) : Type 0 where
  pub whole : length s ≡ size
  pub bytes : Below 256 s
  pub used : n ≡ 2 * length ws
  pub within : n ≤ size
  pub words : used_words s n ≡ ws

-- a buffer with a good used length holds its used words
pub used_holds : (s : List ℕ) (n : ℕ) → Below 256 s → used_ok (length s) n ≡ true → Holds (length s) s n (used_words s n)
used_holds s n b e =
    let u = used_parts (length s) n e in
    record { whole = refl; bytes = b; used = used_twice s n u; within = u.within; words = refl }

module _ {size : ℕ} {s : List ℕ} {n : ℕ} {ws : List ℕ} (H : Holds size s n ws) where
  -- its used length is good wherever its own length is
  pub holds_ok : (t : List ℕ) → length t ≡ size → size_ok (length t) ≡ true → used_ok (length s) n ≡ true
  holds_ok t e ok =
      let l : length s ≡ length t = H.whole ∙ sym e in
      let u = H.used in
      let w : n ≤ length s = let a = H.within in let b = H.whole in omega arith in
      rw (l, ok, eq-eqb (n % 2) 0 (omega arith)) (ap (leb n) (sym l) ∙ le-leb n (length s) w)

  -- the words stored: they are its used words then
  pub holds_stored : (x : List ℕ) → Below 65536 x → 2 * length x ≤ size → Holds size (stored s n x) (2 * length x) x
  unfolding stored
  holds_stored x b h =
      let a = H.whole in
      let w = H.within in
      let l = length_bytes x in
      let rest = replicate (n - 2 * length x) 0 ++ drop (max n (2 * length x)) s in
      record {
        whole = simp (length-append, length-replicate, length-drop) (omega arith);
        bytes = below_append 256 (bytes x) rest (bytes_below x)
            (below_append 256 (replicate (n - 2 * length x) 0) (drop (max n (2 * length x)) s)
            (below_zeros 256 (n - 2 * length x) (omega arith)) (below_drop 256 (max n (2 * length x)) s H.bytes));
        used = refl;
        within = h;
        words = rw (take_at (bytes x) rest (2 * length x) l) (words_bytes x b);
      }

  -- a record pushed: its words stand behind the used ones
  pub holds_pushed : (x : List ℕ) → Below 65536 x → n + 2 * length x ≤ size → Holds size (pushed s n x) (n + 2 * length x) (ws ++ x)
  unfolding over
  holds_pushed x b h =
      let a = H.whole in
      let w = H.within in
      let u = H.used in
      let l = length_bytes x in
      let t : length (take n s) ≡ n = length-take-le n s (omega arith) in
      let rest = drop (n + 2 * length x) s in
      let both : length (take n s ++ bytes x) ≡ n + 2 * length x = length-append (take n s) (bytes x) ∙ (omega arith) in
      let front : take (n + 2 * length x) (take n s ++ (bytes x ++ drop (n + 2 * length x) s)) ≡ take n s ++ bytes x =
      ap (take (n + 2 * length x)) (sym (append_assoc (take n s) (bytes x) rest)) ∙ take_at (take n s ++ bytes x) rest (n + 2 * length x) both in
      rw l (record {
        whole = simp (length-append, length-drop, t, l) (omega arith);
        bytes = below_append 256 (take n s) (bytes x ++ rest) (below_take 256 n s (omega arith) H.bytes)
            (below_append 256 (bytes x) rest (bytes_below x) (below_drop 256 (n + 2 * length x) s H.bytes));
        used = rw (length-append ws x) (omega arith);
        within = h;
        words = rw front (words_append (length ws) (take n s) (bytes x) (t ∙ u) ∙ rw (H.words, words_bytes x b) refl);
      })

-- the last words taken off: the used length is that of the words before them, and the bytes stay
pub holds_front : (size : ℕ) (s : List ℕ) (n : ℕ) (ws x : List ℕ) → Holds size s n (ws ++ x) → Holds size s (2 * length ws) ws
holds_front size s n ws x H =
    let u = H.used in
    let w = H.within in
    let l = length-append ws x in
    let long : 2 * (length ws + length x) ≡ n = omega arith in
    let all : take (length ws + length x) (words s) ≡ ws ++ x =
    sym (words_take (length ws + length x) s) ∙ ap (λ k. words (take k s)) long ∙ H.words in
    record {
      whole = H.whole;
      bytes = H.bytes;
      used = refl;
      within = omega arith;
      words = words_take (length ws) s ∙ sym (take-take (length ws) (length ws + length x) (words s) (omega arith))
          ∙ ap (take (length ws)) all ∙ take_at ws x (length ws) refl;
    }

-- a buffer's used bytes are those of the words that it holds
pub holds_bytes : (size : ℕ) (s : List ℕ) (n : ℕ) (ws : List ℕ) → Holds size s n ws → take n s ≡ bytes ws
holds_bytes size s n ws H =
    let a = H.whole in
    let w = H.within in
    sym (bytes_words (take n s) (length ws) (length-take-le n s (omega arith) ∙ H.used) (below_take 256 n s (omega arith) H.bytes))
    ∙ ap bytes H.words

-- two buffers that hold the same words have the same used bytes
pub holds_same : (size size' : ℕ) (s t : List ℕ) (n m : ℕ) (ws : List ℕ) → Holds size s n ws → Holds size' t m ws → take n s ≡ take m t
holds_same size size' s t n m ws H K = holds_bytes size s n ws H ∙ sym (holds_bytes size' t m ws K)

-- words with the marker behind them end in it
pub marker_ends : (f : List ℕ) → ends_in_marker (f ++ (65535 ∷ [])) ≡ true
marker_ends f =
    let l : length (f ++ (65535 ∷ [])) ≡ length f + 1 = length-append f (65535 ∷ []) in
    let last : length (f ++ (65535 ∷ [])) - 1 ≡ length f = omega arith in
    rw (le-leb 1 (length (f ++ (65535 ∷ []))) (omega arith), last, get_or-append_seam f 65535 [] 0) refl
