-- What callers cite. A buffer after one change is words stored again, so a next change is one of those words: words put
-- in, words taken out. Then a part of a lent buffer in words.
use Prim.Native.Nat.{ℕ, zero, suc, ◌+◌, ◌-◌, ◌*◌, ◌/◌, ◌%◌, ◌≤◌, max}
use mathlib.Core.Path.{◌≡◌, refl, sym, ap, ◌∙◌}
use mathlib.Core.List.{List, [], ◌∷◌, ◌++◌}
use native.Mathlib.Omega.{arith}
use lib.ListN.{length, take, drop, replicate, length-append, length-drop}
use lib.Seq.{take_at, take-take, drop-drop, drop-append-add}
use Rattle.words.specs.Words.{words, bytes, Below}
use Rattle.words.proofs.Laws.{length_bytes, words_bytes, words_take, words_drop}
use Rattle.edits.specs.Edits.{splice, cut}
use Rattle.edits.specs.Calls.{used_words, stored}
use Rattle.buffers.specs.Files.{words_inserted, words_removed}
use Rattle.buffers.proofs.Fits.{inserted_fits, removed_fits}

---- as many words stored as are used

stored_all : (s : List ℕ) (used : ℕ) (ws : List ℕ) → used ≡ 2 * length ws → stored s used ws ≡ bytes ws ++ drop used s
unfolding stored
stored_all s used ws e =
    let none : used - 2 * length ws ≡ 0 = omega arith in
    let most : max used (2 * length ws) ≡ used = omega arith in
    rw (none, most) refl

-- words stored, then others: the last count
pub stored_stored : (s : List ℕ) (used : ℕ) (ws vs : List ℕ) → used ≡ 2 * length ws → stored (stored s used ws) used vs ≡ stored s used vs
unfolding stored
stored_stored s used ws vs e =
    let n : length (bytes ws) + (max used (2 * length vs) - used) ≡ max used (2 * length vs) = let l = length_bytes ws in omega arith in
    let m : used + (max used (2 * length vs) - used) ≡ max used (2 * length vs) = omega arith in
    let rest : drop (max used (2 * length vs)) (bytes ws ++ drop used s) ≡ drop (max used (2 * length vs)) s =
    ap (λ i. drop i (bytes ws ++ drop used s)) (sym n) ∙ drop-append-add (bytes ws) (drop used s) (max used (2 * length vs) - used)
    ∙ drop-drop (max used (2 * length vs) - used) used s ∙ ap (λ i. drop i s) m in
    ap (λ l. bytes vs ++ (replicate (used - 2 * length vs) 0 ++ l)) (ap (drop (max used (2 * length vs))) (stored_all s used ws e) ∙ rest)

-- what is stored are then the used words, and the buffer is as long as it was
used_stored : (s : List ℕ) (used : ℕ) (ws : List ℕ) → used ≡ 2 * length ws → Below 65536 ws → used_words (stored s used ws) used ≡ ws
used_stored s used ws e b =
    let l = length_bytes ws in
    ap (λ x. words (take used x)) (stored_all s used ws e) ∙ ap words (take_at (bytes ws) (drop used s) used (omega arith)) ∙ words_bytes ws b

length_stored : (s : List ℕ) (used : ℕ) (ws : List ℕ) → used ≡ 2 * length ws → used ≤ length s → length (stored s used ws) ≡ length s
length_stored s used ws e h =
    let l = length_bytes ws in
    ap length (stored_all s used ws e) ∙ simp (length-append, length-drop) (omega arith)

---- words put into words that were stored, and taken out of them

pub inserted_stored : (s : List ℕ) (used : ℕ) (ws : List ℕ) (p : ℕ) (x : List ℕ) → used ≡ 2 * length ws → Below 65536 ws → p ≤ length ws → length x % 2 ≡ 0
    → used + length x ≤ length s → words_inserted (stored s used ws) used p x ≡ stored s used (splice p (words x) ws)
inserted_stored s used ws p x e b h even l =
    let n = length_stored s used ws e (omega arith) in
    inserted_fits (stored s used ws) used p x (omega arith) even (omega arith) (omega arith)
    ∙ ap (λ v. stored (stored s used ws) used (splice p (words x) v)) (used_stored s used ws e b) ∙ stored_stored s used ws (splice p (words x) ws) e

pub removed_stored : (s : List ℕ) (used : ℕ) (ws : List ℕ) (p n : ℕ) → used ≡ 2 * length ws → Below 65536 ws → p + n ≤ length ws → used ≤ length s
    → words_removed (stored s used ws) used p n ≡ stored s used (cut p n ws)
removed_stored s used ws p n e b h l =
    let m = length_stored s used ws e l in
    removed_fits (stored s used ws) used p n (omega arith) (omega arith) (omega arith)
    ∙ ap (λ v. stored (stored s used ws) used (cut p n v)) (used_stored s used ws e b) ∙ stored_stored s used ws (cut p n ws) e

---- a part of a lent buffer, from byte a up to, not including, byte e

take_within : (m k u : ℕ) (s : List ℕ) → k + m ≤ u → take m (drop k (take u s)) ≡ take m (drop k s)
take_within m zero u s h = take-take m u s (omega arith)
take_within m (suc k) zero s h = absurd (omega arith)
take_within m (suc k) (suc u) [] h = refl
take_within m (suc k) (suc u) (x ∷ s) h = take_within m k u s (omega arith)

pub part_words : (s : List ℕ) (used a e n : ℕ) → a % 2 ≡ 0 → e ≡ a + 2 * n → e ≤ used → words (take (e - a) (drop a s)) ≡ take n (drop (a / 2) (used_words s used))
part_words s used a e n even q h =
    let m : e - a ≡ 2 * n = omega arith in
    let k : 2 * (a / 2) ≡ a = omega arith in
    let from : drop (2 * (a / 2)) (take used s) ≡ drop a (take used s) = ap (λ i. drop i (take used s)) k in
    rw (m, ← take_within (2 * n) a used s (omega arith), ← from) (words_take n (drop (2 * (a / 2)) (take used s)) ∙ ap (take n) (words_drop (a / 2) (take used s)))
