-- Linkage k of a walk is the k-th of the linkages that fill the part: the walk passes one linkage of the list at a time, since a
-- linkage has as many words as its first word says.
use Prim.Native.Nat.{ℕ, zero, suc, ◌+◌, ◌-◌, ◌≤◌, ◌<◌}
use mathlib.Core.Path.{◌≡◌, refl, sym, ap, ◌∙◌}
use mathlib.Core.Bool.{Bool, true, false, cond}
use mathlib.Core.List.{List, [], ◌∷◌, ◌++◌, append_assoc}
use native.Mathlib.Nat.{add-zero}
use native.Mathlib.Omega.{arith}
use lib.Dec.{ltb}
use lib.ListN.{length, take, drop, get_or, length-append, length-drop, take-append-drop, get_or-append}
use lib.Seq.{length-take-le, get_or-append-add}
use borrow.Author.Tests.{lt-ltb, le-ltb, ltb-true, ltb-false}
use Rattle.words.specs.Words.{word_at}
use Rattle.linkages.specs.Linkages.{is_user, linkage_words, linkages_fill, linkage_at, linkage_in, IsLinkage, Linkages, none, more}
use Rattle.linkages.specs.Listed.{Each, joined, FilledBy, given, kth}
use Rattle.linkages.proofs.Laws.{words_two, Fits, fits_by, fits_not, IsWalk, walk_stops, walk_here, walk_on}
use Rattle.linkages.proofs.Meaning.{words_of, some_words, fills_is}
use Rattle.linkages.specs.Linkage.{linkage_with}

---- words that linkages fill are those of a list of them

listed : {ws : List ℕ} → Linkages ws → (xs : List (List ℕ)) × Each xs × (ws ≡ joined xs)
listed none = ([], tt, refl)
listed (more {x} {rest} i l) = let r = listed l in (x ∷ r.0, (i, r.1), ap (λ t. x ++ t) r.2)

pub fill_listed : (ws : List ℕ) (at end : ℕ) → at ≤ end → end ≤ length ws → linkages_fill ws at end ≡ true → (xs : List (List ℕ)) × FilledBy xs ws at end
unfolding linkages_fill
fill_listed ws at end a b e =
    let r = listed (fills_is _ ws at end a b e) in
    (r.0, record { from = a; by = b; each = r.1; whole = r.2 })

---- one linkage of the list, in the words around it

module _ {x : List ℕ} (i : IsLinkage x) (ws pre post : List ℕ) (at : ℕ) (e : ws ≡ pre ++ (x ++ post)) (p : at ≡ length pre) where
  word_of : (k : ℕ) → k < length x → word_at ws (at + k) ≡ word_at x k
  word_of k h = rw (e, p) (get_or-append-add pre (x ++ post) k 0 ∙ get_or-append x post 0 k h)

  first_of : word_at ws at ≡ word_at x 0
  first_of = ap (word_at ws) (sym (add-zero at)) ∙ word_of 0 (some_words i)

  fits_whole : (end : ℕ) → at + length x ≤ end → Fits ws at end (length x)
  fits_whole end h = fits_by ws at end (length x) (ap linkage_words first_of ∙ words_of i) (some_words i) (omega arith)

  given_at : linkage_at ws at ≡ given x at
  given_at = rw (first_of, words_of i) (ap (linkage_with (is_user (word_at x 0)) at (length x)) (id_of (is_user (word_at x 0)) refl))
    where
      id_of : (b : Bool) → is_user (word_at x 0) ≡ b → cond b (word_at ws (at + 1)) 0 ≡ cond b (word_at x 1) 0
      id_of true u = word_of 1 (omega (arith, words_two (word_at x 0) u (omega (arith, words_of i, some_words i)), words_of i))
      id_of false u = refl

---- number k of a list

kth_first : (x : List ℕ) (xs : List (List ℕ)) (at : ℕ) → kth (x ∷ xs) at 0 ≡ given x at
kth_first x xs at = rw (lt-ltb 0 (suc (length xs)) (omega arith)) (ap (given x) (add-zero at))

kth_next : (x : List ℕ) (xs : List (List ℕ)) (at k : ℕ) → kth (x ∷ xs) at (suc k) ≡ kth xs (at + length x) k
kth_next x xs at k = go (ltb k (length xs)) refl
  where
    go : (b : Bool) → ltb k (length xs) ≡ b → kth (x ∷ xs) at (suc k) ≡ kth xs (at + length x) k
    go true q =
        let h = ltb-true k (length xs) q in
        rw (q, lt-ltb (suc k) (suc (length xs)) (omega arith)) (ap (given (get_or xs k [])) (omega (arith, length-append x (joined (take k xs)))))
    go false q = let h = ltb-false k (length xs) q in rw (q, le-ltb (suc k) (suc (length xs)) (omega arith)) refl

walked : (xs : List (List ℕ)) → Each xs → (ws pre post : List ℕ) (at end k : ℕ) → ws ≡ pre ++ (joined xs ++ post) → at ≡ length pre → end ≡ at + length (joined xs) →
    IsWalk ws at end k (kth xs at k)
walked [] o ws pre post at end k e p q =
    rw (le-ltb k 0 (omega arith)) (walk_stops ws at end k (fits_not ws at end (λ f. omega (arith, f.some, f.within))))
walked (x ∷ xs) o ws pre post at end k e p q =
    let f : ws ≡ pre ++ (x ++ (joined xs ++ post)) = e ∙ simp append_assoc in
    let l = length-append x (joined xs) in
    go k f (fits_whole o.0 ws pre (joined xs ++ post) at f p end (omega arith))
    (λ j. walked xs o.1 ws (pre ++ x) post (at + length x) end j (f ∙ simp append_assoc) (omega (arith, length-append pre x)) (omega arith))
  where
    go : (k : ℕ) → ws ≡ pre ++ (x ++ (joined xs ++ post)) → Fits ws at end (length x) → ((j : ℕ) → IsWalk ws (at + length x) end j (kth xs (at + length x) j)) →
        IsWalk ws at end k (kth (x ∷ xs) at k)
    go zero f h r = rw (kth_first x xs at, ← given_at o.0 ws pre (joined xs ++ post) at f p) (walk_here ws at end 0 (length x) refl h)
    go (suc k) f h r =
        let j : suc k - 1 ≡ k = omega arith in
        rw (kth_next x xs at k) (walk_on ws at end (suc k) (length x) (kth xs (at + length x) k) (λ z. omega arith) h (rw j (r k)))

---- the law

pub linkage_is : (xs : List (List ℕ)) (ws : List ℕ) (at end : ℕ) → FilledBy xs ws at end → (k : ℕ) → linkage_in ws at end k ≡ kth xs at k
unfolding linkage_in
linkage_is xs ws at end f k =
    let a = f.from in
    let b = f.by in
    let d = length-drop at ws in
    let l : length (joined xs) ≡ end - at = sym (ap length f.whole) ∙ length-take-le (end - at) (drop at ws) (omega arith) in
    let split : ws ≡ take at ws ++ (joined xs ++ drop (end - at) (drop at ws)) =
    sym (take-append-drop at ws)
    ∙ ap (λ t. take at ws ++ t) (sym (take-append-drop (end - at) (drop at ws)) ∙ ap (λ t. t ++ drop (end - at) (drop at ws)) f.whole) in
    sym (walked xs f.each ws (take at ws) (drop (end - at) (drop at ws)) at end k split (sym (length-take-le at ws (omega arith))) (omega arith) _ (omega arith))
