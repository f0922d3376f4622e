-- What a fill means: it is true exactly where the words from one place to another are linkages joined. Both directions go
-- one linkage at a time.
use Prim.Native.Nat.{ℕ, zero, suc, ◌+◌, ◌-◌, ◌/◌, ◌%◌, ◌≤◌}
use mathlib.Core.Path.{◌≡◌, refl, sym, ap, ◌∙◌}
use mathlib.Core.Logic.{inl, inr}
use mathlib.Core.Bool.{Bool, true, false, false≢true}
use mathlib.Core.List.{List, [], ◌∷◌, ◌++◌, append_assoc}
use native.Mathlib.Nat.{add-zero}
use native.Mathlib.Omega.{arith}
use lib.ListN.{length, take, drop, length-append, length-drop}
use lib.Seq.{length-take-le, take-add, drop-drop, get_or-drop, get_or-append_seam}
use lib.Dec.{eqb}
use borrow.Author.Tests.{eqb-true}
use Rattle.words.specs.Words.{word_at}
use Rattle.linkages.specs.Linkages.{linkage_words, linkage_fits, fill_by, fill_from, linkages_fill, IsLinkage, user, other, Linkages, none, more}
use Rattle.linkages.proofs.Laws.{words_user, words_bare, words_other, words_none, Equal, equal, fits, fits_by, IsFill, fill_end, fill_on}

---- one linkage's words are as many as its first word says

pub words_of : {x : List ℕ} → IsLinkage x → linkage_words (word_at x 0) ≡ length x
words_of (user w follow u l s) = omega (arith, words_user w u (λ e. omega arith))
words_of (other w follow o l) = omega (arith, words_other w o)

pub some_words : {x : List ℕ} → IsLinkage x → 1 ≤ length x
some_words (user w follow u l s) = omega arith
some_words (other w follow o l) = omega arith

pub linkage_of : (w : ℕ) (follow : List ℕ) → linkage_words w ≡ 1 + length follow → IsLinkage (w ∷ follow)
linkage_of w follow e = go (equal (w / 4096 % 2) 1) (equal (w % 256) 0) (equal w 0) (equal w 32768)
  where
    go : Equal (w / 4096 % 2) 1 → Equal (w % 256) 0 → Equal w 0 → Equal w 32768 → IsLinkage (w ∷ follow)
    go (inl u) (inl l) a b = absurd (omega (arith, words_bare w u l))
    go (inl u) (inr l) a b = user w follow u (omega (arith, words_user w u l)) (omega arith)
    go (inr u) l (inl a) b = other w follow (inl a) (omega (arith, words_other w (inl a)))
    go (inr u) l (inr a) (inl b) = other w follow (inr b) (omega (arith, words_other w (inr b)))
    go (inr u) l (inr a) (inr b) = absurd (omega (arith, words_none w u a b))

front : (m : ℕ) (l : List ℕ) → linkage_words (word_at l 0) ≡ m → 1 ≤ m → m ≤ length l → IsLinkage (take m l)
front zero l e a b = absurd (omega arith)
front (suc m) [] e a b = absurd (omega arith)
front (suc m) (w ∷ l) e a b = linkage_of w (take m l) (omega (arith, length-take-le m l (omega arith)))

---- filled words are linkages

part_split : (l : List ℕ) (at end m : ℕ) → at + m ≤ end → take (end - at) (drop at l) ≡ take m (drop at l) ++ take (end - (at + m)) (drop (at + m) l)
part_split l at end m h =
    let e : end - at ≡ m + (end - (at + m)) = omega arith in
    rw (e, take-add m (end - (at + m)) (drop at l), drop-drop m at l) refl

module _ (ws : List ℕ) (at end : ℕ) (a : at ≤ end) (b : end ≤ length ws) where
  filled_by : (f : ℕ → Bool) → ((m : ℕ) → at + m ≤ end → f (at + m) ≡ true → Linkages (take (end - (at + m)) (drop (at + m) ws))) →
      (t u : Bool) → eqb at end ≡ t → linkage_fits ws at end ≡ u → fill_by t u f (at + linkage_words (word_at ws at)) ≡ true →
      Linkages (take (end - at) (drop at ws))
  filled_by f k true u p q e = let z : end - at ≡ 0 = omega (arith, eqb-true at end p) in rw z none
  filled_by f k false true p q e =
      let m = linkage_words (word_at ws at) in
      let h = fits ws at end q in
      let c : at + linkage_words (word_at ws at) ≤ end = omega (arith, h.some, h.within) in
      let w : linkage_words (word_at (drop at ws) 0) ≡ linkage_words (word_at ws at) = rw (get_or-drop, add-zero) in
      rw (part_split ws at end m c) (more (front m (drop at ws) w h.some (omega (arith, length-drop at ws))) (k m c e))
  filled_by f k false false p q e = absurd (false≢true e)

pub fills_is : (n : ℕ) (ws : List ℕ) (at end : ℕ) → at ≤ end → end ≤ length ws → fill_from n ws at end ≡ true → Linkages (take (end - at) (drop at ws))
unfolding fill_from
fills_is zero ws at end a b e = absurd (false≢true e)
fills_is (suc n) ws at end a b e =
    filled_by ws at end a b (λ next. fill_from n ws next end) (λ m h. fills_is n ws (at + m) end h b) (eqb at end) (linkage_fits ws at end) refl refl e

---- linkages are filled words

first_word : {x : List ℕ} → IsLinkage x → (pre rest : List ℕ) → word_at (pre ++ (x ++ rest)) (length pre) ≡ word_at x 0
first_word (user w follow u l s) pre rest = get_or-append_seam pre w (follow ++ rest) 0
first_word (other w follow o l) pre rest = get_or-append_seam pre w (follow ++ rest) 0

joined : {xs : List ℕ} → Linkages xs → (ws pre post : List ℕ) (at end : ℕ) → ws ≡ pre ++ (xs ++ post) → at ≡ length pre → end ≡ at + length xs → IsFill ws at end true
joined none ws pre post at end e p q = fill_end ws at end (omega arith)
joined (more {x} {rest} i l) ws pre post at end e p q =
    let s = some_words i in
    let n = length-append x rest in
    let f : ws ≡ pre ++ (x ++ (rest ++ post)) = e ∙ simp append_assoc in
    let w : word_at ws at ≡ word_at x 0 = rw (f, p) (first_word i pre (rest ++ post)) in
    fill_on ws at end (length x) true (λ z. omega arith) (fits_by ws at end (length x) (ap linkage_words w ∙ words_of i) s (omega arith))
    (joined l ws (pre ++ x) post (at + length x) end (f ∙ simp append_assoc) (omega (arith, length-append pre x)) (omega arith))

pub is_fills : {xs : List ℕ} → Linkages xs → (pre post : List ℕ) → linkages_fill (pre ++ (xs ++ post)) (length pre) (length pre + length xs) ≡ true
unfolding linkages_fill
is_fills l pre post = sym (joined l _ pre post _ _ refl refl refl _ (omega arith))
