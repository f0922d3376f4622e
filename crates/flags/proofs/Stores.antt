-- A flag stored at a place changes no word from a later place on, so the elements behind it, and their flags, are read as before.
use Prim.Native.Nat.{ℕ, zero, suc, ◌+◌, ◌/◌, ◌≤◌, ◌<◌}
use mathlib.Core.Path.{◌≡◌, refl, ap, ◌∙◌}
use mathlib.Core.Bool.{Bool, true, false, cond}
use mathlib.Core.List.{List, [], ◌∷◌}
use native.Mathlib.Omega.{arith}
use lib.ListN.{length, get_or, set}
use mir.Syntax.{w8}
use mir.Val.{Fits}
use lib.Dec.{eqb, ltb}
use Rattle.words.specs.Words.{words, word_at, put_word}
use Rattle.words.proofs.Laws.{words_put, length_put, word_put_other, lent_below, words_below}
use Rattle.kinds.specs.FirstWord.{bit, deleted_of}
use Rattle.headers.specs.Header.{size_at}
use Rattle.edits.specs.Edits.{flagged, flags_at, with_flags}
use Rattle.flags.specs.Extents.{places_by, behind_by, flag_put, flags_put}

---- the word with a flag

flagged_below : (b : Bool) (w : ℕ) → flagged b w < 65536
flagged_below true w = omega arith
flagged_below false w = omega arith

-- bit 15 of a word is its flag
pub bit_is : (w : ℕ) → w < 65536 → w / 32768 ≡ bit (eqb (deleted_of w) 1)
bit_is w b = go (w / 32768) refl (omega arith)
  where
    go : (n : ℕ) → w / 32768 ≡ n → n < 2 → w / 32768 ≡ bit (eqb (deleted_of w) 1)
    go zero e h = rw e refl
    go (suc zero) e h = rw e refl
    go (suc (suc n)) e h = absurd (omega arith)

---- one store

pub flag_put_lem : (b deleted : Bool) (p w : ℕ) (s t : List ℕ) → deleted ≡ b → w ≡ word_at (words s) p → t ≡ put_word s p (flagged b w) → t ≡ flag_put deleted p s
unfolding flag_put
flag_put_lem b deleted p w s t d e f = f ∙ rw (d, e) refl

pub words_flag : (b : Bool) (q : ℕ) (s : List ℕ) → words (flag_put b q s) ≡ set (words s) q (flagged b (word_at (words s) q))
unfolding flag_put
words_flag b q s = words_put s q (flagged b (word_at (words s) q)) (flagged_below b (word_at (words s) q))

pub length_flag : (b : Bool) (q : ℕ) (s : List ℕ) → length (flag_put b q s) ≡ length s
unfolding flag_put
length_flag b q s = length_put s q (flagged b (word_at (words s) q))

-- words that are the same from a place on
abbrev pub SameFrom : ℕ → List ℕ → List ℕ → Type 0
SameFrom at ws vs = (j : ℕ) → at ≤ j → word_at ws j ≡ word_at vs j

pub same_behind : (b : Bool) (q at : ℕ) (s : List ℕ) → q < at → SameFrom at (words (flag_put b q s)) (words s)
unfolding flag_put
same_behind b q at s h j l = word_put_other s q j (flagged b (word_at (words s) q)) (flagged_below b (word_at (words s) q)) (λ e. omega arith)

---- what is read from a place on

size_same : (at : ℕ) (ws vs : List ℕ) → SameFrom at ws vs → size_at ws at ≡ size_at vs at
size_same at ws vs h = ap (λ w. w + 2) (h (at + 1) (omega arith))

later : (at n : ℕ) (ws vs : List ℕ) → SameFrom at ws vs → SameFrom (at + n) ws vs
later at n ws vs h j l = h j (omega arith)

pub places_same : (n at end : ℕ) (ws vs : List ℕ) → SameFrom at ws vs → places_by n ws at end ≡ places_by n vs at end
unfolding places_by
places_same zero at end ws vs h = refl
places_same (suc n) at end ws vs h =
    rw (size_same at ws vs h, places_same n (at + size_at vs at) end ws vs (later at (size_at vs at) ws vs h)) refl

pub behind_same : (n at end : ℕ) (ws vs : List ℕ) → SameFrom at ws vs → behind_by n ws at end ≡ behind_by n vs at end
unfolding behind_by
behind_same zero at end ws vs h = refl
behind_same (suc n) at end ws vs h =
    rw (size_same at ws vs h, behind_same n (at + size_at vs at) end ws vs (later at (size_at vs at) ws vs h)) refl

flags_alike : (n at end : ℕ) (ws vs : List ℕ) → SameFrom at ws vs → flags_at (places_by n vs at end) ws ≡ flags_at (places_by n vs at end) vs
unfolding places_by
flags_alike zero at end ws vs h = refl
flags_alike (suc n) at end ws vs h = go (ltb at end) (flags_alike n (at + size_at vs at) end ws vs (later at (size_at vs at) ws vs h))
  where
    go : (b : Bool) → flags_at (places_by n vs (at + size_at vs at) end) ws ≡ flags_at (places_by n vs (at + size_at vs at) end) vs →
        flags_at (cond b (at ∷ places_by n vs (at + size_at vs at) end) []) ws ≡ flags_at (cond b (at ∷ places_by n vs (at + size_at vs at) end) []) vs
    go true e = rw (h at (omega arith), e) refl
    go false e = refl

pub flags_same : (n at end : ℕ) (ws vs : List ℕ) → SameFrom at ws vs → flags_at (places_by n ws at end) ws ≡ flags_at (places_by n vs at end) vs
flags_same n at end ws vs h = ap (λ qs. flags_at qs ws) (places_same n at end ws vs h) ∙ flags_alike n at end ws vs h

---- flags put on bytes are flags of the words

pub words_flags : (qs : List ℕ) (bs : List Bool) (s : List ℕ) → words (flags_put qs bs s) ≡ with_flags qs bs (words s)
words_flags [] bs s = refl
words_flags (q ∷ qs) [] s = refl
words_flags (q ∷ qs) (b ∷ bs) s = words_flags qs bs (flag_put b q s) ∙ ap (with_flags qs bs) (words_flag b q s)

pub length_put_flags : (qs : List ℕ) (bs : List Bool) (s : List ℕ) → length (flags_put qs bs s) ≡ length s
length_put_flags [] bs s = refl
length_put_flags (q ∷ qs) [] s = refl
length_put_flags (q ∷ qs) (b ∷ bs) s = length_put_flags qs bs (flag_put b q s) ∙ length_flag b q s

---- a size fits

pub size_small : (s : List ℕ) (at : ℕ) → ((i : ℕ) → Fits w8 (get_or s i 0)) → size_at (words s) at < 65538
size_small s at b = let h = words_below s (lent_below s b) (at + 1) in omega arith
