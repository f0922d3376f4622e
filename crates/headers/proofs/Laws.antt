-- Laws of an element's header: bits 6 and 7 of word 0, and the words of an extent.
use Prim.Native.Nat.{ℕ, ◌+◌, ◌*◌, ◌/◌, ◌%◌, ◌<◌, ◌≤◌}
use mathlib.Core.Path.{◌≡◌, refl, sym, ap}
use mathlib.Core.List.{List, ◌∷◌}
use mathlib.Core.Bool.{Bool, true, false, cond, ◌&&◌, ◌||◌, false≢true, or-true}
use native.Mathlib.Omega.{arith}
use lib.Dec.{eqb}
use borrow.Author.Tests.{eqb-true, eq-eqb}
use Rattle.words.specs.Words.{words, Below, word_at}
use Rattle.words.proofs.Laws.{words_below}
use Rattle.kinds.specs.FirstWord.{type_of}
use Rattle.kinds.specs.Kinds.{is_header, name_word}
use Rattle.headers.specs.Checks.{Check, check}
use Rattle.headers.specs.Flags.{reserved_ok, place_ok}
use Rattle.headers.specs.Header.{type_at, size_at, extent_at, extent_words, name_first, name_second}
use Rattle.headers.proofs.Checks.{First, pass, stop}

---- bits 6 and 7 of word 0

two_bits : (x k : ℕ) → x % 2 ≡ 0 → x / 2 % 2 ≡ k → x % 4 ≡ 2 * k
two_bits x k p q = omega arith

both_bits : (w k : ℕ) → w / 64 % 2 ≡ 0 → w / 128 % 2 ≡ k → w / 64 % 4 ≡ 2 * k
both_bits w k p q =
    let e : w / 128 ≡ w / 64 / 2 = omega arith in
    two_bits (w / 64) k p (rw e at q)

module _ (w depth : ℕ) where
  pub flags_met : w / 64 % 4 ≡ cond (eqb depth 0) 0 2 → (reserved_ok w && place_ok depth w) ≡ true
  unfolding reserved_ok place_ok
  flags_met e = let p = go (eqb depth 0) e in simp (p.0, p.1, or-true)
    where
      go : (b : Bool) → w / 64 % 4 ≡ cond b 0 2 → (eqb (w / 64 % 2) 0 ≡ true) × (eqb (w / 128 % 2) (cond b 0 1) ≡ true)
      go true e = (eq-eqb (w / 64 % 2) 0 (omega arith), eq-eqb (w / 128 % 2) 0 (omega arith))
      go false e = (eq-eqb (w / 64 % 2) 0 (omega arith), eq-eqb (w / 128 % 2) 1 (omega arith))

  pub flags_unmet : (w / 64 % 4 ≡ cond (eqb depth 0) 0 2 → ⊥) → (reserved_ok w && place_ok depth w) ≡ eqb (type_of w) 9
  unfolding reserved_ok place_ok
  flags_unmet = go (eqb (type_of w) 9) (eqb (w / 64 % 2) 0) (eqb depth 0) (eqb (w / 128 % 2) (cond (eqb depth 0) 0 1)) refl refl
    where
      go : (n r b c : Bool) → eqb (w / 64 % 2) 0 ≡ r → eqb (w / 128 % 2) (cond b 0 1) ≡ c → (w / 64 % 4 ≡ cond b 0 2 → ⊥) → ((n || r) && (n || c)) ≡ n
      go true r b c p q h = refl
      go false false b c p q h = refl
      go false true b false p q h = refl
      go false true true true p q h = absurd (h (both_bits w 0 (eqb-true (w / 64 % 2) 0 p) (eqb-true (w / 128 % 2) 0 q)))
      go false true false true p q h = absurd (h (both_bits w 1 (eqb-true (w / 64 % 2) 0 p) (eqb-true (w / 128 % 2) 1 q)))

-- bit 6 decides which of the checks 4 and 5 fails
pub flags_stop : (w depth : ℕ) (cs : List Check) → (reserved_ok w && place_ok depth w) ≡ false → First (check (reserved_ok w) 4 ∷ check (place_ok depth w) 5 ∷ cs) (cond (eqb (w / 64 % 2) 0) 5 4)
unfolding reserved_ok place_ok
flags_stop w depth cs = go (eqb (type_of w) 9) (eqb (w / 64 % 2) 0) (eqb (w / 128 % 2) (cond (eqb depth 0) 0 1))
  where
    go : (n r c : Bool) → ((n || r) && (n || c)) ≡ false → First (check (n || r) 4 ∷ check (n || c) 5 ∷ cs) (cond r 5 4)
    go true r c e = absurd (false≢true (sym e))
    go false true c e = pass refl (stop e)
    go false false c e = stop refl

---- the extent

pub words_header : (ws : List ℕ) (at : ℕ) → is_header (type_at ws at) ≡ true → extent_words ws at ≡ extent_at ws at
unfolding extent_words
words_header ws at h = rw h

pub words_plain : (ws : List ℕ) (at : ℕ) → is_header (type_at ws at) ≡ false → extent_words ws at ≡ size_at ws at
unfolding extent_words
words_plain ws at h = rw h

-- every extent has two words at least
pub words_two : (ws : List ℕ) (at : ℕ) → 2 ≤ extent_words ws at
words_two ws at = go (is_header (type_at ws at)) refl
  where
    go : (b : Bool) → is_header (type_at ws at) ≡ b → 2 ≤ extent_words ws at
    go true h = let e = words_header ws at h in omega arith
    go false h = let e = words_plain ws at h in omega arith

-- and so many at most, in the words of bytes
pub size_small : (s : List ℕ) → Below 256 s → (at : ℕ) → size_at (words s) at < 65538
size_small s b at = omega (arith, words_below s b (at + 1))

pub words_small : (s : List ℕ) → Below 256 s → (at : ℕ) → extent_words (words s) at < 65555
words_small s b at = go (is_header (type_at (words s) at)) refl
  where
    go : (t : Bool) → is_header (type_at (words s) at) ≡ t → extent_words (words s) at < 65555
    go true h = let e = words_header (words s) at h in omega (arith, words_below s b (at + 18))
    go false h = let e = words_plain (words s) at h in omega (arith, words_below s b (at + 1))

---- a cell's name in its own words

module _ (own : List ℕ) where
  pub own_first : name_first own 0 ≡ word_at own (name_word (type_at own 0))
  own_first = ap (word_at own) (omega arith)

  pub own_second : name_second own 0 ≡ word_at own (name_word (type_at own 0) + 1)
  own_second = ap (word_at own) (omega arith)
