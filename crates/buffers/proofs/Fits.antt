-- What fits and what does not: where every test holds the words are stored, and where one of them fails the buffer is as it was.
use Prim.Native.Nat.{ℕ, ◌+◌, ◌*◌, ◌%◌, ◌≤◌}
use mathlib.Core.Path.{◌≡◌, refl}
use mathlib.Core.List.{List}
use mathlib.Core.Bool.{Bool, true, false, cond, ◌&&◌, and-eq-true_iff}
use lib.ListN.{length}
use lib.Dec.{eqb, leb}
use borrow.Author.Tests.{eq-eqb, le-leb, eqb-true, leb-true}
use Rattle.words.specs.Words.{words}
use Rattle.edits.specs.Edits.{splice, cut}
use Rattle.edits.specs.Calls.{used_words, stored}
use Rattle.buffers.specs.Files.{insert_fits, words_inserted, remove_fits, words_removed}

-- a choice by a test that does not hold
pub kept : (t : Bool) (x s : List ℕ) → (t ≡ true → ⊥) → s ≡ cond t x s
kept true x s miss = absurd (miss refl)
kept false x s miss = refl

module _ (s : List ℕ) (used p : ℕ) (x : List ℕ) where
  pub inserted_fits : used % 2 ≡ 0 → length x % 2 ≡ 0 → used + length x ≤ length s → 2 * p ≤ used
      → words_inserted s used p x ≡ stored s used (splice p (words x) (used_words s used))
  unfolding words_inserted
  inserted_fits a b l h = rw (eq-eqb (used % 2) 0 a, eq-eqb (length x % 2) 0 b, le-leb (used + length x) (length s) l, le-leb (2 * p) used h) refl

  pub inserted_not : (used % 2 ≡ 0 → length x % 2 ≡ 0 → used + length x ≤ length s → 2 * p ≤ used → ⊥) → s ≡ words_inserted s used p x
  unfolding words_inserted
  inserted_not miss =
      kept (insert_fits s used p x) (stored s used (splice p (words x) (used_words s used))) s
      (λ e.
      let i = (and-eq-true_iff (eqb (used % 2) 0) (eqb (length x % 2) 0 && (leb (used + length x) (length s) && leb (2 * p) used))).0 e in
      let j = (and-eq-true_iff (eqb (length x % 2) 0) (leb (used + length x) (length s) && leb (2 * p) used)).0 i.1 in
      let k = (and-eq-true_iff (leb (used + length x) (length s)) (leb (2 * p) used)).0 j.1 in
      miss (eqb-true (used % 2) 0 i.0) (eqb-true (length x % 2) 0 j.0) (leb-true (used + length x) (length s) k.0) (leb-true (2 * p) used k.1))

module _ (s : List ℕ) (used p n : ℕ) where
  pub removed_fits : used % 2 ≡ 0 → used ≤ length s → 2 * (p + n) ≤ used → words_removed s used p n ≡ stored s used (cut p n (used_words s used))
  unfolding words_removed
  removed_fits a l h = rw (eq-eqb (used % 2) 0 a, le-leb used (length s) l, le-leb (2 * (p + n)) used h) refl

  pub removed_not : (used % 2 ≡ 0 → used ≤ length s → 2 * (p + n) ≤ used → ⊥) → s ≡ words_removed s used p n
  unfolding words_removed
  removed_not miss =
      kept (remove_fits s used p n) (stored s used (cut p n (used_words s used))) s
      (λ e.
      let i = (and-eq-true_iff (eqb (used % 2) 0) (leb used (length s) && leb (2 * (p + n)) used)).0 e in
      let j = (and-eq-true_iff (leb used (length s)) (leb (2 * (p + n)) used)).0 i.1 in
      miss (eqb-true (used % 2) 0 i.0) (leb-true used (length s) j.0) (leb-true (2 * (p + n)) used j.1))
