-- The counts of cells by what the code counts, the test of a full index, and what a completed answer is made of.
use Prim.Native.Nat.{ℕ, ◌+◌, ◌-◌, ◌*◌, ◌/◌, ◌≤◌, ◌<◌}
use mathlib.Core.Path.{◌≡◌, refl, sym, ap, ◌∙◌}
use mathlib.Core.Bool.{Bool, true, false, not}
use mathlib.Core.List.{List}
use native.Mathlib.Omega.{arith}
use lib.ListN.{length, take}
use lib.Seq.{length-take-le}
use lib.Dec.{leb, ltb}
use borrow.Author.Tests.{lt-ltb, le-ltb, le-leb, lt-leb, ltb-true, ltb-false}
use Rattle.words.specs.Words.{words, Below}
use Rattle.words.proofs.Laws.{length_words}
use Rattle.headers.specs.Header.{extent_words}
use Rattle.headers.proofs.Laws.{words_small}
use Rattle.cells.specs.Cells.{cells_between}
use Rattle.edits.proofs.Bounds.{below_take}
use Rattle.opening.specs.Steps.{last_place}
use Rattle.indexed.specs.Parts.{cells_used, cells_under, told_number, Finishable, Finished}
use Rattle.std.specs.Prelude.{Result}
use Rattle.edits.specs.UsedLengths.{made_with}
use Rattle.edits.specs.declared.UsedLengths.{UsedLengths}
use Rattle.refusals.specs.Refusals.{refused_with}
use Rattle.refusals.specs.declared.Refusal.{Refusal}

pub full_test : (size n : ℕ) → ltb (size / 8) n ≡ not (leb (8 * n) size)
full_test size n = go (ltb (size / 8) n) refl
  where
    go : (b : Bool) → ltb (size / 8) n ≡ b → ltb (size / 8) n ≡ not (leb (8 * n) size)
    go true e = let l = ltb-true (size / 8) n e in rw (e, lt-leb (8 * n) size (omega arith)) refl
    go false e = let l = ltb-false (size / 8) n e in rw (e, le-leb (8 * n) size (omega arith)) refl

module _ (file : List ℕ) (used : ℕ) where
  pub counted_used : used ≤ length file → (last n : ℕ) → last ≡ used / 2 - 1 → n ≡ length (cells_between (words (take used file)) 0 last) → n ≡ cells_used file used
  counted_used w last n e f =
      let l = length_words (take used file) in
      let t = length-take-le used file w in
      let same : last ≡ last_place file used = omega arith in
      f ∙ ap (λ k. length (cells_between (words (take used file)) 0 k)) same

  pub extent_small : Below 256 file → (p n : ℕ) → n ≡ extent_words (words (take used file)) p → n < 65555
  extent_small b p n e = let l = words_small (take used file) (below_take 256 used file (omega arith) b) p in omega arith

  module _ (p : ℕ) where
    pub counted_under : p < used / 2 → (size n : ℕ) → size ≡ extent_words (words (take used file)) p → n ≡ length (cells_between (words (take used file)) p (p + size)) →
        n ≡ cells_under file used p
    counted_under h size n e f = rw (lt-ltb p (used / 2) h) (f ∙ ap (λ k. length (cells_between (words (take used file)) p (p + k))) e)

    pub counted_none : used / 2 ≤ p → 0 ≡ cells_under file used p
    counted_none h = rw (le-ltb p (used / 2) h) refl

-- the answer of a call, completed
module _ (answer : Result UsedLengths Refusal) (full : Bool) (file index : List ℕ) where
  pub made_within : (u v : ℕ) → answer ≡ made_with u v → Finishable answer (length file) → u ≤ length file
  made_within u v e h = rw e at h

  pub finish_refused : (n p m : ℕ) → answer ≡ refused_with n p → m ≡ told_number full n → Finished answer full file index (refused_with m p) index
  finish_refused n p m e f = rw (e, f) (record { is = refl; bytes = refl })
