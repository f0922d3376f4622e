-- A view of an element whose depth and direct header are known: there is one where a word stands. The range is read in a part of the file.
use Prim.Native.Nat.{ℕ, ◌+◌, ◌-◌, ◌*◌, ◌/◌, ◌≤◌, ◌<◌}
use mathlib.Core.Path.{◌≡◌, refl, sym, ap, ◌∙◌}
use mathlib.Core.Bool.{Bool, true, false}
use mathlib.Core.List.{List}
use native.Mathlib.Omega.{arith}
use lib.ListN.{length, take, drop, length-drop}
use lib.Seq.{take_all, get_or-take, get_or-drop}
use lib.Dec.{ltb}
use borrow.Author.Tests.{lt-ltb, le-ltb, ltb-true, ltb-false, le-leb}
use Rattle.words.specs.Words.{words, word_at}
use Rattle.words.proofs.Laws.{length_words, word_out, words_take, words_drop}
use Rattle.ranges.specs.Ranges.{coordinate}
use Rattle.headers.specs.Header.{size_at}
use Rattle.places.specs.declared.Above.{Above}
use Rattle.views.specs.declared.Element.{Element}
use Rattle.views.specs.Views.{coordinate_at, six_at, range_of, element_view, element_in}
use Rattle.std.specs.Prelude.{Ok, Option}
use Rattle.refusals.specs.Refusals.{refused_with}
use Rattle.refusals.proofs.Laws.{given_is, refused_not_given}
use Rattle.views.specs.declared.Range.{Range}

module _ (s : List ℕ) (at depth : ℕ) (above : Above) where
  pub known_there : (e : Element) → at < length s / 2 → e ≡ element_view (words s) at depth above → Ok e ≡ element_in (words s) at depth above
  unfolding element_in
  known_there e h q = let l = length_words s in rw (lt-ltb at (length (words s)) (omega arith)) (ap Ok q)

  pub known_none : length s / 2 ≤ at → refused_with 13 0 ≡ element_in (words s) at depth above
  unfolding element_in
  known_none h = let l = length_words s in rw (le-ltb at (length (words s)) (omega arith)) refl

  pub known_element : (e : Element) → at < length (words s) → element_in (words s) at depth above ≡ Ok e → element_view (words s) at depth above ≡ e
  unfolding element_in
  known_element e h q = given_is (rw (lt-ltb at (length (words s)) h) at q)

  pub known_not : (n p : ℕ) → at < length (words s) → element_in (words s) at depth above ≡ refused_with n p → ⊥
  unfolding element_in
  known_not n p h q = refused_not_given (rw (lt-ltb at (length (words s)) h) at q)

-- an element whose size is above 2 has its size in the file
pub size_inside : (s : List ℕ) (at : ℕ) → 2 < size_at (words s) at → at + 1 < length s / 2
size_inside s at h = go (ltb (at + 1) (length s / 2)) refl
  where
    go : (b : Bool) → ltb (at + 1) (length s / 2) ≡ b → at + 1 < length s / 2
    go true e = ltb-true (at + 1) (length s / 2) e
    go false e = let z = word_out s (at + 1) (ltb-false (at + 1) (length s / 2) e) in absurd (omega arith)

---- the words of a range in a part of the file that begins with the element

module _ (us ws : List ℕ) (at : ℕ) (same : (i : ℕ) → i < 14 → word_at us i ≡ word_at ws (at + i)) where
  coordinate_same : (i : ℕ) → i < 13 → coordinate_at us i ≡ coordinate_at ws (at + i)
  coordinate_same i h =
      let next : at + i + 1 ≡ at + (i + 1) = omega arith in
      let high = same i (omega arith) in
      let low : word_at us (i + 1) ≡ word_at ws (at + i + 1) = same (i + 1) (omega arith) ∙ ap (word_at ws) (sym next) in
      ap coordinate (omega arith)

  six_same : six_at us 0 ≡ six_at ws at
  six_same =
      rw (
        coordinate_same 2 (omega arith),
        coordinate_same 4 (omega arith),
        coordinate_same 6 (omega arith),
        coordinate_same 8 (omega arith),
        coordinate_same 10 (omega arith),
        coordinate_same 12 (omega arith),
      )
      refl

module _ (s : List ℕ) (at : ℕ) where
  -- all from it on
  pub six_rest : six_at (words (take (length s - 2 * at) (drop (2 * at) s))) 0 ≡ six_at (words s) at
  six_rest =
      let l = length-drop (2 * at) s in
      ap (λ t. six_at (words t) 0) (take_all (length s - 2 * at) (drop (2 * at) s) (omega arith))
      ∙ six_same (words (drop (2 * at) s)) (words s) at (λ i h. ap (λ ws. word_at ws i) (words_drop at s) ∙ get_or-drop at (words s) i 0)

  -- its first 14 words
  pub six_front : (n : ℕ) → n ≡ 28 → six_at (words (take n (drop (2 * at) s))) 0 ≡ six_at (words s) at
  six_front n e =
      ap (λ m. six_at (words (take m (drop (2 * at) s))) 0) e
      ∙ six_same (words (take 28 (drop (2 * at) s))) (words s) at
      (λ i h. ap (λ ws. word_at ws i) (words_take 14 (drop (2 * at) s)) ∙ get_or-take 14 (words (drop (2 * at) s)) i 0 h ∙ ap (λ ws. word_at ws i) (words_drop at s) ∙ get_or-drop at (words s) i 0)

  -- so the range is read of them
  pub range_six : 14 ≤ size_at (words s) at → {r : Option Range} → r ≡ six_at (words s) at → r ≡ range_of (words s) at
  unfolding range_of
  range_six h e = rw (le-leb 14 (size_at (words s) at) h) e
