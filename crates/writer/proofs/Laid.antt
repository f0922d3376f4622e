-- What the stores of an element lay: each part stands behind the one before it.
use Prim.Native.Nat.{ℕ, ◌+◌, ◌-◌, ◌*◌, ◌/◌, ◌≤◌, ◌<◌}
use mathlib.Core.Path.{◌≡◌, refl, ap, ◌∙◌}
use mathlib.Core.Bool.{Bool, true, false, cond}
use mathlib.Core.List.{List, [], ◌∷◌, ◌++◌, map, append_assoc}
use native.Mathlib.Omega.{arith}
use lib.ListN.{length, length-append, length-map}
use lib.IntN.{ℤ}
use lib.Dec.{leb}
use borrow.Author.Tests.{leb-true}
use Rattle.words.specs.Words.{words, Below, put_word, unsigned}
use Rattle.words.proofs.Laws.{length_words}
use Rattle.copies.specs.Copies.{copied}
use Rattle.kinds.specs.Kinds.{is_pointed}
use Rattle.fields.specs.Words.{longs, first_word, range_longs, display_words, header_words, count_words, points_in, size_of, element_words}
use Rattle.fields.specs.Faults.{fields_ok}
use Rattle.fields.specs.declared.Fields.{Fields}
use Rattle.fields.proofs.Bounds.{both, fixed_is, count_small}
use Rattle.fields.proofs.Element.{length_longs, length_header, size_least}
use Rattle.fields.proofs.Writable.{Writable}
use Rattle.writer.specs.Writing.{laid, header_fits, header_laid}
use Rattle.writer.proofs.Stores.{length_laid, laid_join, laid_copied, words_laid}

pub header_laid_lem : (d : List ℕ) (f : Fields) (size : ℕ) → 36 ≤ length d →
    laid (laid (put_word (put_word d 0 (first_word f)) 1 (size - 2)) 2 (longs (range_longs f))) 14 (display_words f) ≡ laid d 0 (header_words f size)
unfolding header_words
header_laid_lem d f size h =
    let a = first_word f ∷ (size - 2) ∷ [] in
    ap (λ x. laid (laid x 2 (longs (range_longs f))) 14 (display_words f)) (words_laid d 0 a (omega arith))
    ∙ ap (λ x. laid x 14 (display_words f)) (laid_join d 0 2 a (longs (range_longs f)) refl (omega arith))
    ∙ laid_join d 0 14 (a ++ longs (range_longs f)) (display_words f) refl (omega arith)

-- the place of the points: behind N, where there is one
points_start : (kind n : ℕ) → cond (is_pointed kind) 19 18 ≡ 18 + length (count_words kind n)
points_start kind n = go (is_pointed kind)
  where
    go : (b : Bool) → cond b 19 18 ≡ 18 + length (cond b (n ∷ []) [])
    go true = refl
    go false = refl

module _ {dim : ℕ} {f : Fields} {ps : List ℤ} {tail : List ℕ} {room : ℕ} (w : Writable dim f ps tail room) where
  -- N is put behind the header, the points behind N, and the tail behind the points, where the fixed part ends
  pub count_room : (19 ≤ size_of dim f ps tail) × (points_in dim ps ≤ 101)
  count_room =
      let c = w.call in
      (size_least dim f ps tail c, count_small dim f.kind (length ps) c.dims c.kind c.fit w.count)

  pub points_end : (at : ℕ) → at ≡ cond (is_pointed f.kind) 19 18 → at + 2 * length ps + length tail / 2 ≡ size_of dim f ps tail
  unfolding size_of
  points_end at e = let c = w.call in let s = points_start f.kind (points_in dim ps) in let x = fixed_is dim f.kind (length ps) c.dims c.kind c.fit in omega arith

  pub element_laid : (d : List ℕ) (at : ℕ) → at ≡ cond (is_pointed f.kind) 19 18 → 2 * size_of dim f ps tail ≤ length d → Below 256 tail →
      copied (laid (laid (laid d 0 (header_words f (size_of dim f ps tail))) 18 (count_words f.kind (points_in dim ps))) at (longs (map unsigned ps)))
      (2 * (at + 2 * length ps)) tail
      ≡ laid d 0 (element_words dim f ps tail)
  unfolding element_words
  element_laid d at e h b =
      let header = header_words f (size_of dim f ps tail) in
      let count = count_words f.kind (points_in dim ps) in
      let points = longs (map unsigned ps) in
      let before = header ++ (count ++ points) in
      let x = points_end at e in
      let s = points_start f.kind (points_in dim ps) in
      let l = length_header f (size_of dim f ps tail) in
      let p = length_longs (map unsigned ps) in
      let m = length-map ps unsigned in
      let even = w.call.even in
      let n = length_words tail in
      let a = length-append header count in
      let c = length-append header (count ++ points) in
      let g = length-append count points in
      let kept = length_laid d 0 before (omega arith) in
      ap (λ y. copied (laid y at points) (2 * (at + 2 * length ps)) tail) (laid_join d 0 18 header count (omega arith) (omega arith))
      ∙ ap (λ y. copied y (2 * (at + 2 * length ps)) tail)
      (laid_join d 0 at (header ++ count) points (omega arith) (omega arith) ∙ ap (laid d 0) (append_assoc header count points))
      ∙ laid_copied (laid d 0 before) (at + 2 * length ps) tail b even (omega arith)
      ∙ laid_join d 0 (at + 2 * length ps) before (words tail) (omega arith) (omega arith)
      ∙ ap (laid d 0) (append_assoc header (count ++ points) (words tail))

---- a header that fits

pub fits_is : (f : Fields) (size room : ℕ) → header_fits f size room ≡ true →
    ((36 ≤ room) × ((2 ≤ size) × (size ≤ 65535))) × ((f.kind < 128) × (fields_ok f ≡ true))
unfolding header_fits
fits_is f size room e =
    let a = both (leb 36 room) _ e in
    let b = both (leb 2 size) _ a.1 in
    let c = both (leb size 65535) _ b.1 in
    let d = both (leb f.kind 127) (fields_ok f) c.1 in
    let k = leb-true f.kind 127 d.0 in
    ((leb-true 36 room a.0, (leb-true 2 size b.0, leb-true size 65535 c.0)), (omega arith, d.1))

pub header_set : (f : Fields) (size : ℕ) (out : List ℕ) → header_fits f size (length out) ≡ true → laid out 0 (header_words f size) ≡ header_laid f size out
unfolding header_laid
header_set f size out e = rw e refl

pub header_kept : (f : Fields) (size : ℕ) (out : List ℕ) → header_fits f size (length out) ≡ false → out ≡ header_laid f size out
unfolding header_laid
header_kept f size out e = rw e refl
