-- The characters that the code lends are those of the definition: what is beyond the file's end is cut off by both. By the type an
-- element has a line or none.
use Prim.Native.Nat.{ℕ, ◌+◌, ◌*◌, ◌-◌, min}
use mathlib.Core.Path.{◌≡◌, refl, sym, ap, ◌∙◌}
use mathlib.Core.Bool.{Bool, true, false}
use mathlib.Core.List.{List}
use native.Mathlib.Omega.{arith}
use lib.Dec.{eqb, leb}
use lib.ListN.{length, take, drop, length-drop, drop_of_length-le}
use lib.Seq.{take_all, take-nil}
use borrow.Author.Tests.{leb-true, leb-false, eq-eqb, ne_eqb}
use Rattle.words.specs.Words.{words, word_at}
use Rattle.texts.specs.Texts.{characters_in, counts_word, first_character}
use Rattle.kinds.specs.FirstWord.{type_of, deleted_of}
use Rattle.headers.specs.Header.{type_at}
use Rattle.listing.specs.Lines.{WritesLine}
use Rattle.listing.specs.Texts.{text_line}
use Rattle.listing.proofs.Laws.{empty_line}
use Rattle.text_lines.specs.Text.{characters_of, text_line_of}

-- more than there is takes all
take_least : (n k : ℕ) (l : List ℕ) → k ≡ min n (length l) → take k l ≡ take n l
take_least n k l e = go (leb n (length l)) refl
  where
    go : (t : Bool) → leb n (length l) ≡ t → take k l ≡ take n l
    go true h = let i = leb-true n (length l) h in let e : k ≡ n = omega arith in rw e refl
    go false h = let i = leb-false n (length l) h in take_all k l (omega arith) ∙ sym (take_all n l (omega arith))

-- n bytes from a byte on, both ends at the file's end at the latest
part_is : (s : List ℕ) (first n start end : ℕ) → start ≡ min first (length s) → end ≡ min (start + n) (length s) →
    take (end - start) (drop start s) ≡ take n (drop first s)
part_is s first n start end p q = go (leb first (length s)) refl
  where
    go : (t : Bool) → leb first (length s) ≡ t → take (end - start) (drop start s) ≡ take n (drop first s)
    go true h =
        let i = leb-true first (length s) h in
        let l = length-drop first s in
        let e : start ≡ first = omega arith in
        ap (λ j. take (end - start) (drop j s)) e ∙ take_least n (end - start) (drop first s) (omega arith)
    go false h =
        let i = leb-false first (length s) h in
        rw (drop_of_length-le s {i = start} (omega arith), drop_of_length-le s {i = first} (omega arith)) (take-nil (end - start) ∙ sym (take-nil n))

-- the characters, by the place of the counts and the number that stands there
pub characters_are : (s : List ℕ) (at counts n start end : ℕ) → counts ≡ at + counts_word 2 → n ≡ word_at (words s) counts →
    start ≡ min (2 * (counts + 1)) (length s) → end ≡ min (start + characters_in n) (length s) → take (end - start) (drop start s) ≡ characters_of s at
unfolding characters_of
characters_are s at counts n start end c e p q =
    let i : 2 * at + first_character 2 ≡ 2 * (counts + 1) = omega arith in
    part_is s (2 * (counts + 1)) (characters_in n) start end p q ∙ rw (i, e, c) refl

-- another type has no line
pub no_text_line : (room : ℕ) (s buf : List ℕ) (at depth : ℕ) → (type_at (words s) at ≡ 17 → ⊥) → WritesLine room buf (text_line_of s at depth) buf 0
unfolding text_line_of
no_text_line room s buf at depth h = rw (ne_eqb (type_at (words s) at) 17 h) (empty_line room buf)

-- a text has one
pub text_line_is : (s : List ℕ) (at depth first : ℕ) → first ≡ word_at (words s) at → type_of first ≡ 17 →
    text_line_of s at depth ≡ text_line at depth (eqb (deleted_of first) 1) (characters_of s at)
unfolding text_line_of
text_line_is s at depth first w t = rw (← w, eq-eqb (type_of first) 17 t) refl
