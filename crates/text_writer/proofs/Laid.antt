-- What the stores of a text lay: each part stands behind the one before it.
use Prim.Native.Nat.{ℕ, ◌+◌, ◌*◌, ◌/◌, ◌≤◌}
use mathlib.Core.Path.{◌≡◌, refl, sym, ap, ◌∙◌}
use mathlib.Core.Bool.{true}
use mathlib.Core.List.{List, [], ◌∷◌, ◌++◌, map, append_assoc}
use native.Mathlib.Omega.{arith}
use lib.ListN.{length, length-append}
use borrow.Author.Tests.{le-leb}
use Rattle.limits.specs.Limits.{dim_ok}
use Rattle.words.specs.Words.{words, over, Below, unsigned, put_word, put_long}
use Rattle.words.proofs.Laws.{length_put, length_words}
use Rattle.copies.specs.Copies.{copied}
use Rattle.texts.specs.Texts.{counts_word, text_part}
use Rattle.fields.specs.Words.{longs, header_words}
use Rattle.fields.specs.declared.Fields.{Fields}
use Rattle.limits.proofs.Dimensions.{by_dims}
use Rattle.fields.proofs.Element.{length_header}
use Rattle.writer.specs.Writing.{laid, header_fits, header_laid}
use Rattle.writer.proofs.Stores.{length_laid, laid_join, laid_bytes, laid_copied, laid_word, longs_laid}
use Rattle.writer.proofs.Laid.{header_set}
use Rattle.text_fields.specs.declared.Text.{Text}
use Rattle.text_fields.specs.Words.{turn_longs, origin_of, number_words, counts_of, text_bytes, text_size, text_words}
use Rattle.text_fields.proofs.Element.{counted, length_text_bytes, below_text_bytes, length_numbers, part_bounds}
use Rattle.text_fields.proofs.Writable.{Writable}

-- a word and two longs behind it
pub size_laid : (d : List ℕ) (w v u : ℕ) → 23 ≤ length d / 2 → put_long (put_long (put_word d 18 w) 19 v) 21 u ≡ laid d 18 (w ∷ longs (v ∷ u ∷ []))
size_laid d w v u h =
    let l = length_put d 18 w in
    longs_laid (put_word d 18 w) 19 (v ∷ u ∷ []) (omega arith)
    ∙ ap (λ x. laid x 19 (longs (v ∷ u ∷ []))) (laid_word d 18 w (omega arith))
    ∙ laid_join d 18 19 (w ∷ []) (longs (v ∷ u ∷ [])) refl (omega arith)

---- the numbers

-- the words before the turn
abbrev pub size_words : Text → List ℕ
size_words t = (t.font + 256 * t.justification) ∷ longs (t.length ∷ t.height ∷ [])

-- the turn and the origin
abbrev pub turn_words : ℕ → Text → List ℕ
turn_words dim t = longs (turn_longs dim t ++ map unsigned (origin_of dim t))

module _ (dim : ℕ) (t : Text) (ok : dim_ok dim ≡ true) where
  -- the dimension that a test leaves
  pub solid_else : (dim ≡ 2 → ⊥) → dim ≡ 3
  solid_else h = by_dims (λ m. (m ≡ 2 → ⊥) → m ≡ 3) dim ok (λ z. absurd (z refl)) (λ z. refl) h

  pub length_turn : (m : ℕ) → dim ≡ m → 18 + length (number_words dim t) ≡ 23 + length (turn_words m t)
  length_turn m e = rw (← e) (by_dims (λ m. 18 + length (number_words m t) ≡ 23 + length (turn_words m t)) dim ok refl refl)

  pub numbers_laid : (m : ℕ) → dim ≡ m → (d : List ℕ) → 36 + 2 * length (number_words dim t) ≤ length d → laid (laid d 18 (size_words t)) 23 (turn_words m t) ≡ laid d 18 (number_words dim t)
  numbers_laid m e d h =
      let l = length_turn m e in
      let same : size_words t ++ turn_words dim t ≡ number_words dim t = refl in
      laid_join d 18 23 (size_words t) (turn_words m t) refl (omega arith) ∙ ap (laid d 18) (ap (λ k. size_words t ++ turn_words k t) (sym e) ∙ same)

---- all words

regroup : (a b : List ℕ) (c : ℕ) (d e : List ℕ) → (((a ++ b) ++ (c ∷ [])) ++ d) ++ e ≡ a ++ ((b ++ (c ∷ d)) ++ e)
regroup a b c d e = simp append_assoc

module _ {dim : ℕ} {f : Fields} {t : Text} {characters triples tail : List ℕ} {room : ℕ} (w : Writable dim f t characters triples tail room) where
  -- the header fits
  pub fits : (d : List ℕ) → length d ≡ room → header_fits f (text_size dim characters triples tail) (length d) ≡ true
  unfolding header_fits text_size
  fits d e =
      let c = w.call in
      let b = (part_bounds dim f t characters triples tail c).0 in
      let size = text_part dim (counts_of characters triples) + length tail / 2 in
      let s = w.size in
      let r = w.fits in
      let k = c.kind in
      rw (le-leb 36 (length d) (omega arith), le-leb 2 size (omega arith), le-leb size 65535 s, le-leb f.kind 127 (omega arith)) c.fields

  -- how far each part reaches: the numbers to the counts, the bytes behind them to the fixed part's end
  pub record Parts : Type 0 where
    pub numbers : 18 + length (number_words dim t) ≡ counts_word dim
    pub bytes : 2 * counts_word dim + 2 + length (text_bytes t characters triples) ≡ 2 * text_part dim (counts_of characters triples)
    pub ends : 2 * text_part dim (counts_of characters triples) + length tail ≤ room

  pub parts : Parts
  unfolding text_size text_part
  parts =
      let c = w.call in
      let n = counted characters triples c.lists in
      let x = n.0 in
      let y = n.1 in
      let l = length_text_bytes t characters triples in
      let r = w.fits in
      let e = c.even in
      record { numbers = length_numbers dim f t characters triples tail c; bytes = omega arith; ends = omega arith }

  pub text_laid : (d : List ℕ) (place part : ℕ) → place ≡ counts_word dim → part ≡ text_part dim (counts_of characters triples) → length d ≡ room →
      Below 256 characters → Below 256 triples → Below 256 tail →
      copied (over (put_word (laid (header_laid f (text_size dim characters triples tail) d) 18 (number_words dim t)) place (counts_of characters triples))
      (2 * place + 2) (text_bytes t characters triples)) (2 * part) tail
      ≡ laid d 0 (text_words dim f t characters triples tail)
  unfolding text_words
  text_laid d place part e q l b g h =
      let size = text_size dim characters triples tail in
      let header = header_words f size in
      let numbers = number_words dim t in
      let counts = counts_of characters triples in
      let letters = text_bytes t characters triples in
      let one = header ++ numbers in
      let two = one ++ (counts ∷ []) in
      let three = two ++ words letters in
      let p = parts in
      let pn = p.numbers in
      let pb = p.bytes in
      let pr = p.ends in
      let a = length_header f size in
      let n = length-append header numbers in
      let m = length-append one (counts ∷ []) in
      let o = length-append two (words letters) in
      let x = length_words letters in
      let y = length_words tail in
      let z = length_text_bytes t characters triples in
      let even = w.call.even in
      let k = length_laid d 0 one (omega arith) in
      let j = length_laid d 0 three (omega arith) in
      let next : 2 * place + 2 ≡ 2 * (place + 1) = omega arith in
      ap (λ y. copied (over (put_word (laid y 18 numbers) place counts) (2 * place + 2) letters) (2 * part) tail) (sym (header_set f size d (fits d l)))
      ∙ ap (λ y. copied (over (put_word y place counts) (2 * place + 2) letters) (2 * part) tail) (laid_join d 0 18 header numbers (omega arith) (omega arith))
      ∙ ap (λ y. copied (over y (2 * place + 2) letters) (2 * part) tail)
      (laid_word (laid d 0 one) place counts (omega arith) ∙ laid_join d 0 place one (counts ∷ []) (omega arith) (omega arith))
      ∙ ap (λ y. copied y (2 * part) tail)
      (ap (λ i. over (laid d 0 two) i letters) next ∙ laid_bytes (laid d 0 two) (place + 1) letters (below_text_bytes t characters triples w.call.numbers.byte.1.1.0 b g) (omega arith)
      ∙ laid_join d 0 (place + 1) two (words letters) (omega arith) (omega arith))
      ∙ laid_copied (laid d 0 three) part tail h even (omega arith)
      ∙ laid_join d 0 part three (words tail) (omega arith) (omega arith)
      ∙ ap (laid d 0) (regroup header numbers counts (words letters) (words tail))
