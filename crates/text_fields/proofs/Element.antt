-- A text's words as its header, its body and its tail: the body fills the fixed part, which the word of the counts sizes. So
-- its linkages are those of its tail.
use Prim.Native.Nat.{ℕ, ◌+◌, ◌-◌, ◌*◌, ◌/◌, ◌%◌, ◌≤◌, ◌<◌}
use mathlib.Core.Path.{◌≡◌, refl, sym, ap, ◌∙◌}
use mathlib.Core.Bool.{Bool, true, false, cond}
use mathlib.Core.List.{List, [], ◌∷◌, ◌++◌}
use native.Mathlib.Omega.{arith}
use native.Mathlib.Nat.{zero-add}
use lib.ListN.{length, length-append}
use lib.Dec.{eqb}
use borrow.Author.Tests.{eqb-true, eqb-false}
use Rattle.words.specs.Words.{words, Below, word_at}
use Rattle.words.proofs.Laws.{length_words}
use Rattle.texts.specs.Texts.{counts_word, characters_in, fields_in, text_part}
use Rattle.kinds.specs.Kinds.{sizing_word, fixed_part}
use Rattle.fields.specs.Words.{header_words, element_of}
use Rattle.elements.specs.Attributes.{linkages_ok}
use Rattle.fields.specs.Faults.{tail_ok}
use Rattle.fields.specs.declared.Fields.{Fields}
use Rattle.limits.proofs.Dimensions.{by_dims}
use Rattle.fields.proofs.Element.{Formed, tail_right}
use Rattle.text_fields.specs.declared.Text.{Text}
use Rattle.text_fields.specs.Words.{number_words, counts_of, odd_bytes, text_bytes, text_body, text_size, text_words}
use Rattle.text_fields.proofs.Below.{below_nil, below_cons, below_append}
use Rattle.text_fields.proofs.Bounds.{Lists, Called}

---- the counts

pub counted : (characters triples : List ℕ) → Lists (length characters) (length triples) →
    (characters_in (counts_of characters triples) ≡ length characters) × (3 * fields_in (counts_of characters triples) ≡ length triples)
counted characters triples l =
    let a = l.few in
    let b = l.whole in
    (omega arith, omega arith)

---- the bytes behind them

length_odd : (t : Text) (n : ℕ) → n + length (odd_bytes t n) ≡ 2 * ((n + 1) / 2)
length_odd t n = go (eqb (n % 2) 1) refl
  where
    go : (b : Bool) → eqb (n % 2) 1 ≡ b → n + length (cond b (t.odd ∷ []) []) ≡ 2 * ((n + 1) / 2)
    go true e = let z = eqb-true (n % 2) 1 e in omega arith
    go false e = let z = eqb-false (n % 2) 1 e in let y : n % 2 < 1 = omega arith in omega arith

pub length_text_bytes : (t : Text) (characters triples : List ℕ) → length (text_bytes t characters triples) ≡ 2 * ((length characters + length triples + 1) / 2)
length_text_bytes t characters triples =
    let n = length characters + length triples in
    let a = length-append characters (triples ++ odd_bytes t n) in
    let b = length-append triples (odd_bytes t n) in
    let c = length_odd t n in
    omega arith

-- they are bytes
pub below_text_bytes : (t : Text) (characters triples : List ℕ) → t.odd ≤ 255 → Below 256 characters → Below 256 triples → Below 256 (text_bytes t characters triples)
below_text_bytes t characters triples h b d =
    let n = length characters + length triples in
    below_append 256 characters (triples ++ odd_bytes t n) b (below_append 256 triples (odd_bytes t n) d (go (eqb (n % 2) 1)))
  where
    go : (b : Bool) → Below 256 (cond b (t.odd ∷ []) [])
    go true = below_cons 256 t.odd [] (omega arith) (below_nil 256 (omega arith))
    go false = below_nil 256 (omega arith)

---- the body

module _ (dim : ℕ) (f : Fields) (t : Text) (characters triples tail : List ℕ) (c : Called dim f t (length characters) (length triples) (length tail)) where
  pub length_numbers : 18 + length (number_words dim t) ≡ counts_word dim
  length_numbers = by_dims (λ m. 18 + length (number_words m t) ≡ counts_word m) dim c.dims refl refl

  pub length_body : 18 + length (text_body dim t characters triples) ≡ text_part dim (counts_of characters triples)
  unfolding text_part
  length_body =
      let a = length-append (number_words dim t) (counts_of characters triples ∷ words (text_bytes t characters triples)) in
      let b = length_numbers in
      let w = length_words (text_bytes t characters triples) in
      let l = length_text_bytes t characters triples in
      let n = counted characters triples c.lists in
      let x = n.0 in
      let y = n.1 in
      omega arith

  counts_at : (size : ℕ) → word_at (element_of f size (text_body dim t characters triples) tail) (counts_word dim) ≡ counts_of characters triples
  unfolding header_words
  counts_at size = by_dims (λ m. word_at (element_of f size (text_body m t characters triples) tail) (counts_word m) ≡ counts_of characters triples) dim c.dims refl refl

  -- the fixed part has at least 30 words, and not many more
  pub part_bounds : (30 ≤ text_part dim (counts_of characters triples)) × (text_part dim (counts_of characters triples) ≤ 600)
  unfolding text_part
  part_bounds =
      let n = counted characters triples c.lists in
      let x = n.0 in
      let y = n.1 in
      let l = c.lists in
      by_dims (λ m. (30 ≤ text_part m (counts_of characters triples)) × (text_part m (counts_of characters triples) ≤ 600)) dim c.dims (omega arith, omega arith) (omega arith, omega arith)

  fixed_text : (size : ℕ) →
      fixed_part dim f.kind (word_at (element_of f size (text_body dim t characters triples) tail) (0 + sizing_word dim f.kind)) ≡ 18 + length (text_body dim t characters triples)
  unfolding fixed_part
  fixed_text size =
      let ws = element_of f size (text_body dim t characters triples) tail in
      ap (λ k. fixed_part dim k (word_at ws (0 + sizing_word dim k))) c.kind
      ∙ ap (text_part dim) (ap (word_at ws) (zero-add (counts_word dim)) ∙ counts_at size) ∙ sym length_body

  pub formed : Formed dim f (text_size dim characters triples tail) (text_body dim t characters triples) tail
  unfolding text_size
  formed =
      let l = length_body in
      record {
        kind = let k = c.kind in omega arith;
        linked = rw c.kind refl;
        fields = c.fields;
        long = omega arith;
        fixed = fixed_text _;
      }

  pub text_linkages : tail_ok f (text_part dim (counts_of characters triples) - 16) tail ≡ linkages_ok dim (text_words dim f t characters triples tail) 0
  unfolding text_words
  text_linkages =
      let l = length_body in
      let e : text_part dim (counts_of characters triples) - 16 ≡ 2 + length (text_body dim t characters triples) = omega arith in
      ap (λ n. tail_ok f n tail) e ∙ tail_right formed
