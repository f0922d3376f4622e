-- The bytes behind the counts of a text are one part of the file's bytes: characters, fields in threes, the odd byte. What the
-- calls give of them, and the test of the fields, are of those bytes.
use Prim.Native.Nat.{ℕ, zero, suc, ◌+◌, ◌*◌, ◌/◌, ◌≤◌, ◌<◌}
use mathlib.Core.Path.{◌≡◌, refl, sym, ap, ◌∙◌}
use mathlib.Core.Bool.{Bool, true, false, cond}
use mathlib.Core.List.{List, [], ◌∷◌}
use native.Mathlib.Omega.{arith}
use lib.ListN.{length, get_or, take, drop}
use lib.Seq.{drop-cons}
use lib.IntN.{pos, negsuc}
use lib.Dec.{eqb}
use borrow.Author.Tests.{eqb-true, eq-eqb, lt-ltb, le-ltb}
use Rattle.words.specs.Words.{words, Below}
use Rattle.texts.specs.Texts.{byte_at, characters_in, fields_in, counts_at, first_character, field_byte, each_field_ok}
use Rattle.texts.proofs.Laws.{byte_in}
use Rattle.headers.specs.Header.{type_at}
use Rattle.places.specs.Places.{spotted_at}
use Rattle.places.specs.declared.Above.{Above}
use Rattle.text_views.specs.TextViews.{field_justification, field_at, field_in, field_of, characters_at, characters_of, character_bytes}
use Rattle.text_views.proofs.Bytes.{byte_behind}
use Rattle.text_fields.specs.Faults.{triples_ok}
use Rattle.places.specs.Spotted.{spotted_with}
use Rattle.refusals.specs.Refusals.{refused_with}
use Rattle.round_trips.specs.Parts.{justification_byte, triple, triples_from}

-- the byte of a justification that is read is the one that it was read of
justification_byte_lem : (j : ℕ) → justification_byte (field_justification j) ≡ j
justification_byte_lem j = go (eqb j 255) refl
  where
    go : (b : Bool) → eqb j 255 ≡ b → justification_byte (cond b (negsuc 0) (pos j)) ≡ j
    go true e = let z = eqb-true j 255 e in omega arith
    go false e = refl

---- three bytes at a time

three_next : (s : List ℕ) (i n : ℕ) → i + 3 ≤ length s → take (3 * suc n) (drop i s) ≡ get_or s i 0 ∷ get_or s (i + 1) 0 ∷ get_or s (i + 2) 0 ∷ take (3 * n) (drop (i + 3) s)
three_next s i n h =
    let m : 3 * suc n ≡ suc (suc (suc (3 * n))) = omega arith in
    let a : suc i ≡ i + 1 = omega arith in
    let b : suc (i + 1) ≡ i + 2 = omega arith in
    let c : suc (i + 2) ≡ i + 3 = omega arith in
    let next : drop i s ≡ get_or s i 0 ∷ get_or s (i + 1) 0 ∷ get_or s (i + 2) 0 ∷ drop (i + 3) s =
    drop-cons s i 0 (omega arith)
    ∙ ap (λ l. get_or s i 0 ∷ l) (ap (λ k. drop k s) a ∙ drop-cons s (i + 1) 0 (omega arith))
    ∙ ap (λ l. get_or s i 0 ∷ get_or s (i + 1) 0 ∷ l) (ap (λ k. drop k s) b ∙ drop-cons s (i + 2) 0 (omega arith))
    ∙ ap (λ k. get_or s i 0 ∷ get_or s (i + 1) 0 ∷ get_or s (i + 2) 0 ∷ drop k s) c in
    rw (m, next) refl

module _ (s : List ℕ) (b : Below 256 s) (at : ℕ) where
  -- a byte of the text is a byte of the file
  pub byte_file : (j : ℕ) → 2 * at + j < 2 * (length s / 2) → byte_at (words s) at j ≡ get_or s (2 * at + j) 0
  byte_file j h = sym (byte_behind (words s) at j (2 * at + j) refl) ∙ sym (byte_in s (2 * at + j) b (omega arith))

  -- so are the three of a field
  byte_second : (i j : ℕ) → i ≡ 2 * at + j → i + 1 < 2 * (length s / 2) → byte_at (words s) at (j + 1) ≡ get_or s (i + 1) 0
  byte_second i j e h = let z : 2 * at + (j + 1) ≡ i + 1 = omega arith in byte_file (j + 1) (omega arith) ∙ ap (λ k. get_or s k 0) z

  byte_third : (i j : ℕ) → i ≡ 2 * at + j → i + 2 < 2 * (length s / 2) → byte_at (words s) at (j + 2) ≡ get_or s (i + 2) 0
  byte_third i j e h = let z : 2 * at + (j + 2) ≡ i + 2 = omega arith in byte_file (j + 2) (omega arith) ∙ ap (λ k. get_or s k 0) z

  -- the test of n fields from byte j on is that of their triples
  pub fields_triples : (n c j : ℕ) → 2 * at + j + 3 * n ≤ 2 * (length s / 2) → each_field_ok n c (words s) at j ≡ triples_ok c (take (3 * n) (drop (2 * at + j) s))
  unfolding each_field_ok
  fields_triples zero c j h = refl
  fields_triples (suc n) c j h =
      let i = 2 * at + j in
      let z : 2 * at + (j + 3) ≡ 2 * at + j + 3 = omega arith in
      let rest : each_field_ok n c (words s) at (j + 3) ≡ triples_ok c (take (3 * n) (drop (2 * at + j + 3) s)) =
      fields_triples n c (j + 3) (omega arith) ∙ ap (λ k. triples_ok c (take (3 * n) (drop k s))) z in
      rw (byte_file j (omega arith), byte_second i j refl (omega arith), byte_third i j refl (omega arith), rest)
      (sym (ap (triples_ok c) (three_next s i n (omega arith))))

  module _ (dim : ℕ) {end depth : ℕ} {above : Above} (found : spotted_at dim s at ≡ spotted_with end depth above) (text : type_at (words s) at ≡ 17) where
    ---- what the calls give of the text at the place

    pub no_field : (k : ℕ) → fields_in (counts_at dim (words s) at) ≤ k → field_of dim s at k ≡ refused_with 13 0
    unfolding field_of field_in
    no_field k h = rw (found, eq-eqb (type_at (words s) at) 17 text, le-ltb k (fields_in (counts_at dim (words s) at)) h) refl

    pub field_is : (k : ℕ) → k < fields_in (counts_at dim (words s) at) → field_of dim s at k ≡ field_at dim (words s) at k
    unfolding field_of field_in
    field_is k h = rw (found, eq-eqb (type_at (words s) at) 17 text, lt-ltb k (fields_in (counts_at dim (words s) at)) h) refl

    field_triple : (k : ℕ) → k < fields_in (counts_at dim (words s) at) →
        triple (field_of dim s at k)
        ≡ byte_at (words s) at (field_byte dim (counts_at dim (words s) at) k) ∷ byte_at (words s) at (field_byte dim (counts_at dim (words s) at) k + 1)
        ∷ byte_at (words s) at (field_byte dim (counts_at dim (words s) at) k + 2) ∷ []
    unfolding field_at
    field_triple k h =
        let j = field_byte dim (counts_at dim (words s) at) k in
        ap triple (field_is k h) ∙ rw (justification_byte_lem (byte_at (words s) at (j + 2))) refl

    pub triples_are : (n k : ℕ) → k + n ≤ fields_in (counts_at dim (words s) at) → 2 * at + field_byte dim (counts_at dim (words s) at) k + 3 * n ≤ 2 * (length s / 2) →
        triples_from n k dim s at ≡ take (3 * n) (drop (2 * at + field_byte dim (counts_at dim (words s) at) k) s)
    unfolding triples_from
    triples_are zero k h l = refl
    triples_are (suc n) k h l =
        let j = field_byte dim (counts_at dim (words s) at) k in
        let i = 2 * at + j in
        let z : 2 * at + field_byte dim (counts_at dim (words s) at) (k + 1) ≡ 2 * at + field_byte dim (counts_at dim (words s) at) k + 3 = omega arith in
        let rest : triples_from n (k + 1) dim s at ≡ take (3 * n) (drop (2 * at + field_byte dim (counts_at dim (words s) at) k + 3) s) =
        triples_are n (k + 1) (omega arith) (omega arith) ∙ ap (λ p. take (3 * n) (drop p s)) z in
        rw (field_triple k (omega arith), rest, byte_file j (omega arith), byte_second i j refl (omega arith), byte_third i j refl (omega arith))
        (sym (three_next s i n (omega arith)))

    pub characters_are : character_bytes dim s at ≡ take (characters_in (counts_at dim (words s) at)) (drop (2 * at + first_character dim) s)
    unfolding character_bytes characters_of characters_at
    characters_are = rw (found, eq-eqb (type_at (words s) at) 17 text) refl
