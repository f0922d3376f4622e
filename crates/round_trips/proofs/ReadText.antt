-- What the calls for a text give of a text, where its words stand at a place of a file that has an element there: its numbers, its
-- characters, its fields and its odd byte.
use Prim.Native.Nat.{ℕ, ◌+◌, ◌*◌, ◌/◌, ◌%◌, ◌≤◌, ◌<◌}
use mathlib.Core.Path.{◌≡◌, refl, ap, ◌∙◌}
use mathlib.Core.Bool.{Bool, true, false, cond}
use mathlib.Core.List.{List, [], ◌∷◌}
use native.Mathlib.Omega.{arith}
use lib.ListN.{length, get_or, take, drop}
use lib.Dec.{eqb}
use borrow.Author.Tests.{eqb-true, eqb-false, eq-eqb, ne_eqb}
use Rattle.std.specs.Prelude.{None, Some}
use Rattle.words.specs.Words.{words, Below}
use Rattle.words.proofs.Laws.{length_words}
use Rattle.texts.specs.Texts.{byte_at, characters_in, fields_in, text_part, text_bytes, counts_at, first_character, field_byte}
use Rattle.headers.specs.Header.{type_at}
use Rattle.grammar.proofs.Stands.{Stands}
use Rattle.places.specs.declared.Above.{Above}
use Rattle.places.specs.Places.{spotted_at}
use Rattle.text_views.specs.TextViews.{odd_at, text_at, text_in, text_of, field_of}
use Rattle.fields.specs.Words.{element_of}
use Rattle.fields.specs.declared.Fields.{Fields}
use Rattle.text_fields.specs.Words.{text_body, text_size}
use Rattle.text_fields.specs.declared.Text.{Text}
use Rattle.text_fields.proofs.Element.{counted}
use Rattle.places.specs.Spotted.{spotted_with}
use Rattle.round_trips.specs.Parts.{odd_read, triples_from, GivesText}
use Rattle.round_trips.specs.RoundTrip.{Longs}
use Rattle.round_trips.proofs.TextNumbers.{numbers_read}
use Rattle.round_trips.proofs.TextBytes.{byte_file, no_field, triples_are, characters_are}
use Rattle.round_trips.proofs.OwnText.{TextCall, numbers_there, counts_there, ends_inside, characters_there, triples_there, odd_there}

module _ {dim : ℕ} {f : Fields} {t : Text} {characters triples tail : List ℕ} (c : TextCall dim f t characters triples tail)
    (l : Longs (t.x ∷ t.y ∷ t.z ∷ [])) (p : Below 256 characters) (q : Below 256 triples) (s : List ℕ) (b : Below 256 s) {at : ℕ}
    (stands : Stands (element_of f (text_size dim characters triples tail) (text_body dim t characters triples) tail) at (words s))
    {end depth : ℕ} {above : Above} (found : spotted_at dim s at ≡ spotted_with end depth above) (text : type_at (words s) at ≡ 17) where
  -- how many characters and how many bytes of fields there are, and that they end in the file
  characters_count : characters_in (counts_at dim (words s) at) ≡ length characters
  characters_count = ap characters_in (counts_there c stands) ∙ (counted characters triples c.is.lists).0

  triples_count : 3 * fields_in (counts_at dim (words s) at) ≡ length triples
  triples_count = ap (λ n. 3 * fields_in n) (counts_there c stands) ∙ (counted characters triples c.is.lists).1

  ends : 2 * at + first_character dim + 2 * ((length characters + length triples + 1) / 2) ≤ 2 * (length s / 2)
  unfolding text_part
  ends =
      let i = ends_inside c stands in
      let w = length_words s in
      let x = (counted characters triples c.is.lists).0 in
      let y = (counted characters triples c.is.lists).1 in
      omega arith

  odd_shown : odd_at dim (words s) at ≡ odd_read t (length characters + length triples)
  unfolding odd_at
  odd_shown =
      let n : text_bytes (counts_at dim (words s) at) ≡ length characters + length triples = let x = characters_count in let y = triples_count in omega arith in
      rw n (go (eqb ((length characters + length triples) % 2) 1) refl)
    where
      go : (o : Bool) → eqb ((length characters + length triples) % 2) 1 ≡ o →
          cond (eqb ((length characters + length triples) % 2) 0) None (Some (byte_at (words s) at (first_character dim + (length characters + length triples))))
          ≡ cond o (Some t.odd) None
      go true e =
          let n = length characters + length triples in
          let z = eqb-true ((length characters + length triples) % 2) 1 e in
          let h = ends in
          let k : 2 * at + (first_character dim + (length characters + length triples)) ≡ 2 * at + first_character dim + length characters + length triples = omega arith in
          rw (ne_eqb ((length characters + length triples) % 2) 0 (λ y. omega arith))
          (ap Some (byte_file s b at (first_character dim + n) (omega arith) ∙ ap (λ i. get_or s i 0) k ∙ odd_there c p q s b stands e))
      go false e =
          let z = eqb-false ((length characters + length triples) % 2) 1 e in
          let m = (length characters + length triples) % 2 in
          let small : (length characters + length triples) % 2 < 2 = omega arith in
          rw (eq-eqb ((length characters + length triples) % 2) 0 (omega arith)) refl

  pub text_given : GivesText dim s at t characters triples
  unfolding text_of text_in text_at
  text_given =
      let counts = counts_at dim (words s) at in
      let x = characters_count in
      let y = triples_count in
      let h = ends in
      let numbered = numbers_there c stands in
      let numbers = numbers_read dim c.is.dims (words s) at t l numbered.longs in
      let third : length triples / 3 ≡ fields_in (counts_at dim (words s) at) = omega arith in
      let from : 2 * at + field_byte dim (counts_at dim (words s) at) 0 ≡ 2 * at + first_character dim + length characters = omega arith in
      record {
        text = text_at dim (words s) at;
        read = rw (found, eq-eqb (type_at (words s) at) 17 text) refl;
        shows = record {
          font = numbered.font;
          justification = numbered.justification;
          length = numbers.0;
          height = numbers.1.0;
          turn = numbers.1.1.0;
          origin = numbers.1.1.1;
          characters = characters_count;
          fields = triples_count;
          odd = odd_shown;
          no_third = c.is.flat;
          no_odd = c.is.odd;
        };
        all_characters =
            characters_are s b at dim found text ∙ ap (λ n. take n (drop (2 * at + first_character dim) s)) characters_count ∙ characters_there c p q s b stands;
        all_fields =
            ap (λ n. triples_from n 0 dim s at) third ∙ triples_are s b at dim found text (fields_in counts) 0 (omega arith) (omega arith)
            ∙ ap (λ n. take n (drop (2 * at + field_byte dim (counts_at dim (words s) at) 0) s)) triples_count
            ∙ ap (λ n. take (length triples) (drop n s)) from ∙ triples_there c p q s b stands;
        no_more = ap (field_of dim s at) third ∙ no_field s b at dim found text (fields_in counts) (omega arith);
      }
