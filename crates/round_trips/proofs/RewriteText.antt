-- What the calls give of a text makes its body again: numbers, counts, and the bytes behind them, which are one part of the file.
-- So the call is not refused, given room.
use Prim.Native.Nat.{ℕ, ◌+◌, ◌*◌, ◌/◌, ◌%◌, ◌≤◌}
use mathlib.Core.Path.{◌≡◌, refl, sym, ap, ◌∙◌, subst}
use mathlib.Core.Bool.{Bool, true, false, cond, ◌||◌}
use mathlib.Core.List.{List, [], ◌∷◌, ◌++◌}
use native.Mathlib.Omega.{arith}
use lib.ListN.{length, get_or, take, drop, length-append}
use lib.Seq.{take-add, drop-drop, drop-cons}
use lib.Dec.{eqb}
use borrow.Author.Tests.{eqb-true, eq-eqb, ne_eqb}
use Rattle.std.specs.Prelude.{Ok, Some}
use Rattle.words.specs.Words.{words, unsigned}
use Rattle.words.proofs.Laws.{length_words, words_take, words_drop}
use Rattle.limits.specs.Limits.{dim_ok}
use Rattle.limits.proofs.Dimensions.{by_dims}
use Rattle.kinds.specs.Kinds.{fixed_part}
use Rattle.kinds.proofs.Types.{Each}
use Rattle.texts.specs.Texts.{byte_at, counts_word, characters_in, fields_in, text_part, counts_at, first_character, field_byte, fields_ok}
use Rattle.texts.specs.Texts as texts
use Rattle.headers.specs.Header.{type_at, size_at, sizing_at}
use Rattle.elements.proofs.Laws.{text_part_is, text_fields}
use Rattle.grammar.proofs.Stands.{Stands, stands_part, stands_join}
use Rattle.text_views.specs.TextViews.{odd_at, text_at, text_in, text_of}
use Rattle.text_views.proofs.Bytes.{byte_below}
use Rattle.fields.specs.declared.Fields.{Fields}
use Rattle.fields.proofs.Bounds.{each_least}
use Rattle.text_fields.specs.Words.{number_words, counts_of, odd_bytes, text_bytes, text_body, text_words}
use Rattle.text_fields.specs.Faults.{long_numbers, flat_ok, odd_ok, triples_ok}
use Rattle.text_fields.specs.declared.Text.{Text}
use Rattle.text_fields.proofs.Bounds.{Lists, Called}
use Rattle.text_fields.proofs.Element.{length_text_bytes, length_numbers, length_body, formed}
use Rattle.text_fields.proofs.Writable.{Writable}
use Rattle.round_trips.specs.Parts.{with_text, ShowsText, triples_from}
use Rattle.round_trips.specs.RoundTrip.{Given}
use Rattle.round_trips.proofs.Spans.{stands_cons, stands_at, longs_small}
use Rattle.round_trips.proofs.TextNumbers.{number_longs, Numbered, numbered_words, read_numbers}
use Rattle.round_trips.proofs.TextBytes.{byte_file, fields_triples, triples_are, characters_are}
use Rattle.round_trips.proofs.Made.{words_by}
use Rattle.round_trips.proofs.Rewrite as again

-- the longs of the numbers are small: in 2D those that are not stored are 0
long_numbers_lem : (dim : ℕ) (t : Text) → dim_ok dim ≡ true → flat_ok dim t ≡ true → Each (λ x. x ≤ 4294967295) (number_longs dim t) → Each (λ x. x ≤ 4294967295) (long_numbers t)
unfolding flat_ok
long_numbers_lem dim t d =
    by_dims (λ m. flat_ok m t ≡ true → Each (λ x. x ≤ 4294967295) (number_longs m t) → Each (λ x. x ≤ 4294967295) (long_numbers t)) dim d
    (λ z n.
    let none = each_least 0 (t.second ∷ t.third ∷ t.fourth ∷ unsigned t.z ∷ []) z in
    let second = none.0 in
    let third = none.1.0 in
    let fourth = none.1.1.0 in
    (n.0, (n.1.0, (n.1.1.0, (omega arith, (omega arith, (omega arith, tt)))))))
    (λ z n.
    let turn = n.1.1 in
    (n.0, (n.1.0, (turn.0, (turn.1.0, (turn.1.1.0, (turn.1.1.1.0, tt)))))))

module _ {dim : ℕ} {s : List ℕ} {at : ℕ} {f : Fields} {t : Text} {characters triples tail : List ℕ} (g : Given dim s at (with_text f t characters triples tail)) where
  kind : f.kind ≡ 17
  kind = eqb-true f.kind 17 (again.written_kind g)

  text : type_at (words s) at ≡ 17
  text = again.kind_is g ∙ kind

  -- the numbers that are shown are those of its words
  shows : ShowsText dim (text_at dim (words s) at) t (length characters) (length triples)
  unfolding text_of text_in
  shows =
      let found = (again.view g).found in
      let read : text_of dim s at ≡ Ok (text_at dim (words s) at) = rw (found, eq-eqb (type_at (words s) at) 17 text) refl in
      let given = g.gives_body.read in
      let same : g.gives_body.text ≡ text_at dim (words s) at = cc in
      subst (λ e. ShowsText dim e t (length characters) (length triples)) same g.gives_body.shows

  characters_count : characters_in (counts_at dim (words s) at) ≡ length characters
  unfolding text_at
  characters_count = shows.characters

  triples_count : 3 * fields_in (counts_at dim (words s) at) ≡ length triples
  unfolding text_at
  triples_count = shows.fields

  counts_again : counts_at dim (words s) at ≡ counts_of characters triples
  counts_again = let x = characters_count in let y = triples_count in omega arith

  lists : Lists (length characters) (length triples)
  lists =
      let b = again.small g (at + counts_word dim) in
      let x = characters_count in
      let y = triples_count in
      record { few = omega arith; whole = omega arith; short = omega arith }

  -- its fixed part
  pub fixed_same : fixed_part dim (type_at (words s) at) (sizing_at dim (words s) at) ≡ text_part dim (counts_of characters triples)
  fixed_same = text_part_is dim (words s) at (sym text) ∙ ap (text_part dim) counts_again

  -- it ends in the file
  ends : 2 * at + first_character dim + 2 * ((length characters + length triples + 1) / 2) ≤ 2 * (length s / 2)
  unfolding text_part
  ends =
      let h = again.fixed_within g fixed_same in
      let e = again.ends_by g in
      let w = length_words s in
      let x = lists.few in
      let y = lists.whole in
      omega arith

  ---- the numbers

  numbered : Numbered dim (words s) at t
  unfolding text_at
  numbered =
      record {
        font = shows.font;
        justification = shows.justification;
        longs = read_numbers dim (again.dims g) (words s) at t (again.small g) shows.length shows.height shows.turn shows.origin;
      }

  -- the odd byte is there where it is handed in
  odd_read : eqb ((length characters + length triples) % 2) 1 ≡ true → byte_at (words s) at (first_character dim + (length characters + length triples)) ≡ t.odd
  unfolding text_at odd_at
  odd_read o =
      let n : texts.text_bytes (counts_at dim (words s) at) ≡ length characters + length triples = let x = characters_count in let y = triples_count in omega arith in
      let z = eqb-true ((length characters + length triples) % 2) 1 o in
      let even : eqb ((length characters + length triples) % 2) 0 ≡ false = ne_eqb ((length characters + length triples) % 2) 0 (λ y. omega arith) in
      let shown : Some (byte_at (words s) at (first_character dim + (length characters + length triples))) ≡ Some t.odd = rw (n, even, o) at shows.odd in
      cc

  odd_small : t.odd ≤ 255
  unfolding odd_ok
  odd_small = go (eqb ((length characters + length triples) % 2) 1) refl shows.no_odd
    where
      go : (b : Bool) → eqb ((length characters + length triples) % 2) 1 ≡ b → (b || eqb t.odd 0) ≡ true → t.odd ≤ 255
      go true e h = let l = byte_below (words s) at (first_character dim + (length characters + length triples)) t.odd (sym (odd_read e)) in omega arith
      go false e h = let z = eqb-true t.odd 0 h in omega arith

  pub text_call_again : Called dim f t (length characters) (length triples) (length tail)
  text_call_again =
      let b = again.small g (at + 18) in
      let font = numbered.font in
      let justification = numbered.justification in
      record {
        dims = again.dims g;
        kind = kind;
        fields = again.fields_right g;
        numbers = record {
          byte = (omega arith, (omega arith, (odd_small, tt)));
          long = long_numbers_lem dim t (again.dims g) shows.no_third (longs_small (words s) (again.small g) (at + 19) (number_longs dim t) numbered.longs);
        };
        flat = shows.no_third;
        lists = lists;
        odd = shows.no_odd;
        even = again.tail_even g;
      }

  ---- the bytes behind the counts

  characters_again : take (length characters) (drop (2 * at + first_character dim) s) ≡ characters
  characters_again =
      ap (λ n. take n (drop (2 * at + first_character dim) s)) (sym characters_count)
      ∙ sym (characters_are s g.file_bytes at dim (again.view g).found text) ∙ g.gives_body.all_characters

  triples_again : take (length triples) (drop (2 * at + first_character dim + length characters) s) ≡ triples
  triples_again =
      let x = characters_count in
      let y = triples_count in
      let h = ends in
      let third : length triples / 3 ≡ fields_in (counts_at dim (words s) at) = omega arith in
      let from : 2 * at + field_byte dim (counts_at dim (words s) at) 0 ≡ 2 * at + first_character dim + length characters = omega arith in
      let counts = counts_at dim (words s) at in
      ap (λ n. take (length triples) (drop n s)) (sym from) ∙ ap (λ n. take n (drop (2 * at + field_byte dim (counts_at dim (words s) at) 0) s)) (sym triples_count)
      ∙ sym (triples_are s g.file_bytes at dim (again.view g).found text (fields_in counts) 0 (omega arith) (omega arith))
      ∙ ap (λ n. triples_from n 0 dim s at) (sym third) ∙ g.gives_body.all_fields

  odd_again : take (length (odd_bytes t (length characters + length triples))) (drop (2 * at + first_character dim + length characters + length triples) s) ≡ odd_bytes t (length characters + length triples)
  odd_again = go (eqb ((length characters + length triples) % 2) 1) refl
    where
      go : (b : Bool) → eqb ((length characters + length triples) % 2) 1 ≡ b →
          take (length (cond b (t.odd ∷ []) [])) (drop (2 * at + first_character dim + length characters + length triples) s) ≡ cond b (t.odd ∷ []) []
      go true e =
          let n = length characters + length triples in
          let from = 2 * at + first_character dim + length characters + length triples in
          let h = ends in
          let z = eqb-true ((length characters + length triples) % 2) 1 e in
          let k : 2 * at + first_character dim + length characters + length triples ≡ 2 * at + (first_character dim + (length characters + length triples)) = omega arith in
          let byte : get_or s (2 * at + first_character dim + length characters + length triples) 0 ≡ t.odd =
          ap (λ i. get_or s i 0) k ∙ sym (byte_file s g.file_bytes at (first_character dim + n) (omega arith)) ∙ odd_read e in
          ap (take 1) (drop-cons s from 0 (omega arith)) ∙ ap (λ x. x ∷ []) byte
      go false e = refl

  -- one after another
  bytes_again : take (length (text_bytes t characters triples)) (drop (2 * at + first_character dim) s) ≡ text_bytes t characters triples
  bytes_again =
      let from = 2 * at + first_character dim in
      let c = length characters in
      let n = length triples in
      let odd = odd_bytes t (length characters + length triples) in
      let o = length odd in
      let rest : take (n + o) (drop (from + c) s) ≡ triples ++ odd =
      take-add n o (drop (from + c) s)
      ∙ ap (λ l. take n (drop (from + c) s) ++ take o l) (drop-drop n (from + c) s)
      ∙ rw (triples_again, odd_again) refl in
      ap (λ k. take k (drop from s)) (length-append characters (triples ++ odd) ∙ ap (λ k. c + k) (length-append triples odd))
      ∙ take-add c (n + o) (drop from s)
      ∙ ap (λ l. take c (drop from s) ++ take (n + o) l) (drop-drop c from s)
      ∙ rw (characters_again, rest) refl

  bytes_stand : Stands (words (text_bytes t characters triples)) (at + counts_word dim + 1) (words s)
  bytes_stand =
      let m = (length characters + length triples + 1) / 2 in
      let from = at + counts_word dim + 1 in
      let l = length_text_bytes t characters triples in
      let w = length_words s in
      let h = ends in
      let e : 2 * at + first_character dim ≡ 2 * (at + counts_word dim + 1) = omega arith in
      let same : take m (drop from (words s)) ≡ words (text_bytes t characters triples) =
      ap (take m) (sym (words_drop from s)) ∙ sym (words_take m (drop (2 * from) s))
      ∙ ap (λ k. words (take k (drop (2 * from) s))) (sym l) ∙ ap (λ k. words (take (length (text_bytes t characters triples)) (drop k s))) (sym e) ∙ ap words bytes_again in
      subst (λ x. Stands x from (words s)) same (stands_part m from (words s) (omega arith))

  body_again : Stands (text_body dim t characters triples) (at + 18) (words s)
  unfolding text_part
  body_again =
      let n = length_numbers dim f t characters triples tail text_call_again in
      let h = again.fixed_within g fixed_same in
      let e = again.ends_by g in
      let long : length (number_words dim t) ≡ 1 + 2 * length (number_longs dim t) = by_dims (λ m. length (number_words m t) ≡ 1 + 2 * length (number_longs m t)) dim (again.dims g) refl refl in
      let behind = words (text_bytes t characters triples) in
      let counts = stands_cons (counts_of characters triples) behind (words s) (at + counts_word dim) (omega arith) counts_again bytes_stand in
      stands_join (number_words dim t) (counts_of characters triples ∷ behind) (numbered_words dim (words s) at t (again.small g) numbered (omega arith))
      (stands_at (at + 18 + length (number_words dim t)) (omega arith) counts)

  ---- the call

  fields_again : triples_ok (length characters) triples ≡ true
  unfolding fields_ok
  fields_again =
      let x = characters_count in
      let y = triples_count in
      let h = ends in
      let counts = counts_at dim (words s) at in
      let from : 2 * at + field_byte dim (counts_at dim (words s) at) 0 ≡ 2 * at + first_character dim + length characters = omega arith in
      let ok : fields_ok dim (words s) at ≡ true = sym (text_fields dim (words s) at (sym text)) ∙ (again.rules g).fields in
      let same = fields_triples s g.file_bytes at (fields_in counts) (characters_in counts) (field_byte dim counts 0) (omega arith) in
      ap (triples_ok (length characters)) (sym triples_again) ∙ ap (λ k. triples_ok (length characters) (take (length triples) (drop k s))) (sym from)
      ∙ ap (λ k. triples_ok (length characters) (take k (drop (2 * at + field_byte dim (counts_at dim (words s) at) 0) s))) (sym triples_count)
      ∙ ap (λ k. triples_ok k (take (3 * fields_in (counts_at dim (words s) at)) (drop (2 * at + field_byte dim (counts_at dim (words s) at) 0) s))) (sym characters_count)
      ∙ sym same ∙ ok

  pub text_stands_again : Stands (words_by dim (with_text f t characters triples tail)) at (words s)
  text_stands_again = again.stands_again g fixed_same (formed dim f t characters triples tail text_call_again) (length_body dim f t characters triples tail text_call_again) body_again

  pub text_writable : (room : ℕ) → 2 * size_at (words s) at ≤ room → Writable dim f t characters triples tail room
  unfolding text_words
  text_writable room h =
      let e = again.size_again g fixed_same in
      let m = formed dim f t characters triples tail text_call_again in
      let l = length_body dim f t characters triples tail text_call_again in
      record {
        call = text_call_again;
        fields = fields_again;
        size = again.small_again g fixed_same m l body_again;
        linkages = again.linkages_again g fixed_same m l body_again;
        fits = omega arith;
      }
