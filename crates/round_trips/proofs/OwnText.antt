-- The words of a text, by themselves and where they stand in a file: what lies at the counts, the bytes behind them. So they pass
-- the rules of a text.
use Prim.Native.Nat.{ℕ, ◌+◌, ◌*◌, ◌/◌, ◌%◌, ◌≤◌, ◌<◌}
use mathlib.Core.Path.{◌≡◌, refl, sym, ap, ◌∙◌, subst}
use mathlib.Core.Bool.{true}
use mathlib.Core.List.{List, [], ◌∷◌, ◌++◌, append_assoc}
use native.Mathlib.Nat.{add-zero}
use native.Mathlib.Omega.{arith}
use lib.ListN.{length, get_or, take, drop, length-take, length-drop, take-append-drop}
use lib.Seq.{take_all, take_at, drop_at, drop-drop, get_or-drop}
use lib.Dec.{eqb}
use borrow.Author.Tests.{le-leb}
use Rattle.words.specs.Words.{words, bytes, Below}
use Rattle.words.proofs.Laws.{length_words, length_bytes, words_below, words_bytes, bytes_words}
use Rattle.words.proofs.Signed.{unsigned_small}
use Rattle.limits.proofs.Dimensions.{by_dims}
use Rattle.kinds.proofs.Types.{Each}
use Rattle.texts.specs.Texts.{counts_word, characters_in, fields_in, text_part, counts_at, first_character, field_byte, fields_ok}
use Rattle.headers.specs.Header.{type_at, size_at}
use Rattle.elements.specs.Rules.{fixed_ok, text_fields_ok}
use Rattle.elements.proofs.Laws.{text_part_is, text_fixed, text_fields}
use Rattle.grammar.proofs.Stands.{Stands, stands_first, stands_left, stands_right}
use Rattle.edits.proofs.Bounds.{bytes_below, below_cons, below_append}
use Rattle.fields.specs.Words.{longs, header_words, element_of}
use Rattle.fields.specs.declared.Fields.{Fields}
use Rattle.fields.proofs.Element.{Formed, length_header, size_of_lem, kind_of, fixed_of}
use Rattle.text_fields.specs.Words.{number_words, counts_of, odd_bytes, text_bytes, text_body, text_size, text_words}
use Rattle.text_fields.specs.Faults.{triples_ok}
use Rattle.text_fields.specs.declared.Text.{Text}
use Rattle.text_fields.proofs.Bounds.{Called}
use Rattle.text_fields.proofs.Element.{counted, length_text_bytes, below_text_bytes, length_numbers, length_body, formed}
use Rattle.text_fields.proofs.Writable.{Writable}
use Rattle.round_trips.specs.RoundTrip.{Longs}
use Rattle.round_trips.proofs.Own.{below_longs, written_below, Owned}
use Rattle.round_trips.proofs.Spans.{stands_at}
use Rattle.round_trips.proofs.Extents.{part_bytes}
use Rattle.round_trips.proofs.TextNumbers.{number_longs, Numbered, words_numbered}
use Rattle.round_trips.proofs.TextBytes.{fields_triples}

-- what stands in a file and has words ends in it
stands_inside : {own ws : List ℕ} {at : ℕ} → Stands own at ws → 0 < length own → at + length own ≤ length ws
stands_inside {own} {ws} {at} s h =
    let l = sym (length-take (length own) (drop at ws)) ∙ ap length s.is in
    let d = length-drop at ws in
    omega arith

---- all are words

longs_small : (dim : ℕ) (f : Fields) (t : Text) (characters triples tail : ℕ) → Called dim f t characters triples tail → Longs (t.x ∷ t.y ∷ t.z ∷ []) →
    Each (λ v. v ≤ 4294967295) (number_longs dim t)
longs_small dim f t characters triples tail c l =
    let n = c.numbers.long in
    let x = unsigned_small t.x l.0 in
    let y = unsigned_small t.y l.1.0 in
    let z = unsigned_small t.z l.1.1.0 in
    let turn = n.1.1 in
    by_dims (λ m. Each (λ v. v ≤ 4294967295) (number_longs m t)) dim c.dims
    (n.0, (n.1.0, (turn.0, (omega arith, (omega arith, tt)))))
    (n.0, (n.1.0, (turn.0, (turn.1.0, (turn.1.1.0, (turn.1.1.1.0, (omega arith, (omega arith, (omega arith, tt)))))))))

-- the lists of a call whose arguments are right
pub record TextCall (dim : ℕ) (f : Fields) (t : Text) (characters triples tail : List ℕ) : Type 0 where
  pub is : Called dim f t (length characters) (length triples) (length tail)

module _ {dim : ℕ} {f : Fields} {t : Text} {characters triples tail : List ℕ} (c : TextCall dim f t characters triples tail) where
  abbrev own : List ℕ
  own = element_of f (text_size dim characters triples tail) (text_body dim t characters triples) tail

  pub text_formed : Formed dim f (text_size dim characters triples tail) (text_body dim t characters triples) tail
  text_formed = formed dim f t characters triples tail c.is

  pub text_below : Longs (t.x ∷ t.y ∷ t.z ∷ []) → Below 256 characters → Below 256 triples → Below 65536 (text_body dim t characters triples)
  text_below l p q =
      let byte = c.is.numbers.byte in
      let font = byte.0 in
      let justification = byte.1.0 in
      let few = c.is.lists.few in
      let short = c.is.lists.short in
      below_append 65536 (number_words dim t) (counts_of characters triples ∷ words (text_bytes t characters triples))
      (below_cons 65536 (t.font + 256 * t.justification) (longs (number_longs dim t)) (omega arith)
      (below_longs (number_longs dim t) (longs_small dim f t (length characters) (length triples) (length tail) c.is l)))
      (below_cons 65536 (counts_of characters triples) (words (text_bytes t characters triples)) (omega arith)
      (words_below (text_bytes t characters triples) (below_text_bytes t characters triples byte.1.1.0 p q)))

  ---- where they stand in a file

  module _ {ws : List ℕ} {at : ℕ} (stands : Stands own at ws) where
    body_there : Stands (text_body dim t characters triples) (at + 18) ws
    body_there =
        let h = length_header f (text_size dim characters triples tail) in
        let body = text_body dim t characters triples in
        stands_at (at + 18) (omega arith) (stands_left body (words tail) (stands_right (header_words f (text_size dim characters triples tail)) (body ++ words tail) stands))

    pub numbers_there : Numbered dim ws at t
    numbers_there =
        let byte = c.is.numbers.byte in
        words_numbered dim ws at t byte.0 byte.1.0 (stands_left (number_words dim t) (counts_of characters triples ∷ words (text_bytes t characters triples)) body_there)

    behind_numbers : Stands (counts_of characters triples ∷ words (text_bytes t characters triples)) (at + counts_word dim) ws
    behind_numbers =
        let n = length_numbers dim f t characters triples tail c.is in
        stands_at (at + counts_word dim) (omega arith) (stands_right (number_words dim t) (counts_of characters triples ∷ words (text_bytes t characters triples)) body_there)

    pub counts_there : counts_at dim ws at ≡ counts_of characters triples
    counts_there = stands_first behind_numbers (omega arith)

    bytes_there : Stands (words (text_bytes t characters triples)) (at + counts_word dim + 1) ws
    bytes_there = stands_right (counts_of characters triples ∷ []) (words (text_bytes t characters triples)) behind_numbers

    pub ends_inside : at + text_part dim (counts_of characters triples) ≤ length ws
    ends_inside =
        let l = stands_inside body_there (omega arith) in
        let b = length_body dim f t characters triples tail c.is in
        omega arith

  ---- in a file of bytes

  module _ (p : Below 256 characters) (q : Below 256 triples) (s : List ℕ) (b : Below 256 s) {at : ℕ} (stands : Stands own at (words s)) where
    -- the bytes behind the counts are a part of the file's
    bytes_are : take (length (text_bytes t characters triples)) (drop (2 * at + first_character dim) s) ≡ text_bytes t characters triples
    unfolding text_part
    bytes_are =
        let behind = text_bytes t characters triples in
        let m = (length characters + length triples + 1) / 2 in
        let from = at + counts_word dim + 1 in
        let l = length_text_bytes t characters triples in
        let w = length_words behind in
        let i = ends_inside stands in
        let n = counted characters triples c.is.lists in
        let x = n.0 in
        let y = n.1 in
        let e : 2 * at + first_character dim ≡ 2 * (at + counts_word dim + 1) = omega arith in
        let z : length (words (text_bytes t characters triples)) ≡ (length characters + length triples + 1) / 2 = omega arith in
        ap (λ k. take (length (text_bytes t characters triples)) (drop k s)) e ∙ ap (λ k. take k (drop (2 * (at + counts_word dim + 1)) s)) l
        ∙ sym (part_bytes s from m b (omega arith))
        ∙ ap bytes (ap (λ k. take k (drop (at + counts_word dim + 1) (words s))) (sym z) ∙ (bytes_there stands).is)
        ∙ bytes_words behind m l (below_text_bytes t characters triples c.is.numbers.byte.1.1.0 p q)

    abbrev rest : List ℕ
    rest = drop (length (text_bytes t characters triples)) (drop (2 * at + first_character dim) s)

    abbrev odd : List ℕ
    odd = odd_bytes t (length characters + length triples)

    behind_counts : drop (2 * at + first_character dim) s ≡ characters ++ (triples ++ (odd ++ rest))
    behind_counts =
        let behind = text_bytes t characters triples in
        sym (take-append-drop (length behind) (drop (2 * at + first_character dim) s)) ∙ ap (λ l. l ++ rest) bytes_are
        ∙ append_assoc characters (triples ++ odd) rest ∙ ap (λ l. characters ++ l) (append_assoc triples odd rest)

    pub characters_there : take (length characters) (drop (2 * at + first_character dim) s) ≡ characters
    characters_there = ap (take (length characters)) behind_counts ∙ take_at characters (triples ++ (odd ++ rest)) (length characters) refl

    behind_characters : drop (2 * at + first_character dim + length characters) s ≡ triples ++ (odd ++ rest)
    behind_characters =
        sym (drop-drop (length characters) (2 * at + first_character dim) s) ∙ ap (drop (length characters)) behind_counts
        ∙ drop_at characters (triples ++ (odd ++ rest)) (length characters) refl

    pub triples_there : take (length triples) (drop (2 * at + first_character dim + length characters) s) ≡ triples
    triples_there = ap (take (length triples)) behind_characters ∙ take_at triples (odd ++ rest) (length triples) refl

    behind_triples : drop (2 * at + first_character dim + length characters + length triples) s ≡ odd ++ rest
    behind_triples =
        sym (drop-drop (length triples) (2 * at + first_character dim + length characters) s) ∙ ap (drop (length triples)) behind_characters
        ∙ drop_at triples (odd ++ rest) (length triples) refl

    pub odd_there : eqb ((length characters + length triples) % 2) 1 ≡ true → get_or s (2 * at + first_character dim + length characters + length triples) 0 ≡ t.odd
    odd_there o =
        let from = 2 * at + first_character dim + length characters + length triples in
        let first : get_or (odd ++ rest) 0 0 ≡ t.odd = rw o refl in
        sym (get_or-drop from s 0 0 ∙ ap (λ k. get_or s k 0) (add-zero from)) ∙ ap (λ l. get_or l 0 0) behind_triples ∙ first

  ---- the rules of a text

  kind_is : 17 ≡ type_at own 0
  kind_is = sym (kind_of text_formed ∙ c.is.kind)

  fixed_ok_lem : fixed_ok dim own 0 ≡ true
  fixed_ok_lem =
      let part = sym (text_part_is dim own 0 kind_is) ∙ fixed_of text_formed in
      let size = size_of_lem text_formed in
      let long = text_formed.long in
      text_fixed dim own 0 kind_is ∙ le-leb (text_part dim (counts_at dim own 0)) (size_at own 0) (omega arith)

  module _ (small : Below 65536 own) (p : Below 256 characters) (q : Below 256 triples) (passed : triples_ok (length characters) triples ≡ true) where
    own_again : words (bytes own) ≡ own
    own_again = words_bytes own small

    own_stands : Stands own 0 (words (bytes own))
    own_stands = record { is = ap (take (length own)) own_again ∙ take_all (length own) own (omega arith) }

    own_fields : fields_ok dim (words (bytes own)) 0 ≡ true
    unfolding fields_ok text_part
    own_fields =
        let s = bytes own in
        let l = length_bytes own in
        let i = ends_inside own_stands in
        let lw = length_words (bytes own) in
        let n = counted characters triples c.is.lists in
        let x = n.0 in
        let y = n.1 in
        let from : 2 * 0 + field_byte dim (counts_of characters triples) 0 ≡ 2 * 0 + first_character dim + length characters = omega arith in
        rw (counts_there own_stands)
        (fields_triples s (bytes_below own) 0 (fields_in (counts_of characters triples)) (characters_in (counts_of characters triples)) (field_byte dim (counts_of characters triples) 0) (omega arith)
        ∙ ap (λ k. triples_ok (characters_in (counts_of characters triples)) (take k (drop (2 * 0 + field_byte dim (counts_of characters triples) 0) (bytes own)))) y
        ∙ ap (λ k. triples_ok (characters_in (counts_of characters triples)) (take (length triples) (drop k (bytes own)))) from
        ∙ ap (triples_ok (characters_in (counts_of characters triples))) (triples_there p q s (bytes_below own) own_stands)
        ∙ ap (λ k. triples_ok k triples) x ∙ passed)

    fields_ok_lem : text_fields_ok dim own 0 ≡ true
    fields_ok_lem = text_fields dim own 0 kind_is ∙ subst (λ ws. fields_ok dim ws 0 ≡ true) own_again own_fields

module _ {dim : ℕ} {f : Fields} {t : Text} {characters triples tail : List ℕ} {room : ℕ} (w : Writable dim f t characters triples tail room)
    (l : Longs (t.x ∷ t.y ∷ t.z ∷ [])) (p : Below 256 characters) (q : Below 256 triples) (b : Below 256 tail) where
  pub text_call : TextCall dim f t characters triples tail
  text_call = record { is = w.call }

  pub owned_text : Owned dim f (text_size dim characters triples tail) (text_body dim t characters triples) tail
  unfolding text_words
  owned_text = record {
    formed = text_formed text_call;
    even = w.call.even;
    more = omega arith;
    plain = rw w.call.kind refl;
    unfloated = rw w.call.kind refl;
    fixed = fixed_ok_lem text_call;
    fields = fields_ok_lem text_call (written_below (text_formed text_call) w.size (text_below text_call l p q) b) p q w.fields;
    small = w.size;
    linkages = w.linkages;
  }
