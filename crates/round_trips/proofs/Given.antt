-- Each element of a type that is written, in an accepted file, gives parts to rewrite: the fields are cut out of its words, the points
-- are as many as it has, or the numbers, characters and fields are those of the text, and the tail is what its extent's bytes have
-- behind them.
use Prim.Native.Nat.{ℕ, zero, suc, ◌+◌, ◌-◌, ◌*◌, ◌/◌, ◌%◌, ◌≤◌, ◌<◌}
use mathlib.Core.Path.{◌≡◌, refl, sym, ap, ◌∙◌, subst}
use mathlib.Core.Bool.{Bool, true, false, cond, ◌||◌, false≢true}
use mathlib.Core.List.{List}
use native.Mathlib.Nat.{mul-suc}
use native.Mathlib.Omega.{arith}
use lib.ListN.{length, drop, length-append, length-drop}
use lib.Seq.{length-take-le}
use lib.IntN.{pos}
use lib.Dec.{eqb}
use borrow.Author.Tests.{leb-true, eqb-true, eqb-false, eq-eqb, ne_eqb}
use Rattle.std.specs.Prelude.{Err, None, Ok, Result, Some}
use Rattle.limits.specs.Limits.{dim_ok}
use Rattle.limits.proofs.Dimensions.{by_dims, call_dims}
use Rattle.words.specs.Words.{words, word_at, long_at, signed, Below}
use Rattle.words.proofs.Laws.{length_words}
use Rattle.texts.specs.Texts.{byte_at, characters_in, fields_in, text_bytes, text_part, counts_at, first_character, field_byte}
use Rattle.kinds.specs.FirstWord.{level_of, c_of, deleted_of}
use Rattle.kinds.specs.Kinds.{is_linked, fixed_part}
use Rattle.headers.specs.Header.{type_at, size_at}
use Rattle.elements.proofs.Laws.{fixed_least, linked_size, text_part_is}
use Rattle.files.specs.Judge.{judge_of}
use Rattle.grammar.proofs.Exact.{accepted_is}
use Rattle.places.specs.declared.Above.{Above}
use Rattle.places.specs.Places.{spotted_at}
use Rattle.places.specs.Extents.{extent_bytes}
use Rattle.views.specs.Starts.{Accepts}
use Rattle.views.specs.Views.{coordinate_at, element_view, view_of}
use Rattle.views.specs.declared.Element.{Element}
use Rattle.views.proofs.Starts.{view_accepts}
use Rattle.points_linkages.specs.Points.{point_count, point_of}
use Rattle.points_linkages.specs.Coordinates.{coordinates, points_from}
use Rattle.points_linkages.proofs.Numbered.{point_none}
use Rattle.turns.specs.Turns.{turn_at}
use Rattle.text_views.specs.TextViews.{origin_at, odd_at, text_at, text_in, text_of, character_bytes, field_of}
use Rattle.fields.specs.Words.{points_in}
use Rattle.fields.specs.Faults.{is_written}
use Rattle.fields.specs.declared.Fields.{Fields}
use Rattle.fields.proofs.Bounds.{by_kinds}
use Rattle.text_fields.specs.Words.{counts_of}
use Rattle.text_fields.specs.Faults.{flat_ok, odd_ok}
use Rattle.text_fields.specs.declared.Text.{Text}
use Rattle.files.specs.Accepted.{accepted_with}
use Rattle.places.specs.Spotted.{spotted_with}
use Rattle.refusals.specs.declared.Refusal.{Refusal}
use Rattle.round_trips.specs.Parts.{Parts, with_points, with_text, fields_of, tail_of, is_kind_of, Shows, GivesPoints, turn_read, origin_read, odd_read, triples_from, GivesText, GivesBody, tail_read}
use Rattle.round_trips.specs.RoundTrip.{HasParts, EveryGiven}
use Rattle.round_trips.proofs.Seen.{SeenAt, seen_at}
use Rattle.round_trips.proofs.Fields.{range_there, display_there}
use Rattle.round_trips.proofs.Coordinates.{length_in}
use Rattle.round_trips.proofs.TextBytes.{no_field, triples_are, characters_are}

---- the fields

-- those of the words at a place
abbrev fields_at : List ℕ → ℕ → Fields
fields_at ws at = record {
  kind = type_at ws at;
  level = level_of (word_at ws at);
  c = eqb (c_of (word_at ws at)) 1;
  deleted = eqb (deleted_of (word_at ws at)) 1;
  low_x = coordinate_at ws (at + 2);
  low_y = coordinate_at ws (at + 4);
  low_z = coordinate_at ws (at + 6);
  high_x = coordinate_at ws (at + 8);
  high_y = coordinate_at ws (at + 10);
  high_z = coordinate_at ws (at + 12);
  group = word_at ws (at + 14);
  index = word_at ws (at + 15);
  properties = word_at ws (at + 16);
  style = word_at ws (at + 17) % 8;
  weight = word_at ws (at + 17) / 8 % 32;
  colour = word_at ws (at + 17) / 256;
}

shows_fields : (ws : List ℕ) (at depth : ℕ) (above : Above) → is_linked (type_at ws at) ≡ true → 14 ≤ size_at ws at → Shows (element_view ws at depth above) (fields_at ws at)
unfolding element_view
shows_fields ws at depth above k h =
    record { level = refl; c = refl; kind = refl; deleted = refl; range = range_there ws at h; display = display_there ws at k }

---- the points

module _ (dim : ℕ) (s : List ℕ) (at : ℕ) {end depth : ℕ} {above : Above} (found : spotted_at dim s at ≡ spotted_with end depth above) (d : dim_ok dim ≡ true) where
  -- n points have so many coordinates
  length_points : (n k : ℕ) → k + n ≤ point_count (words s) at → length (points_from n k dim s at) ≡ dim * n
  unfolding points_from
  length_points zero k h = by_dims (λ m. 0 ≡ m * 0) dim d (omega arith) (omega arith)
  length_points (suc n) k h =
      let l = length-append (coordinates (point_of dim s at k)) (points_from n (k + 1) dim s at) in
      let a = length_in dim s at found d k (omega arith) in
      let b = length_points n (k + 1) (omega arith) in
      let m = mul-suc dim n in
      omega arith

  gives_points : GivesPoints dim s at (points_from (point_count (words s) at) 0 dim s at)
  gives_points =
      let n = point_count (words s) at in
      let l = length_points n 0 (omega arith) in
      let whole : points_in dim (points_from (point_count (words s) at) 0 dim s at) ≡ point_count (words s) at =
      ap (λ k. k / dim) l ∙ by_dims (λ m. m * n / m ≡ n) dim d (omega arith) (omega arith) in
      record {
        all = ap (λ k. points_from k 0 dim s at) whole;
        no_more = ap (point_of dim s at) whole ∙ sym (point_none dim s at n end depth above found n refl (omega arith));
      }

---- the text

-- the numbers of the words at a place; what a text there does not have is 0
abbrev numbers_at : ℕ → List ℕ → ℕ → Text
numbers_at dim ws at =
    let flat = eqb dim 2 in
    let n = text_bytes (counts_at dim ws at) in
    record {
      font = word_at ws (at + 18) % 256;
      justification = word_at ws (at + 18) / 256;
      length = long_at ws (at + 19);
      height = long_at ws (at + 21);
      first = long_at ws (at + 23);
      second = cond flat 0 (long_at ws (at + 23 + 2));
      third = cond flat 0 (long_at ws (at + 23 + 4));
      fourth = cond flat 0 (long_at ws (at + 23 + 6));
      x = cond flat (signed (long_at ws (at + 25))) (signed (long_at ws (at + 31)));
      y = cond flat (signed (long_at ws (at + 27))) (signed (long_at ws (at + 33)));
      z = cond flat (pos 0) (signed (long_at ws (at + 35)));
      odd = cond (eqb (n % 2) 1) (byte_at ws at (first_character dim + n)) 0;
    }

module _ (dim : ℕ) (ws : List ℕ) (at n : ℕ) (e : n ≡ text_bytes (counts_at dim ws at)) where
  odd_shown : odd_at dim ws at ≡ odd_read (numbers_at dim ws at) n
  unfolding odd_at
  odd_shown = rw (← e) (go (eqb (n % 2) 1) refl)
    where
      go : (b : Bool) → eqb (n % 2) 1 ≡ b →
          cond (eqb (n % 2) 0) None (Some (byte_at ws at (first_character dim + n))) ≡ cond b (Some (cond b (byte_at ws at (first_character dim + n)) 0)) None
      go true q = let z = eqb-true (n % 2) 1 q in rw (ne_eqb (n % 2) 0 (λ y. omega arith)) refl
      go false q = let z = eqb-false (n % 2) 1 q in let l : n % 2 < 2 = omega arith in rw (eq-eqb (n % 2) 0 (omega arith)) refl

  odd_none : odd_ok (numbers_at dim ws at) n ≡ true
  unfolding odd_ok
  odd_none = rw (← e) (go (eqb (n % 2) 1))
    where
      go : (b : Bool) → (b || eqb (cond b (byte_at ws at (first_character dim + n)) 0) 0) ≡ true
      go true = refl
      go false = refl

module _ (dim : ℕ) (s : List ℕ) (at : ℕ) {end depth : ℕ} {above : Above} (found : spotted_at dim s at ≡ spotted_with end depth above) (d : dim_ok dim ≡ true) (b : Below 256 s) (text : type_at (words s) at ≡ 17)
    (inside : at + text_part dim (counts_at dim (words s) at) ≤ length (words s)) where
  length_characters : length (character_bytes dim s at) ≡ characters_in (counts_at dim (words s) at)
  unfolding text_part
  length_characters =
      let w = length_words s in
      let from = 2 * at + first_character dim in
      let l = length-drop from s in
      ap length (characters_are s b at dim found text) ∙ length-take-le (characters_in (counts_at dim (words s) at)) (drop from s) (omega arith)

  length_triples : length (triples_from (fields_in (counts_at dim (words s) at)) 0 dim s at) ≡ 3 * fields_in (counts_at dim (words s) at)
  unfolding text_part
  length_triples =
      let counts = counts_at dim (words s) at in
      let w = length_words s in
      let from = 2 * at + field_byte dim (counts_at dim (words s) at) 0 in
      let l = length-drop from s in
      ap length (triples_are s b at dim found text (fields_in counts) 0 (omega arith) (omega arith)) ∙ length-take-le (3 * fields_in (counts_at dim (words s) at)) (drop from s) (omega arith)

  gives_text : GivesText dim s at (numbers_at dim (words s) at) (character_bytes dim s at) (triples_from (fields_in (counts_at dim (words s) at)) 0 dim s at)
  unfolding text_of text_in text_at turn_at origin_at flat_ok
  gives_text =
      let ws = words s in
      let counts = counts_at dim (words s) at in
      let n = length (character_bytes dim s at) + length (triples_from (fields_in (counts_at dim (words s) at)) 0 dim s at) in
      let x = length_characters in
      let y = length_triples in
      let count : length (character_bytes dim s at) + length (triples_from (fields_in (counts_at dim (words s) at)) 0 dim s at) ≡ text_bytes (counts_at dim (words s) at) = omega arith in
      let third : length (triples_from (fields_in (counts_at dim (words s) at)) 0 dim s at) / 3 ≡ fields_in (counts_at dim (words s) at) = omega arith in
      record {
        text = text_at dim ws at;
        read = rw (found, eq-eqb (type_at (words s) at) 17 text) refl;
        shows = record {
          font = refl;
          justification = refl;
          length = refl;
          height = refl;
          turn = by_dims (λ m. turn_at m (words s) (at + 23) ≡ turn_read m (numbers_at m (words s) at)) dim d refl refl;
          origin = by_dims (λ m. origin_at m (words s) at ≡ origin_read m (numbers_at m (words s) at)) dim d refl refl;
          characters = sym length_characters;
          fields = sym length_triples;
          odd = odd_shown dim ws at n count;
          no_third = by_dims (λ m. flat_ok m (numbers_at m (words s) at) ≡ true) dim d refl refl;
          no_odd = odd_none dim ws at n count;
        };
        all_characters = refl;
        all_fields = ap (λ k. triples_from k 0 dim s at) third;
        no_more = ap (field_of dim s at) third ∙ no_field s b at dim found text (fields_in counts) (omega arith);
      }

---- the element

-- what all parts of an element in an accepted file have in common
module _ (dim : ℕ) (s : List ℕ) (at e d m : ℕ) (x : Element) (j : judge_of dim s ≡ accepted_with e d m) (b : Below 256 s) (v : view_of dim s at ≡ Ok x) where
  seen : SeenAt dim s at x
  seen = seen_at dim s at e d m x j v

  dims : dim_ok dim ≡ true
  dims = call_dims dim s (accepted_is dim s e d m j).call

  given : (p : Parts) → fields_of p ≡ fields_at (words s) at → is_kind_of p (type_at (words s) at) ≡ true → is_linked (type_at (words s) at) ≡ true → GivesBody dim s at p → tail_read dim s at p ≡ tail_of p →
      HasParts dim s at
  unfolding element_view
  given p f k linked body tail =
      let long = linked_size dim (words s) at (type_at (words s) at) refl seen.rules.checked.fixed linked in
      record {
        parts = p;
        given = record {
          elements = e;
          deepest = d;
          marker = m;
          judged = j;
          file_bytes = b;
          element = x;
          seen = v;
          written_kind = subst (λ (y : Element). is_kind_of p y.kind ≡ true) seen.is k;
          shows = rw f (subst (λ y. Shows y (fields_at (words s) at)) seen.is (shows_fields (words s) at seen.depth seen.above linked (omega arith)));
          gives_body = body;
          gives_tail = tail;
        };
      }

  points_of : is_written (type_at (words s) at) ≡ true → HasParts dim s at
  points_of k =
      let points = points_from (point_count (words s) at) 0 dim s at in
      let n = fixed_part dim (type_at (words s) at) (points_in dim points) in
      given (with_points (fields_at (words s) at) points (drop (2 * n) (extent_bytes dim s at))) refl k (by_kinds (λ t. is_linked t ≡ true) (type_at (words s) at) k refl refl refl refl)
      (gives_points dim s at seen.found dims) refl

  text_of_lem : type_at (words s) at ≡ 17 → HasParts dim s at
  text_of_lem text =
      let counts = counts_at dim (words s) at in
      let characters = character_bytes dim s at in
      let triples = triples_from (fields_in counts) 0 dim s at in
      let n = text_part dim (counts_of characters triples) in
      let rules = seen.rules.checked in
      let two = leb-true 2 (length (words s) - at) rules.two in
      let size = leb-true (size_at (words s) at) (length (words s) - at) rules.size in
      let least = fixed_least dim (words s) at rules.fixed in
      let part = text_part_is dim (words s) at (sym text) in
      given (with_text (fields_at (words s) at) (numbers_at dim (words s) at) characters triples (drop (2 * n) (extent_bytes dim s at))) refl (eq-eqb (type_at (words s) at) 17 text) (rw text refl)
      (gives_text dim s at seen.found dims b text (omega arith)) refl

pub every_given : EveryGiven
every_given dim s e d m x j b i k = go (view_of dim s x.place) refl ((view_accepts dim s x.place e d m j).0 (x, i, refl))
  where
    by_kind : (y : Element) → view_of dim s x.place ≡ Ok y → (a t : Bool) → is_written (type_at (words s) x.place) ≡ a → eqb (type_at (words s) x.place) 17 ≡ t → (a || t) ≡ true → HasParts dim s x.place
    by_kind y q true t u w h = points_of dim s x.place e d m y j b q u
    by_kind y q false true u w h = text_of_lem dim s x.place e d m y j b q (eqb-true (type_at (words s) x.place) 17 w)
    by_kind y q false false u w h = absurd (false≢true h)

    go : (v : Result Element Refusal) → view_of dim s x.place ≡ v → Accepts v → HasParts dim s x.place
    go (Ok y) q a = by_kind y q (is_written (type_at (words s) x.place)) (eqb (type_at (words s) x.place) 17) refl refl k
    go (Err refusal) q a = absurd a
