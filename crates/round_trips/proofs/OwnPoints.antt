-- The words of an element with points, by themselves: their body is N and the longs of the coordinates, and they pass the rules
-- of their type.
use Prim.Native.Nat.{ℕ, ◌+◌}
use mathlib.Core.Path.{◌≡◌, refl}
use mathlib.Core.Bool.{Bool, true, false, not, ◌||◌}
use mathlib.Core.List.{List, map}
use native.Mathlib.Omega.{arith}
use lib.ListN.{length}
use lib.IntN.{ℤ}
use lib.Dec.{eqb, leb}
use borrow.Author.Tests.{le-leb}
use Rattle.words.specs.Words.{Below, word_at, unsigned}
use Rattle.headers.specs.Header.{type_at, size_at, points_at}
use Rattle.kinds.specs.Kinds.{is_header, is_curve, is_pointed, is_sized, sizing_word, points_within, fixed_part}
use Rattle.elements.specs.Rules.{fixed_ok, text_fields_ok}
use Rattle.elements.proofs.Laws.{fields_none}
use Rattle.edits.proofs.Tests.{both_and, or_right}
use Rattle.edits.proofs.Bounds.{below_append}
use Rattle.fields.specs.Words.{longs, header_words, count_words, points_in, size_of, point_words, element_words}
use Rattle.fields.specs.Faults.{is_written, point_number_ok}
use Rattle.fields.specs.declared.Fields.{Fields}
use Rattle.fields.proofs.Bounds.{by_kinds, count_small, fixed_least}
use Rattle.fields.proofs.Element.{formed, length_body, size_least, size_at_lem, kind_at, fixed_at}
use Rattle.fields.proofs.Writable.{Writable}
use Rattle.round_trips.specs.RoundTrip.{Longs}
use Rattle.round_trips.proofs.Own.{below_longs, each_long, below_count, Owned}

-- the types with points are no headers, and word 18 sizes their fixed part where one does
pub plain_kind : (kind : ℕ) → is_written kind ≡ true → is_header kind ≡ false
plain_kind kind k = by_kinds (λ t. is_header t ≡ false) kind k refl refl refl refl

pub sizing_at_lem : (dim kind : ℕ) → is_written kind ≡ true → sizing_word dim kind ≡ 18
sizing_at_lem dim kind k = by_kinds (λ t. sizing_word dim t ≡ 18) kind k refl refl refl refl

module _ {dim : ℕ} {f : Fields} {ps : List ℤ} {tail : List ℕ} {room : ℕ} (w : Writable dim f ps tail room) where
  pub points_below : Longs ps → Below 65536 (point_words dim f.kind ps)
  points_below l =
      let c = w.call in
      let n = count_small dim f.kind (length ps) c.dims c.kind c.fit w.count in
      below_append 65536 (count_words f.kind (points_in dim ps)) (longs (map unsigned ps)) (below_count f.kind (points_in dim ps) (omega arith))
      (below_longs (map unsigned ps) (each_long ps l))

  -- N is in word 18 of the types that have it
  points_at_lem : is_pointed f.kind ≡ true → points_at (element_words dim f ps tail) 0 ≡ points_in dim ps
  unfolding element_words header_words
  points_at_lem e = rw e refl

  fixed_ok_lem : fixed_ok dim (element_words dim f ps tail) 0 ≡ true
  unfolding fixed_ok point_number_ok size_of
  fixed_ok_lem = rw kind (both_and (or_right (not (is_sized f.kind)) sized) (both_and (points (is_pointed f.kind) refl w.count) long))
    where
      kind : type_at (element_words dim f ps tail) 0 ≡ f.kind
      kind = kind_at dim f ps tail w.call

      sized : leb (sizing_word dim f.kind + 1) (size_at (element_words dim f ps tail) 0) ≡ true
      sized =
          let e = sizing_at_lem dim f.kind w.call.kind in
          let s = size_at_lem dim f ps tail w.call in
          let l = size_least dim f ps tail w.call in
          le-leb (sizing_word dim f.kind + 1) (size_at (element_words dim f ps tail) 0) (omega arith)

      points : (b : Bool) → is_pointed f.kind ≡ b → (not b || points_within (points_in dim ps)) ≡ true → (not b || points_within (points_at (element_words dim f ps tail) 0)) ≡ true
      points true e n = rw (points_at_lem e) n
      points false e n = refl

      long : leb (fixed_part dim f.kind (word_at (element_words dim f ps tail) (0 + sizing_word dim f.kind))) (size_at (element_words dim f ps tail) 0) ≡ true
      long =
          let e = rw kind at (fixed_at dim f ps tail w.call) in
          let s = size_at_lem dim f ps tail w.call in
          le-leb _ (size_at (element_words dim f ps tail) 0) (omega arith)

  -- what is written here is no text
  fields_ok_lem : text_fields_ok dim (element_words dim f ps tail) 0 ≡ true
  fields_ok_lem =
      fields_none dim (element_words dim f ps tail) 0
      (rw (kind_at dim f ps tail w.call) (by_kinds (λ t. eqb t 17 ≡ false) f.kind w.call.kind refl refl refl refl))

  pub owned_points : Owned dim f (size_of dim f ps tail) (point_words dim f.kind ps) tail
  unfolding element_words
  owned_points = record {
    formed = formed dim f ps tail w.call;
    even = w.call.even;
    more =
        let c = w.call in
        let l = fixed_least dim f.kind (length ps) c.dims c.kind c.fit in
        let b = length_body dim f ps tail w.call in
        omega arith;
    plain = plain_kind f.kind w.call.kind;
    unfloated = by_kinds (λ t. is_curve t ≡ false) f.kind w.call.kind refl refl refl refl;
    fixed = fixed_ok_lem;
    fields = fields_ok_lem;
    small = w.size;
    linkages = w.linkages;
  }
