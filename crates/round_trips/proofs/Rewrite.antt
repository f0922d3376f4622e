-- Of what a view and the tail give of an element, with a body that stands behind its header, its own words are made again: header,
-- body and tail stand one after another at the element's place, to its end.
use Prim.Native.Nat.{ℕ, ◌+◌, ◌-◌, ◌*◌, ◌/◌, ◌%◌, ◌≤◌}
use mathlib.Core.Path.{◌≡◌, refl, sym, ap, ◌∙◌, subst}
use mathlib.Core.Bool.{true, false}
use mathlib.Core.List.{List, ◌++◌}
use native.Mathlib.Omega.{arith}
use lib.ListN.{length, take, drop, length-drop, take-append-drop}
use lib.Seq.{length-take-le}
use borrow.Author.Tests.{leb-true, eqb-true}
use Rattle.limits.specs.Limits.{dim_ok}
use Rattle.limits.proofs.Dimensions.{call_dims}
use Rattle.words.specs.Words.{words, bytes, Below, word_at}
use Rattle.words.proofs.Laws.{length_bytes, words_bytes, words_drop, words_below}
use Rattle.headers.specs.Header.{type_at, size_at, sizing_at}
use Rattle.kinds.specs.Kinds.{is_header, is_linked, fixed_part}
use Rattle.elements.specs.Rules.{fixed_ok}
use Rattle.elements.specs.Attributes.{linkages_ok}
use Rattle.elements.proofs.Laws.{Checked, fixed_least, linked_size}
use Rattle.grammar.proofs.Stands.{Stands, stands_part, stands_join, stands_right}
use Rattle.grammar.proofs.Local.{fixed_local, linkages_local}
use Rattle.grammar.proofs.Rules.{extent_is}
use Rattle.grammar.proofs.Exact.{accepted_is}
use Rattle.views.specs.declared.Element.{Element}
use Rattle.views.specs.Views.{element_view}
use Rattle.edits.proofs.Bounds.{below_take, below_drop}
use Rattle.fields.specs.Words.{header_words, size_of}
use Rattle.fields.specs.Faults.{fields_ok}
use Rattle.fields.proofs.Bounds.{bounds_ok, by_kinds}
use Rattle.fields.proofs.Element.{Formed, length_header, length_of, size_of_lem}
use Rattle.text_fields.specs.Words.{text_size}
use Rattle.round_trips.specs.Parts.{Parts, with_points, with_text, fields_of, tail_of, is_kind_of, tail_place, size_by, Shows}
use Rattle.round_trips.specs.RoundTrip.{Given}
use Rattle.round_trips.proofs.OwnPoints.{plain_kind}
use Rattle.round_trips.proofs.Extents.{extent_own}
use Rattle.round_trips.proofs.Spans.{stands_at}
use Rattle.round_trips.proofs.Seen.{SeenAt, seen_at}
use Rattle.round_trips.proofs.Fields.{Shown, shown, reserved_zero, header_stands, shown_bounds}
use Rattle.round_trips.proofs.Made.{body_of, words_by}

-- the types that are written may have attributes and are no headers
kind_plain : (p : Parts) (kind : ℕ) → is_kind_of p kind ≡ true → (is_linked kind ≡ true) × (is_header kind ≡ false)
kind_plain (with_points f points tail) kind k = (by_kinds (λ t. is_linked t ≡ true) kind k refl refl refl refl, plain_kind kind k)
kind_plain (with_text f t characters triples tail) kind k = let e = eqb-true kind 17 k in (rw e refl, rw e refl)

size_is : (dim : ℕ) (p : Parts) → size_by dim p ≡ tail_place dim p + length (tail_of p) / 2
unfolding size_of text_size
size_is dim (with_points f points tail) = refl
size_is dim (with_text f t characters triples tail) = refl

---- an element that is given

module _ {dim : ℕ} {s : List ℕ} {at : ℕ} {p : Parts} (g : Given dim s at p) where
  pub view : SeenAt dim s at g.element
  view = seen_at dim s at g.elements g.deepest g.marker g.element g.judged g.seen

  pub small : Below 65536 (words s)
  small = words_below s g.file_bytes

  pub dims : dim_ok dim ≡ true
  dims = call_dims dim s (accepted_is dim s g.elements g.deepest g.marker g.judged).call

  pub kind_is : type_at (words s) at ≡ (fields_of p).kind
  unfolding element_view
  kind_is = ap (λ (x : Element). x.kind) view.is ∙ g.shows.kind

  pub size_seen : size_at (words s) at ≡ g.element.size
  unfolding element_view
  size_seen = ap (λ (x : Element). x.size) view.is

  pub written_kind : is_kind_of p (fields_of p).kind ≡ true
  written_kind = subst (λ t. is_kind_of p t ≡ true) g.shows.kind g.written_kind

  linked : is_linked (type_at (words s) at) ≡ true
  linked = ap is_linked kind_is ∙ (kind_plain p (fields_of p).kind written_kind).0

  -- its rules
  pub rules : Checked dim view.rules.depth view.rules.under (words s) at (length (words s))
  rules = view.rules.checked

  pub ends_by : at + size_at (words s) at ≤ length (words s)
  ends_by =
      let a = leb-true 2 (length (words s) - at) rules.two in
      let b = leb-true (size_at (words s) at) (length (words s) - at) rules.size in
      omega arith

  least : 18 ≤ size_at (words s) at
  least = linked_size dim (words s) at (type_at (words s) at) refl rules.fixed linked

  -- its fields
  fields : Shown (words s) at (fields_of p)
  fields =
      let l = least in
      shown (words s) at view.depth view.above (fields_of p) linked (omega arith)
      (subst (λ x. Shows x (fields_of p)) (sym view.is) g.shows)

  pub fields_right : fields_ok (fields_of p) ≡ true
  fields_right = bounds_ok (fields_of p) (shown_bounds (words s) small at (fields_of p) fields)

  -- its own words
  abbrev part : List ℕ
  part = take (size_at (words s) at) (drop at (words s))

  part_long : length part ≡ size_at (words s) at
  part_long =
      let e = ends_by in
      let d = length-drop at (words s) in
      length-take-le (size_at (words s) at) (drop at (words s)) (omega arith)

  tail_part : tail_of p ≡ drop (2 * tail_place dim p) (bytes part)
  tail_part =
      sym g.gives_tail
      ∙ ap (drop (2 * tail_place dim p))
      (extent_own dim s at g.elements g.deepest g.marker view.end view.depth view.above g.file_bytes g.judged view.found (ap is_header kind_is ∙ (kind_plain p (fields_of p).kind written_kind).1))

  tail_is : words (tail_of p) ≡ drop (tail_place dim p) part
  tail_is =
      let n = tail_place dim p in
      ap words tail_part ∙ words_drop n (bytes part)
      ∙ ap (drop n) (words_bytes part (below_take 65536 (size_at (words s) at) (drop at (words s)) (omega arith) (below_drop 65536 at (words s) small)))

  tail_long : length (tail_of p) ≡ 2 * (size_at (words s) at - tail_place dim p)
  tail_long =
      let n = tail_place dim p in
      let a = length_bytes part in
      let b = part_long in
      ap length tail_part ∙ length-drop (2 * n) (bytes part) ∙ omega arith

  pub tail_even : length (tail_of p) % 2 ≡ 0
  tail_even = let l = tail_long in omega arith

  ---- its fixed part is the one that the tail is read behind

  module _ (fixed_same : fixed_part dim (type_at (words s) at) (sizing_at dim (words s) at) ≡ tail_place dim p) where
    pub fixed_within : tail_place dim p ≤ size_at (words s) at
    fixed_within = let l = fixed_least dim (words s) at rules.fixed in let e = fixed_same in omega arith

    tail_stands : Stands (words (tail_of p)) (at + tail_place dim p) (words s)
    tail_stands =
        let n = tail_place dim p in
        let h = fixed_within in
        let e = ends_by in
        let b = part_long in
        subst (λ l. Stands l (at + n) (words s)) (sym tail_is)
        (subst (λ k. Stands (drop n part) (at + k) (words s)) (length-take-le n part (omega arith))
        (stands_right (take n part) (drop n part) (rw (take-append-drop n part) (stands_part (size_at (words s) at) at (words s) (omega arith)))))

    pub size_again : size_by dim p ≡ size_at (words s) at
    size_again =
        let h = fixed_within in
        let l = tail_long in
        let e = size_is dim p in
        omega arith

    header_again : Stands (header_words (fields_of p) (size_by dim p)) at (words s)
    header_again =
        let l = least in
        let e = ends_by in
        rw size_again (header_stands (words s) small at (fields_of p) fields (reserved_zero (word_at (words s) at) linked rules.reserved) (omega arith))

    ---- and its body stands behind its header

    module _ (formed : Formed dim (fields_of p) (size_by dim p) (body_of dim p) (tail_of p)) (place : 18 + length (body_of dim p) ≡ tail_place dim p) (body : Stands (body_of dim p) (at + 18) (words s)) where
      pub stands_again : Stands (words_by dim p) at (words s)
      stands_again =
          let header = header_words (fields_of p) (size_by dim p) in
          let a = length_header (fields_of p) (size_by dim p) in
          stands_join header (body_of dim p ++ words (tail_of p)) header_again
          (stands_join (body_of dim p) (words (tail_of p)) (stands_at (at + length header) (omega arith) body)
          (stands_at (at + length header + length (body_of dim p)) (omega arith) tail_stands))

      pub small_again : size_by dim p ≤ 65535
      small_again = let e = size_again in let x = (extent_is (words s) at (length (words s) - at) rules.extent).0 in omega arith

      pub linkages_again : linkages_ok dim (words_by dim p) 0 ≡ true
      linkages_again =
          let own = words_by dim p in
          let sized : size_at (words_by dim p) 0 ≡ length (words_by dim p) = size_of_lem formed ∙ sym (length_of formed) in
          let fixed : fixed_ok dim (words_by dim p) 0 ≡ true = sym (fixed_local own (words s) at stands_again sized dim) ∙ rules.fixed in
          sym (linkages_local own (words s) at stands_again sized dim fixed) ∙ rules.linkages
