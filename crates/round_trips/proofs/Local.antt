-- What the reading calls give of the words that a writer makes, where they stand at a place of a file that has an element
-- there: the header fields, the linkages and the tail that were handed in.
use Prim.Native.Nat.{ℕ, ◌+◌, ◌-◌, ◌*◌, ◌/◌, ◌%◌, ◌≤◌, ◌<◌}
use mathlib.Core.Path.{◌≡◌, refl, sym, ap, ◌∙◌}
use mathlib.Core.Bool.{Bool, true, false, cond}
use mathlib.Core.List.{List}
use native.Mathlib.Omega.{arith}
use lib.ListN.{length, take, drop}
use lib.Seq.{drop_at}
use lib.Dec.{eqb, leb}
use lib.IntN.{ℤ}
use lib.Signed.{mag}
use borrow.Author.Tests.{le-leb, leb-true}
use Rattle.std.specs.Prelude.{Ok}
use Rattle.words.specs.Words.{words, bytes, Below, word_at, long_at}
use Rattle.words.proofs.Laws.{length_words, length_bytes, bytes_words, bytes_append}
use Rattle.ranges.specs.Ranges.{coordinate, stored}
use Rattle.ranges.proofs.Ranges.{coordinate_stored}
use Rattle.linkages.specs.Linkages.{linkage_in}
use Rattle.linkages.proofs.Local.{walk_local}
use Rattle.kinds.specs.FirstWord.{level_of, c_of, type_of, deleted_of, bit}
use Rattle.headers.specs.Header.{type_at, size_at, attribute_part_at}
use Rattle.kinds.specs.Kinds.{is_header, is_linked}
use Rattle.grammar.proofs.Stands.{Stands, stands_word, stands_first, stands_right}
use Rattle.places.specs.declared.Above.{Above}
use Rattle.places.specs.Places.{spotted_at}
use Rattle.views.specs.Views.{coordinate_at, range_of, display_of, element_view, view_of}
use Rattle.points_linkages.specs.Linkages.{attribute_by, linkage_of}
use Rattle.fields.specs.Words.{first_word, symbology, header_words, element_of}
use Rattle.fields.specs.Faults.{tail_ok}
use Rattle.fields.specs.declared.Fields.{Fields}
use Rattle.fields.proofs.Bounds.{both, bounds}
use Rattle.fields.proofs.Element.{front, front_tail, length_front, length_of, size_of_lem, kind_of, tail_right}
use Rattle.places.specs.Spotted.{spotted_with}
use Rattle.refusals.specs.Refusals.{refused_with}
use Rattle.views.specs.Display.{display_with}
use Rattle.views.specs.Range.{longs_with}
use Rattle.round_trips.specs.Parts.{Shows, linkage_moved, linkage_by}
use Rattle.round_trips.proofs.Own.{Owned, first_read, symbology_read}
use Rattle.round_trips.proofs.Walks.{in_from, moved_by}

same_range : {a b c d e f a' b' c' d' e' f' : ℤ} → a ≡ a' → b ≡ b' → c ≡ c' → d ≡ d' → e ≡ e' → f ≡ f' → longs_with a b c d e f ≡ longs_with a' b' c' d' e' f'
same_range p q r s t u = cc

same_display : {a b c d e f a' b' c' d' e' f' : ℕ} → a ≡ a' → b ≡ b' → c ≡ c' → d ≡ d' → e ≡ e' → f ≡ f' → display_with a b c d e f ≡ display_with a' b' c' d' e' f'
same_display p q r s t u = cc

long_whole : (v : ℕ) → 65536 * (v / 65536) + v % 65536 ≡ v
long_whole v = omega arith

bit_is : (b : Bool) → eqb (bit b) 1 ≡ b
bit_is true = refl
bit_is false = refl

pub shown_above : (ws : List ℕ) (at depth : ℕ) (above : Above) → (element_view ws at depth above).above ≡ above
unfolding element_view
shown_above ws at depth above = refl

module _ {dim : ℕ} {f : Fields} {size : ℕ} {body tail : List ℕ} (o : Owned dim f size body tail)
    {ws : List ℕ} {at : ℕ} (stands : Stands (element_of f size body tail) at ws) where
  long : 19 ≤ length (element_of f size body tail)
  long = let e = length_of o.formed in let l = o.formed.long in let m = o.more in omega arith

  pub word_there : (i : ℕ) → i < 19 → word_at ws (at + i) ≡ word_at (element_of f size body tail) i
  word_there i h = let l = long in stands_word stands i (omega arith)

  long_there : (i : ℕ) → i < 18 → long_at ws (at + i) ≡ long_at (element_of f size body tail) i
  long_there i h =
      let e : at + i + 1 ≡ at + (i + 1) = omega arith in
      let high = word_there i (omega arith) in
      let low = ap (word_at ws) e ∙ word_there (i + 1) (omega arith) in
      omega arith

  -- a coordinate of the range
  coordinate_there : (i : ℕ) (z : ℤ) → i < 18 → long_at (element_of f size body tail) i ≡ stored z → mag z < 2147483648 → coordinate_at ws (at + i) ≡ z
  coordinate_there i z h e m = ap coordinate (long_there i h ∙ e) ∙ coordinate_stored z m

  first_there : word_at ws at ≡ first_word f
  unfolding header_words
  first_there = let l = long in stands_first stands (omega arith)

  pub type_there : type_at ws at ≡ f.kind
  type_there = let l = long in ap type_of (stands_first stands (omega arith)) ∙ kind_of o.formed

  pub plain_there : is_header (type_at ws at) ≡ false
  plain_there = ap is_header type_there ∙ o.plain

  size_there : size_at ws at ≡ size
  size_there = ap (λ n. n + 2) (word_there 1 (omega arith)) ∙ size_of_lem o.formed

  range_there : range_of ws at ≡ longs_with f.low_x f.low_y f.low_z f.high_x f.high_y f.high_z
  unfolding range_of header_words
  range_there =
      let l = o.formed.long in
      let r = (bounds f o.formed.fields).range in
      rw (size_there, le-leb 14 size (omega arith))
      (same_range (coordinate_there 2 f.low_x (omega arith) (long_whole (stored f.low_x)) r.0)
      (coordinate_there 4 f.low_y (omega arith) (long_whole (stored f.low_y)) r.1.0)
      (coordinate_there 6 f.low_z (omega arith) (long_whole (stored f.low_z)) r.1.1.0)
      (coordinate_there 8 f.high_x (omega arith) (long_whole (stored f.high_x)) r.1.1.1.0)
      (coordinate_there 10 f.high_y (omega arith) (long_whole (stored f.high_y)) r.1.1.1.1.0)
      (coordinate_there 12 f.high_z (omega arith) (long_whole (stored f.high_z)) r.1.1.1.1.1.0))

  linked_there : is_linked (type_at ws at) ≡ true
  linked_there = ap is_linked type_there ∙ o.formed.linked

  display_there : display_of ws at ≡ display_with f.group f.index f.properties f.style f.weight f.colour
  unfolding display_of header_words
  display_there =
      let r = symbology_read o.formed in
      let v : word_at ws (at + 17) ≡ symbology f = word_there 17 (omega arith) in
      rw linked_there
      (same_display (word_there 14 (omega arith)) (word_there 15 (omega arith)) (word_there 16 (omega arith))
      (ap (λ n. n % 8) v ∙ r.style) (ap (λ n. n / 8 % 32) v ∙ r.weight) (ap (λ n. n / 256) v ∙ r.colour))

  pub shown : (depth : ℕ) (above : Above) → Shows (element_view ws at depth above) f
  unfolding element_view
  shown depth above =
      let r = first_read o.formed in
      record {
        level = ap level_of first_there ∙ r.level;
        c = ap (λ n. eqb (c_of n) 1) first_there ∙ ap (λ n. eqb n 1) r.c ∙ bit_is f.c;
        kind = type_there;
        deleted = ap (λ n. eqb (deleted_of n) 1) first_there ∙ ap (λ n. eqb n 1) r.deleted ∙ bit_is f.deleted;
        range = range_there;
        display = display_there;
      }

  pub shown_size : (depth : ℕ) (above : Above) → (element_view ws at depth above).size ≡ size
  unfolding element_view
  shown_size depth above = size_there

  ---- the tail

  tail_stands : Stands (words tail) (at + (18 + length body)) ws
  tail_stands =
      rw (← length_front o.formed)
      (stands_right (front f size body) (words tail) (rw (front_tail o.formed) at stands))

  -- the own words are the element's, and their bytes after the fixed part are the tail
  own_there : take (size_at ws at) (drop at ws) ≡ element_of f size body tail
  own_there = ap (λ n. take n (drop at ws)) (size_there ∙ sym (length_of o.formed)) ∙ stands.is

  pub tail_there : Below 256 tail → drop (2 * (18 + length body)) (bytes (take (size_at ws at) (drop at ws))) ≡ tail
  tail_there b =
      let before = front f size body in
      let n = length_front o.formed in
      let l = length_bytes before in
      let even = o.even in
      ap (λ x. drop (2 * (18 + length body)) (bytes x)) (own_there ∙ front_tail o.formed)
      ∙ ap (drop (2 * (18 + length body))) (bytes_append before (words tail))
      ∙ drop_at (bytes before) (bytes (words tail)) (2 * (18 + length body)) (omega arith)
      ∙ bytes_words tail (length tail / 2) (omega arith) b

---- the attribute part

-- with A set it is in the tail
module _ {dim : ℕ} {f : Fields} {size : ℕ} {body tail : List ℕ} (o : Owned dim f size body tail) (a : eqb (f.properties / 2048 % 2) 1 ≡ true) where
  part_within : (18 + length body ≤ 16 + f.index) × (16 + f.index - (18 + length body) ≤ length tail / 2)
  unfolding tail_ok
  part_within =
      let ok = rw a at (tail_right o.formed ∙ o.linkages) in
      let b = both (leb (2 + length body) f.index) _ ok in
      let early = leb-true (2 + length body) f.index b.0 in
      let late = leb-true (f.index - (2 + length body)) (length tail / 2) (both (leb (f.index - (2 + length body)) (length tail / 2)) _ b.1).0 in
      (omega arith, omega arith)

---- in a file whose list of elements has one at the place

module _ {dim : ℕ} {f : Fields} {size : ℕ} {body tail : List ℕ} (o : Owned dim f size body tail)
    (s : List ℕ) {at : ℕ} (stands : Stands (element_of f size body tail) at (words s))
    {end depth : ℕ} {above : Above} (found : spotted_at dim s at ≡ spotted_with end depth above) where
  pub seen : view_of dim s at ≡ Ok (element_view (words s) at depth above)
  unfolding view_of
  seen = rw found refl

  -- the linkages of the attribute part are those of the tail
  walked : eqb (f.properties / 2048 % 2) 1 ≡ true → (k : ℕ) →
      attribute_by (linkage_in (words s) (at + attribute_part_at (words s) at) (at + size_at (words s) at) k)
      ≡ linkage_moved (at + (18 + length body)) (linkage_in (words tail) (16 + f.index - (18 + length body)) (length tail / 2) k)
  unfolding header_words
  walked a k =
      let from = at + (18 + length body) in
      let start = 16 + f.index - (18 + length body) in
      let h = (part_within o a).0 in
      let l = (part_within o a).1 in
      let index : word_at (words s) (at + 15) ≡ f.index = word_there o stands 15 (omega arith) in
      let size = size_there o stands in
      let whole = o.formed.long in
      let n = length_words tail in
      let b : at + attribute_part_at (words s) at ≡ from + start = omega arith in
      let e : at + size_at (words s) at ≡ from + start + (length tail / 2 - start) = omega arith in
      let same : (i : ℕ) → i < length tail / 2 - start → word_at (words tail) (start + i) ≡ word_at (words s) (from + start + i) =
      λ i lt. let q : from + start + i ≡ from + (start + i) = omega arith in
      sym (ap (word_at (words s)) q ∙ stands_word (tail_stands o stands) (start + i) (omega arith)) in
      ap attribute_by (ap (λ p. linkage_in (words s) p (at + size_at (words s) at) k) b ∙ ap (λ p. linkage_in (words s) (from + start) p k) e
      ∙ sym (walk_local (words tail) (words s) start (length tail / 2) (from + start) k l same))
      ∙ moved_by from start (linkage_in (words tail) start (length tail / 2) k) (in_from (words tail) start (length tail / 2) k)

  pub linkages_given : (k : ℕ) → linkage_of dim s at k ≡ linkage_by f (18 + length body) tail at k
  unfolding linkage_of linkage_by header_words
  linkages_given k = rw (found, linked_there o stands, word_there o stands 16 (omega arith)) (go (eqb (f.properties / 2048 % 2) 1) refl)
    where
      go : (b : Bool) → eqb (f.properties / 2048 % 2) 1 ≡ b →
          cond b (attribute_by (linkage_in (words s) (at + attribute_part_at (words s) at) (at + size_at (words s) at) k)) (refused_with 13 0)
          ≡ cond b (linkage_moved (at + (18 + length body)) (linkage_in (words tail) (16 + f.index - (18 + length body)) (length tail / 2) k)) (refused_with 13 0)
      go false e = refl
      go true e = walked e k
