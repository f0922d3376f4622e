-- Own words that differ from an element's only in words that none of its rules reads are an element's own words again,
-- with the extent, name and count that they say.
use Prim.Native.Nat.{ℕ, ◌+◌, ◌-◌, ◌≤◌}
use mathlib.Core.Path.{◌≡◌, refl, sym, ap, ap₂, ◌∙◌}
use mathlib.Core.Bool.{Bool, true, false, not, ◌&&◌, ◌||◌, and-eq-true_iff}
use mathlib.Core.List.{List}
use native.Mathlib.Omega.{arith}
use lib.ListN.{length}
use lib.Dec.{eqb, leb}
use borrow.Author.Tests.{le-leb, leb-true, eqb-true}
use Rattle.words.specs.Words.{word_at}
use Rattle.linkages.specs.Linkages.{linkages_fill}
use Rattle.linkages.proofs.Local.{fill_local}
use Rattle.texts.specs.Texts.{fields_ok}
use Rattle.texts.proofs.Laws.{counts_late, text_same}
use Rattle.curves.specs.Curves.{floats_ok}
use Rattle.curves.proofs.Laws.{floats_same}
use Rattle.kinds.specs.FirstWord.{reserved_of, c_of}
use Rattle.headers.specs.Header.{type_at, size_at, sizing_at, attributes_at, attribute_part_at}
use Rattle.kinds.specs.Kinds.{is_header, is_pointed, is_sized, sizing_word, points_within, is_curve, is_linked, fixed_part}
use Rattle.elements.specs.Attributes.{has_attributes, attributes_ok, linkages_ok}
use Rattle.headers.specs.Flags.{reserved_ok, place_ok}
use Rattle.elements.specs.Rules.{sized_ok, points_ok, fixed_ok, text_fields_ok, curve_floats_ok, stored_name_ok, count_ok}
use Rattle.grammar.proofs.Tests.{OwnTests, Extent}
use Rattle.kinds.proofs.Types.{fixed_any, sizing_late, pointed_sized, sized_simple, CurveType, curve_type}
use Rattle.edits.proofs.Tests.{both_and, rule_of, of_rule}

-- own' has the length of own and the words that the rules read: those of the first two, for a type that is no header all
-- from word 18 on, and for a type with attributes words 15, 16 and all from the fixed part's end on
pub record Alike (dim : ℕ) (own own' : List ℕ) : Type 0 where
  pub long : length own' ≡ length own
  pub type : type_at own' 0 ≡ type_at own 0
  pub reserved : reserved_of (word_at own' 0) ≡ reserved_of (word_at own 0)
  pub c : c_of (word_at own' 0) ≡ c_of (word_at own 0)
  pub follow : word_at own' 1 ≡ word_at own 1
  pub simple : is_header (type_at own 0) ≡ false → (i : ℕ) → 18 ≤ i → word_at own' i ≡ word_at own i
  pub index : is_linked (type_at own 0) ≡ true → word_at own' 15 ≡ word_at own 15
  pub properties : is_linked (type_at own 0) ≡ true → word_at own' 16 ≡ word_at own 16
  pub tail : is_linked (type_at own 0) ≡ true → (i : ℕ) → fixed_part dim (type_at own 0) (sizing_at dim own 0) ≤ i → word_at own' i ≡ word_at own i

-- the parts of rule 11
attribute_parts : (dim : ℕ) (own : List ℕ) → attributes_ok dim own 0 ≡ true →
    (fixed_part dim (type_at own 0) (sizing_at dim own 0) ≤ attribute_part_at own 0) × (attribute_part_at own 0 ≤ size_at own 0)
    × (linkages_fill own (0 + attribute_part_at own 0) (0 + size_at own 0) ≡ true)
unfolding attributes_ok
attribute_parts dim own e =
    let x = fixed_part dim (type_at own 0) (sizing_at dim own 0) in
    let y = attribute_part_at own 0 in
    let z = size_at own 0 in
    let fill = linkages_fill own (0 + y) (0 + z) in
    let p = (and-eq-true_iff (leb x y) (leb y z && fill)).0 e in
    let q = (and-eq-true_iff (leb y z) fill).0 p.1 in
    (leb-true x y p.0, leb-true y z q.0, q.1)

parts_attribute : (dim : ℕ) (own : List ℕ) → fixed_part dim (type_at own 0) (sizing_at dim own 0) ≤ attribute_part_at own 0 → attribute_part_at own 0 ≤ size_at own 0 →
    linkages_fill own (0 + attribute_part_at own 0) (0 + size_at own 0) ≡ true → attributes_ok dim own 0 ≡ true
unfolding attributes_ok
parts_attribute dim own p q f = both_and (le-leb _ _ p) (both_and (le-leb _ _ q) f)

module _ {dim : ℕ} {own own' : List ℕ} (a : Alike dim own own') where
  -- the word that sizes a fixed part
  sizing_same : is_sized (type_at own 0) ≡ true → word_at own' (0 + sizing_word dim (type_at own 0)) ≡ sizing_at dim own 0
  sizing_same e = let l = sizing_late dim (type_at own 0) in a.simple (sized_simple (type_at own 0) e) (0 + sizing_word dim (type_at own 0)) (omega arith)

  fixed_same : fixed_part dim (type_at own' 0) (sizing_at dim own' 0) ≡ fixed_part dim (type_at own 0) (sizing_at dim own 0)
  fixed_same = rw a.type (go (is_sized (type_at own 0)) refl)
    where
      go : (b : Bool) → is_sized (type_at own 0) ≡ b → fixed_part dim (type_at own 0) (word_at own' (0 + sizing_word dim (type_at own 0))) ≡ fixed_part dim (type_at own 0) (sizing_at dim own 0)
      go true e = ap (fixed_part dim (type_at own 0)) (sizing_same e)
      go false e = fixed_any dim (type_at own 0) _ _ e

  size_same : size_at own' 0 ≡ size_at own 0
  size_same = ap (λ w. w + 2) a.follow

  reserved_alike : reserved_ok (word_at own 0) ≡ true → reserved_ok (word_at own' 0) ≡ true
  unfolding reserved_ok
  reserved_alike e = rw (a.type, a.reserved) e

  place_alike : (depth : ℕ) → place_ok depth (word_at own 0) ≡ true → place_ok depth (word_at own' 0) ≡ true
  unfolding place_ok
  place_alike depth e = rw (a.type, a.c) e

  sized_same : sized_ok dim own' 0 ≡ sized_ok dim own 0
  sized_same = rw (a.type, a.follow)

  points_same : points_ok own' 0 ≡ points_ok own 0
  points_same = rw a.type (go (is_pointed (type_at own 0)) refl)
    where
      go : (b : Bool) → is_pointed (type_at own 0) ≡ b → (not b || points_within (word_at own' 18)) ≡ (not b || points_within (word_at own 18))
      go true e = ap points_within (a.simple (sized_simple (type_at own 0) (pointed_sized dim (type_at own 0) e).0) 18 (omega arith))
      go false e = refl

  fixed_alike : fixed_ok dim own' 0 ≡ fixed_ok dim own 0
  unfolding fixed_ok
  fixed_alike = ap₂ ◌&&◌ sized_same (ap₂ ◌&&◌ points_same (ap₂ leb fixed_same size_same))

  fields_alike : text_fields_ok dim own' 0 ≡ text_fields_ok dim own 0
  unfolding text_fields_ok
  fields_alike = rw a.type (go (eqb (type_at own 0) 17) refl)
    where
      go : (b : Bool) → eqb (type_at own 0) 17 ≡ b → (not b || fields_ok dim own' 0) ≡ (not b || fields_ok dim own 0)
      go true e =
          let t : is_header (type_at own 0) ≡ false = rw (eqb-true (type_at own 0) 17 e) refl in
          text_same dim own' own 0 0 (λ i h _. let l = counts_late dim in a.simple t (0 + i) (omega arith))
      go false e = refl

  floats_alike : curve_floats_ok dim own' 0 ≡ curve_floats_ok dim own 0
  unfolding curve_floats_ok
  floats_alike = rw a.type (go (is_curve (type_at own 0)) refl)
    where
      go : (b : Bool) → is_curve (type_at own 0) ≡ b → (not b || floats_ok dim (type_at own 0) own' 0) ≡ (not b || floats_ok dim (type_at own 0) own 0)
      go true e = floats_same dim (type_at own 0) own' own 0 0 (λ i h _. a.simple (curve_type (type_at own 0) e).simple (0 + i) (omega arith))
      go false e = refl

  -- where the attribute part begins and ends, and between, the words are the same
  fill_alike : is_linked (type_at own 0) ≡ true → attributes_ok dim own 0 ≡ true → attributes_ok dim own' 0 ≡ true
  fill_alike t e =
      let p = attribute_parts dim own e in
      let from = p.0 in
      let to = p.1 in
      let part : attribute_part_at own' 0 ≡ attribute_part_at own 0 = ap (λ w. 16 + w) (a.index t) in
      let x = 0 + attribute_part_at own 0 in
      let y = 0 + size_at own 0 in
      let back : x + (y - x) ≡ y = omega arith in
      let same : linkages_fill own' x y ≡ linkages_fill own x (x + (y - x)) = fill_local own' own x y x (omega arith) (λ i h. a.tail t (x + i) (omega arith)) in
      parts_attribute dim own' (rw (fixed_same, part) from) (rw (part, size_same) to) (rw (part, size_same) (same ∙ ap (linkages_fill own x) back ∙ p.2))

  linkages_alike : linkages_ok dim own 0 ≡ true → linkages_ok dim own' 0 ≡ true
  unfolding linkages_ok
  linkages_alike e = of_rule (has_attributes own' 0) (attributes_ok dim own' 0) go
    where
      go : has_attributes own' 0 ≡ true → attributes_ok dim own' 0 ≡ true
      go h =
          let p = (and-eq-true_iff (is_linked (type_at own' 0)) (attributes_at own' 0)).0 h in
          let t : is_linked (type_at own 0) ≡ true = rw a.type at p.0 in
          let w : attributes_at own 0 ≡ true = rw (a.properties t) at p.1 in
          fill_alike t (rule_of (has_attributes own 0) (attributes_ok dim own 0) e (both_and t w))

  pub own_alike : {depth under inside n : ℕ} (inside' n' : ℕ) → OwnTests dim depth under own inside n →
      Extent (is_header (type_at own' 0)) own' inside' n' → stored_name_ok own' 0 ≡ true → count_ok own' 0 n' ≡ true → OwnTests dim depth under own' inside' n'
  own_alike {depth} inside' n' o x m k = record {
    size = size_same ∙ o.size ∙ sym a.long;
    reserved = reserved_alike o.reserved;
    place = place_alike depth o.place;
    deep = o.deep;
    kind = rw a.type o.kind;
    fixed = fixed_alike ∙ o.fixed;
    fields = fields_alike ∙ o.fields;
    small = rw a.long o.small;
    extent = x;
    linkages = linkages_alike o.linkages;
    floats = floats_alike ∙ o.floats;
    name = m;
    count = k;
  }
