-- The tests of one element read its own words alone: where these words stand at a place, each test at that place is the
-- test of the words themselves. A type's fixed part says which words are inside.
use Prim.Native.Nat.{ℕ, ◌+◌, ◌≤◌, ◌<◌}
use mathlib.Core.Path.{◌≡◌, refl, sym, ap, ap₂, ◌∙◌}
use mathlib.Core.Bool.{Bool, true, false, not, ◌&&◌, ◌||◌}
use mathlib.Core.List.{List}
use native.Mathlib.Nat.{zero-add}
use native.Mathlib.Omega.{arith}
use lib.ListN.{length}
use lib.Dec.{eqb, leb}
use borrow.Author.Tests.{leb-true, eqb-true}
use Rattle.words.specs.Words.{word_at}
use Rattle.names.specs.Names.{name_ok}
use Rattle.linkages.specs.Linkages.{linkages_fill}
use Rattle.texts.proofs.Laws.{text_same}
use Rattle.curves.proofs.Laws.{floats_same}
use Rattle.kinds.specs.FirstWord.{type_of}
use Rattle.headers.specs.Header.{type_at, size_at, sizing_at, extent_at, attributes_at, attribute_part_at}
use Rattle.kinds.specs.Kinds.{is_header, is_counted, is_pointed, is_sized, sizing_word, is_curve, is_linked, is_cell, name_word, fixed_part, points_within}
use Rattle.headers.proofs.Laws.{own_first, own_second}
use Rattle.elements.specs.Attributes.{attributes_ok, linkages_ok}
use Rattle.elements.specs.Rules.{fixed_ok, text_fields_ok, curve_floats_ok, stored_name_ok, count_ok}
use Rattle.grammar.proofs.Stands.{Stands, stands_word, stands_first}
use Rattle.kinds.proofs.Types.{header_long, linked_long, sized_long, pointed_sized, unsized_pointless, fixed_any, name_early}
use Rattle.elements.proofs.Laws.{fixed_least, text_part_is, curve_end}
use Rattle.grammar.proofs.Types.{counted_header, cell_long}
use Rattle.linkages.proofs.Local.{fill_local}

---- a test that is asked only where another holds

where_same : (b : Bool) {x y : Bool} → (b ≡ true → x ≡ y) → (not b || x) ≡ (not b || y)
where_same true h = h refl
where_same false h = refl

and_where_same : (b : Bool) {x y : Bool} → (b ≡ true → x ≡ y) → (b && x) ≡ (b && y)
and_where_same true h = h refl
and_where_same false h = refl

-- the test of the fixed part needs the word that sizes it, and N, only of a type that has one, and only where the element
-- reaches past it
module _ (dim t size p q m n : ℕ) (points : 18 < size → p ≡ q) (sizing : sizing_word dim t < size → m ≡ n) where
  fixed_by :
      ((not (is_sized t) || leb (sizing_word dim t + 1) size) && ((not (is_pointed t) || points_within p) && leb (fixed_part dim t m) size))
      ≡ ((not (is_sized t) || leb (sizing_word dim t + 1) size) && ((not (is_pointed t) || points_within q) && leb (fixed_part dim t n) size))
  fixed_by = go (is_sized t) refl (leb (sizing_word dim t + 1) size) refl
    where
      go : (b : Bool) → is_sized t ≡ b → (c : Bool) → leb (sizing_word dim t + 1) size ≡ c →
          ((not b || c) && ((not (is_pointed t) || points_within p) && leb (fixed_part dim t m) size)) ≡ ((not b || c) && ((not (is_pointed t) || points_within q) && leb (fixed_part dim t n) size))
      go false e c f = rw (unsized_pointless t e, fixed_any dim t m n e) refl
      go true e false f = refl
      go true e true f =
          let l = leb-true (sizing_word dim t + 1) size f in
          ap₂ ◌&&◌ (where_same (is_pointed t) (λ h. let w = (pointed_sized dim t h).1 in ap points_within (points (omega arith)))) (ap (λ x. leb (fixed_part dim t x) size) (sizing (omega arith)))

module _ (own ws : List ℕ) (at : ℕ) (s : Stands own at ws) (size : size_at own 0 ≡ length own) where
  pub type_local : type_at ws at ≡ type_at own 0
  type_local = ap type_of (stands_first s (omega arith))

  pub size_local : size_at ws at ≡ length own
  size_local = ap (λ w. w + 2) (stands_word s 1 (omega arith)) ∙ size

  pub first_local : word_at ws at ≡ word_at own 0
  first_local = stands_first s (omega arith)

  -- word i of the element, there and of the words alone
  word_local : (i : ℕ) → i < length own → word_at ws (at + i) ≡ word_at own (0 + i)
  word_local i h = stands_word s i h ∙ ap (word_at own) (sym (zero-add i))

  pub fixed_local : (dim : ℕ) → fixed_ok dim ws at ≡ fixed_ok dim own 0
  unfolding fixed_ok
  fixed_local dim = rw (type_local, size_local, size) (fixed_by dim (type_at own 0) (length own) _ _ _ _ (word_local 18) (word_local (sizing_word dim (type_at own 0))))

  ---- of an element that is not shorter than its fixed part

  module _ (dim : ℕ) (fixed : fixed_ok dim own 0 ≡ true) where
    -- it has as many words as its type's fixed part has at least
    own_long : {m : ℕ} → m ≤ fixed_part dim (type_at own 0) (sizing_at dim own 0) → m ≤ length own
    own_long h = let b = fixed_least dim own 0 fixed in omega arith

    own_header : is_header (type_at own 0) ≡ true → 20 ≤ length own
    own_header h = own_long (header_long dim (type_at own 0) (sizing_at dim own 0) h)

    own_linked : is_linked (type_at own 0) ≡ true → 18 ≤ length own
    own_linked h = own_long (linked_long dim (type_at own 0) (sizing_at dim own 0) h)

    own_cell : is_cell (type_at own 0) ≡ true → 21 ≤ length own
    own_cell h = own_long (cell_long dim (type_at own 0) (sizing_at dim own 0) h)

    pub extent_local : is_header (type_at own 0) ≡ true → extent_at ws at ≡ extent_at own 0
    extent_local h = let l = own_header h in ap (λ w. 19 + w) (stands_word s 18 (omega arith))

    pub count_local : (n : ℕ) → count_ok ws at n ≡ count_ok own 0 n
    unfolding count_ok
    count_local n =
        rw type_local (where_same (is_counted (type_at own 0)) (λ h.
        let l = own_header (counted_header (type_at own 0) h) in
        ap (λ w. eqb w n) (stands_word s 19 (omega arith))))

    pub name_local : stored_name_ok ws at ≡ stored_name_ok own 0
    unfolding stored_name_ok
    name_local =
        let t = type_at own 0 in
        rw type_local (where_same (is_cell t) (λ h.
        let l = own_cell h in
        let e = name_early t in
        ap₂ name_ok (stands_word s (name_word t) (omega arith) ∙ sym (own_first own)) (ap (word_at ws) (omega arith) ∙ stands_word s (name_word t + 1) (omega arith) ∙ sym (own_second own))))

    fixed_part_local : fixed_part dim (type_at own 0) (word_at ws (at + sizing_word dim (type_at own 0))) ≡ fixed_part dim (type_at own 0) (sizing_at dim own 0)
    fixed_part_local = go (is_sized (type_at own 0)) refl
      where
        go : (b : Bool) → is_sized (type_at own 0) ≡ b → fixed_part dim (type_at own 0) (word_at ws (at + sizing_word dim (type_at own 0))) ≡ fixed_part dim (type_at own 0) (sizing_at dim own 0)
        go true e = ap (fixed_part dim (type_at own 0)) (word_local (sizing_word dim (type_at own 0)) (own_long (sized_long dim (type_at own 0) (sizing_at dim own 0) e)))
        go false e = fixed_any dim (type_at own 0) _ _ e

    pub fields_local : text_fields_ok dim ws at ≡ text_fields_ok dim own 0
    unfolding text_fields_ok
    fields_local =
        rw type_local (where_same (eqb (type_at own 0) 17) (λ h.
        let part = text_part_is dim own 0 (sym (eqb-true (type_at own 0) 17 h)) in
        text_same dim ws own at 0 (λ i _ l. word_local i (own_long (omega arith)))))

    pub floats_local : curve_floats_ok dim ws at ≡ curve_floats_ok dim own 0
    unfolding curve_floats_ok
    floats_local =
        rw type_local (where_same (is_curve (type_at own 0)) (λ h.
        let last = curve_end dim (type_at own 0) (sizing_at dim own 0) h in
        floats_same dim (type_at own 0) ws own at 0 (λ i _ l. word_local i (own_long (omega arith)))))

    filled_local : (a : ℕ) → a ≤ length own → linkages_fill ws (at + a) (at + length own) ≡ linkages_fill own (0 + a) (0 + length own)
    filled_local a h =
        fill_local ws own (at + a) (at + length own) (0 + a) (omega arith)
        (λ i l. ap (word_at ws) (omega arith) ∙ stands_word s (a + i) (omega arith) ∙ ap (word_at own) (omega arith))
        ∙ ap (linkages_fill own (0 + a)) (omega arith)

    attributes_local : is_linked (type_at own 0) ≡ true → attributes_ok dim ws at ≡ attributes_ok dim own 0
    unfolding attributes_ok
    attributes_local h =
        let l = own_linked h in
        let p = attribute_part_at own 0 in
        rw (type_local, size_local, size, fixed_part_local, stands_word s 15 (omega arith))
        (ap (λ c. leb (fixed_part dim (type_at own 0) (sizing_at dim own 0)) p && c)
        (and_where_same (leb p (length own)) (λ e. filled_local p (leb-true p (length own) e))))

    pub linkages_local : linkages_ok dim ws at ≡ linkages_ok dim own 0
    unfolding linkages_ok
    linkages_local = rw type_local (go (is_linked (type_at own 0)) refl)
      where
        go : (b : Bool) → is_linked (type_at own 0) ≡ b →
            (not (b && attributes_at ws at) || attributes_ok dim ws at) ≡ (not (b && attributes_at own 0) || attributes_ok dim own 0)
        go false e = refl
        go true e = let l = own_linked e in rw (attributes_local e, stands_word s 16 (omega arith)) refl
