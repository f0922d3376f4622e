-- The header fields that a view shows are parts of the element's words, so words 0 to 17 that are made of them are the
-- element's own, and each field is in its range.
use Prim.Native.Nat.{ℕ, ◌+◌, ◌-◌, ◌*◌, ◌/◌, ◌%◌, ◌≤◌, ◌<◌}
use mathlib.Core.Path.{◌≡◌, refl, sym, ap, ◌∙◌}
use mathlib.Core.Bool.{Bool, true, false, ◌||◌, false≢true}
use mathlib.Core.List.{List, [], ◌∷◌, ◌++◌, map}
use native.Mathlib.Omega.{arith}
use lib.ListN.{length}
use lib.Dec.{eqb}
use lib.IntN.{ℤ}
use borrow.Author.Tests.{le-leb, eqb-true, eqb-false}
use Rattle.std.proofs.lemmas.Option.{same_Some}
use Rattle.words.specs.Words.{Below, word_at, long_at}
use Rattle.ranges.specs.Ranges.{stored}
use Rattle.ranges.proofs.Ranges.{coordinate_small, stored_coordinate}
use Rattle.kinds.specs.FirstWord.{level_of, reserved_of, c_of, type_of, deleted_of, bit}
use Rattle.headers.specs.Header.{type_at, size_at}
use Rattle.kinds.specs.Kinds.{is_linked}
use Rattle.headers.specs.Flags.{reserved_ok}
use Rattle.grammar.proofs.Stands.{Stands, stands_nil, stands_join}
use Rattle.places.specs.declared.Above.{Above}
use Rattle.views.specs.Views.{coordinate_at, range_of, display_of, element_view}
use Rattle.fields.specs.Words.{longs, first_word, range_coordinates, range_longs, symbology, display_words, header_words}
use Rattle.fields.specs.declared.Fields.{Fields}
use Rattle.fields.proofs.Bounds.{Coordinates, Bounds}
use Rattle.views.specs.Display.{display_with}
use Rattle.views.specs.Range.{longs_with}
use Rattle.round_trips.specs.Parts.{Shows}
use Rattle.round_trips.proofs.Spans.{stands_cons, stands_at, LongsAt, long_small, longs_stand}

---- coordinates of a range

-- those that are read one after another from a place on
abbrev CoordinatesAt : List ℕ → ℕ → List ℤ → Type 0
CoordinatesAt ws q [] = Unit {0}
CoordinatesAt ws q (z ∷ zs) = (z ≡ coordinate_at ws q) × CoordinatesAt ws (q + 2) zs

-- the longs that stand for them are there
coordinates_longs : (ws : List ℕ) (q : ℕ) (zs : List ℤ) → CoordinatesAt ws q zs → LongsAt ws q (map stored zs)
coordinates_longs ws q [] c = tt
coordinates_longs ws q (z ∷ zs) c = (ap stored c.0 ∙ stored_coordinate (long_at ws q), coordinates_longs ws (q + 2) zs c.1)

coordinates_small : (ws : List ℕ) → Below 65536 ws → (q : ℕ) (zs : List ℤ) → CoordinatesAt ws q zs → Coordinates zs
coordinates_small ws b q [] c = tt
coordinates_small ws b q (z ∷ zs) c =
    (rw c.0 (coordinate_small (long_at ws q) (long_small ws b q)), coordinates_small ws b (q + 2) zs c.1)

---- the fields as parts of words

pub record Shown (ws : List ℕ) (at : ℕ) (f : Fields) : Type 0 where
  pub level : level_of (word_at ws at) ≡ f.level
  pub c : eqb (c_of (word_at ws at)) 1 ≡ f.c
  pub kind : type_at ws at ≡ f.kind
  pub deleted : eqb (deleted_of (word_at ws at)) 1 ≡ f.deleted
  pub range : CoordinatesAt ws (at + 2) (range_coordinates f)
  pub group : word_at ws (at + 14) ≡ f.group
  pub index : word_at ws (at + 15) ≡ f.index
  pub properties : word_at ws (at + 16) ≡ f.properties
  pub style : word_at ws (at + 17) % 8 ≡ f.style
  pub weight : word_at ws (at + 17) / 8 % 32 ≡ f.weight
  pub colour : word_at ws (at + 17) / 256 ≡ f.colour

pub range_there : (ws : List ℕ) (at : ℕ) → 14 ≤ size_at ws at →
    range_of ws at
    ≡ longs_with (coordinate_at ws (at + 2)) (coordinate_at ws (at + 4)) (coordinate_at ws (at + 6)) (coordinate_at ws (at + 8)) (coordinate_at ws (at + 10)) (coordinate_at ws (at + 12))
unfolding range_of
range_there ws at h = rw (le-leb 14 (size_at ws at) h) refl

pub display_there : (ws : List ℕ) (at : ℕ) → is_linked (type_at ws at) ≡ true →
    display_of ws at
    ≡ display_with (word_at ws (at + 14)) (word_at ws (at + 15)) (word_at ws (at + 16)) (word_at ws (at + 17) % 8) (word_at ws (at + 17) / 8 % 32) (word_at ws (at + 17) / 256)
unfolding display_of
display_there ws at k = rw k refl

pub shown : (ws : List ℕ) (at depth : ℕ) (above : Above) (f : Fields) → is_linked (type_at ws at) ≡ true → 14 ≤ size_at ws at → Shows (element_view ws at depth above) f → Shown ws at f
unfolding element_view
shown ws at depth above f k h v =
    let r = same_Some _ _ (sym v.range ∙ range_there ws at h) in
    let d = same_Some _ _ (sym (display_there ws at k) ∙ v.display) in
    let place : (m n : ℕ) → m ≡ n → coordinate_at ws m ≡ coordinate_at ws n = λ m n e. ap (coordinate_at ws) e in
    record {
      level = v.level;
      c = v.c;
      kind = v.kind;
      deleted = v.deleted;
      range = (
        ap (λ x. x.low_x) r,
        (
          ap (λ x. x.low_y) r ∙ place (at + 4) (at + 2 + 2) (omega arith),
          (
            ap (λ x. x.low_z) r ∙ place (at + 6) (at + 2 + 2 + 2) (omega arith),
            (
              ap (λ x. x.high_x) r ∙ place (at + 8) (at + 2 + 2 + 2 + 2) (omega arith),
              (
                ap (λ x. x.high_y) r ∙ place (at + 10) (at + 2 + 2 + 2 + 2 + 2) (omega arith),
                (ap (λ x. x.high_z) r ∙ place (at + 12) (at + 2 + 2 + 2 + 2 + 2 + 2) (omega arith), tt),
              ),
            ),
          ),
        ),
      );
      group = ap (λ x. x.group) d;
      index = ap (λ x. x.index) d;
      properties = ap (λ x. x.properties) d;
      style = ap (λ x. x.style) d;
      weight = ap (λ x. x.weight) d;
      colour = ap (λ x. x.colour) d;
    }

---- the words that are made of them

bit_of : (n : ℕ) → n < 2 → bit (eqb n 1) ≡ n
bit_of n h = go (eqb n 1) refl
  where
    go : (b : Bool) → eqb n 1 ≡ b → bit b ≡ n
    go true e = let z = eqb-true n 1 e in omega arith
    go false e = let z = eqb-false n 1 e in omega arith

-- a word is the sum of its fields, where the reserved bit is zero
joined : (w a b c d l x k y : ℕ) → w ≡ 64 * a + l → a ≡ 2 * b → b ≡ 2 * c + x → c ≡ 128 * d + k → d ≡ y → w ≡ l + 128 * x + 256 * k + 32768 * y
joined w a b c d l x k y p q r s t = omega arith

fields_sum : (w : ℕ) → w < 65536 → reserved_of w ≡ 0 → w ≡ level_of w + 128 * c_of w + 256 * type_of w + 32768 * deleted_of w
fields_sum w h z =
    joined w (w / 64) (w / 128) (w / 256) (w / 32768) (level_of w) (c_of w) (type_of w) (deleted_of w)
    (omega arith) (omega arith) (omega arith) (omega arith) (omega arith)

-- the reserved bit of a type that may have attributes is zero
pub reserved_zero : (w : ℕ) → is_linked (type_of w) ≡ true → reserved_ok w ≡ true → reserved_of w ≡ 0
unfolding reserved_ok
reserved_zero w k e = go (eqb (type_of w) 9) refl e
  where
    go : (b : Bool) → eqb (type_of w) 9 ≡ b → (b || eqb (reserved_of w) 0) ≡ true → reserved_of w ≡ 0
    go true q h = absurd (false≢true (sym (ap is_linked (eqb-true (type_of w) 9 q)) ∙ k))
    go false q h = eqb-true (reserved_of w) 0 h

module _ (ws : List ℕ) (b : Below 65536 ws) (at : ℕ) (f : Fields) (v : Shown ws at f) where
  first_is : reserved_of (word_at ws at) ≡ 0 → word_at ws at ≡ first_word f
  unfolding first_word
  first_is z =
      let w = word_at ws at in
      let c : c_of (word_at ws at) ≡ bit f.c = sym (bit_of (c_of w) (omega arith)) ∙ ap bit v.c in
      let d : deleted_of (word_at ws at) ≡ bit f.deleted = sym (bit_of (deleted_of w) (omega arith)) ∙ ap bit v.deleted in
      fields_sum w (b at) z ∙ rw (v.level, v.kind, c, d) refl

  symbology_is : word_at ws (at + 17) ≡ symbology f
  unfolding symbology
  symbology_is = let x = v.style in let y = v.weight in let z = v.colour in omega arith

  display_stands : at + 18 ≤ length ws → Stands (display_words f) (at + 14) ws
  display_stands h =
      let i = at + 14 in
      let word : (m n : ℕ) → m ≡ n → word_at ws m ≡ word_at ws n = λ m n e. ap (word_at ws) e in
      stands_cons f.group (f.index ∷ f.properties ∷ symbology f ∷ []) ws i (omega arith) v.group
      (stands_cons f.index (f.properties ∷ symbology f ∷ []) ws (i + 1) (omega arith) (word (i + 1) (at + 15) (omega arith) ∙ v.index)
      (stands_cons f.properties (symbology f ∷ []) ws (i + 1 + 1) (omega arith) (word (i + 1 + 1) (at + 16) (omega arith) ∙ v.properties)
      (stands_cons (symbology f) [] ws (i + 1 + 1 + 1) (omega arith) (word (i + 1 + 1 + 1) (at + 17) (omega arith) ∙ symbology_is) (stands_nil (i + 1 + 1 + 1 + 1) ws))))

  -- words 0 to 17
  pub header_stands : reserved_of (word_at ws at) ≡ 0 → at + 18 ≤ length ws → Stands (header_words f (size_at ws at)) at ws
  unfolding header_words
  header_stands z h =
      let range : Stands (longs (range_longs f)) (at + 1 + 1) ws =
      stands_at (at + 1 + 1) (omega arith) (longs_stand ws b (at + 2) (range_longs f) (coordinates_longs ws (at + 2) (range_coordinates f) v.range) (omega arith)) in
      let display : Stands (display_words f) (at + 1 + 1 + 12) ws = stands_at (at + 1 + 1 + 12) (omega arith) (display_stands h) in
      let rest = longs (range_longs f) ++ display_words f in
      stands_cons (first_word f) ((size_at ws at - 2) ∷ rest) ws at (omega arith) (first_is z)
      (stands_cons (size_at ws at - 2) rest ws (at + 1) (omega arith) (omega arith) (stands_join (longs (range_longs f)) (display_words f) range display))

  -- each field is in its range
  pub shown_bounds : Bounds f
  shown_bounds =
      let g = v.group in
      let i = v.index in
      let p = v.properties in
      let gs = b (at + 14) in
      let is = b (at + 15) in
      let ps = b (at + 16) in
      let ss = b (at + 17) in
      record {
        level = let l = v.level in omega arith;
        range = coordinates_small ws b (at + 2) (range_coordinates f) v.range;
        words = (omega arith, (omega arith, (omega arith, tt)));
        style = let x = v.style in omega arith;
        weight = let x = v.weight in omega arith;
        colour = let x = v.colour in omega arith;
      }
