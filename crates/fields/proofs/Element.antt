-- An element as its header, its body, which is the rest of its fixed part, and its tail: what is read of its words (size, type,
-- fixed part), and that its linkages are those of its tail. So it is for an element with points.
use Prim.Native.Nat.{ℕ, ◌+◌, ◌-◌, ◌*◌, ◌/◌, ◌%◌, ◌≤◌, ◌<◌}
use mathlib.Core.Path.{◌≡◌, refl, sym, ap, ◌∙◌}
use mathlib.Core.Bool.{Bool, true, false, not, ◌&&◌, ◌||◌}
use mathlib.Core.List.{List, [], ◌∷◌, ◌++◌, map, append_assoc}
use native.Mathlib.Omega.{arith}
use native.Mathlib.Nat.{zero-add}
use lib.ListN.{length, length-append, length-map}
use lib.Seq.{get_or-append-add}
use lib.IntN.{ℤ}
use lib.Dec.{eqb, leb}
use borrow.Author.Tests.{leb-true, le-leb, lt-leb, leb-false}
use Rattle.words.specs.Words.{words, word_at, unsigned}
use Rattle.words.proofs.Laws.{length_words}
use Rattle.linkages.specs.Linkages.{linkages_fill}
use Rattle.linkages.proofs.Local.{fill_local}
use Rattle.headers.specs.Header.{type_at, size_at, sizing_at, attributes_at, attribute_part_at}
use Rattle.kinds.specs.Kinds.{is_linked, sizing_word, fixed_part}
use Rattle.elements.specs.Attributes.{attributes_ok, linkages_ok}
use Rattle.fields.specs.Words.{longs, first_word, header_words, count_words, points_in, size_of, point_words, element_of, element_words}
use Rattle.kinds.specs.FirstWord.{bit}
use Rattle.fields.specs.Faults.{is_written, fields_ok, tail_ok}
use Rattle.fields.specs.declared.Fields.{Fields}
use Rattle.fields.proofs.Bounds.{bounds, Called, by_kinds, fixed_is, fixed_least}

pub length_longs : (vs : List ℕ) → length (longs vs) ≡ 2 * length vs
length_longs [] = refl
length_longs (v ∷ vs) = let e = length_longs vs in omega arith

pub bit_small : (b : Bool) → bit b ≤ 1
bit_small true = omega arith
bit_small false = omega arith

pub kind_small : (kind : ℕ) → is_written kind ≡ true → kind < 128
kind_small kind k = by_kinds (λ t. t < 128) kind k (omega arith) (omega arith) (omega arith) (omega arith)

-- word 0 is a word
pub first_small : (f : Fields) → f.level ≤ 63 → f.kind < 128 → first_word f < 65536
unfolding first_word
first_small f l k =
    let x = bit_small f.c in
    let y = bit_small f.deleted in
    omega arith

pub length_header : (f : Fields) (size : ℕ) → length (header_words f size) ≡ 18
unfolding header_words
length_header f size = refl

-- an element of a type that may have attributes: its fields are in their ranges, its size is that of its parts, and the fixed part
-- that is read of its words is its header and its body
pub record Formed (dim : ℕ) (f : Fields) (size : ℕ) (body tail : List ℕ) : Type 0 where
  pub kind : f.kind < 128
  pub linked : is_linked f.kind ≡ true
  pub fields : fields_ok f ≡ true
  pub long : size ≡ 18 + length body + length tail / 2
  pub fixed : fixed_part dim f.kind (word_at (element_of f size body tail) (0 + sizing_word dim f.kind)) ≡ 18 + length body

-- the words before the tail
abbrev pub front : Fields → ℕ → List ℕ → List ℕ
front f size body = header_words f size ++ body

module _ {dim : ℕ} {f : Fields} {size : ℕ} {body tail : List ℕ} (m : Formed dim f size body tail) where
  pub front_tail : element_of f size body tail ≡ front f size body ++ words tail
  front_tail = sym (append_assoc (header_words f size) body (words tail))

  pub length_front : length (front f size body) ≡ 18 + length body
  length_front = let a = length-append (header_words f size) body in let h = length_header f size in omega arith

  pub length_of : length (element_of f size body tail) ≡ size
  length_of =
      let a = ap length front_tail ∙ length-append (front f size body) (words tail) in
      let b = length_front in
      let w = length_words tail in
      let s = m.long in
      omega arith

  ---- what is read

  pub size_of_lem : size_at (element_of f size body tail) 0 ≡ size
  unfolding header_words
  size_of_lem = let s = m.long in omega arith

  pub kind_of : type_at (element_of f size body tail) 0 ≡ f.kind
  unfolding header_words first_word
  kind_of =
      let b = bounds f m.fields in
      let k = m.kind in
      let x = bit_small f.c in
      let y = bit_small f.deleted in
      omega arith

  pub fixed_of : fixed_part dim (type_at (element_of f size body tail) 0) (sizing_at dim (element_of f size body tail) 0) ≡ 18 + length body
  fixed_of = ap (λ t. fixed_part dim t (word_at (element_of f size body tail) (0 + sizing_word dim t))) kind_of ∙ m.fixed

  ---- the attribute part

  linked_of : is_linked (type_at (element_of f size body tail) 0) ≡ true
  linked_of = ap is_linked kind_of ∙ m.linked

  flag_of : attributes_at (element_of f size body tail) 0 ≡ eqb (f.properties / 2048 % 2) 1
  unfolding header_words
  flag_of = refl

  part_of : attribute_part_at (element_of f size body tail) 0 ≡ 16 + f.index
  unfolding header_words
  part_of = refl

  linkages_at : linkages_ok dim (element_of f size body tail) 0
      ≡ (not (eqb (f.properties / 2048 % 2) 1)
      || (leb (18 + length body) (16 + f.index)
      && (leb (16 + f.index) size && linkages_fill (element_of f size body tail) (16 + f.index) size)))
  unfolding linkages_ok attributes_ok
  linkages_at = rw (linked_of, flag_of, fixed_of, part_of, size_of_lem, zero-add (16 + f.index), zero-add size) refl

  -- they fill the element's last words exactly if they fill the tail's
  filled : 18 + length body ≤ 16 + f.index → 16 + f.index ≤ size →
      linkages_fill (element_of f size body tail) (16 + f.index) size ≡ linkages_fill (words tail) (f.index - (2 + length body)) (length tail / 2)
  filled h p =
      let start = f.index - (2 + length body) in
      let s = m.long in
      let e : start + (size - (16 + f.index)) ≡ length tail / 2 = omega arith in
      let same : (i : ℕ) → i < size - (16 + f.index) → word_at (element_of f size body tail) (16 + f.index + i) ≡ word_at (words tail) (start + i) =
      λ i lt.
      let n = length_front in
      let q : 16 + f.index + i ≡ length (front f size body) + (start + i) = omega arith in
      ap (λ l. word_at l (16 + f.index + i)) front_tail ∙ ap (word_at (front f size body ++ words tail)) q ∙ get_or-append-add (front f size body) (words tail) (start + i) 0 in
      fill_local (element_of f size body tail) (words tail) (16 + f.index) size start p same ∙ ap (linkages_fill (words tail) start) e

  -- the attribute index of the tail's first word is that of the first word behind the body
  pub tail_right : tail_ok f (2 + length body) tail ≡ linkages_ok dim (element_of f size body tail) 0
  unfolding tail_ok
  tail_right = ap (λ b. not (eqb (f.properties / 2048 % 2) 1) || b) (early (leb (2 + length body) f.index) refl) ∙ sym linkages_at
    where
      late : (b : Bool) → leb (f.index - (2 + length body)) (length tail / 2) ≡ b → 18 + length body ≤ 16 + f.index →
          (b && linkages_fill (words tail) (f.index - (2 + length body)) (length tail / 2))
          ≡ (leb (16 + f.index) size && linkages_fill (element_of f size body tail) (16 + f.index) size)
      late true e h =
          let l = leb-true (f.index - (2 + length body)) (length tail / 2) e in
          let s = m.long in
          let p : 16 + f.index ≤ size = omega arith in
          rw (le-leb (16 + f.index) size p) (sym (filled h p))
      late false e h =
          let l = leb-false (f.index - (2 + length body)) (length tail / 2) e in
          let s = m.long in
          let p : size < 16 + f.index = omega arith in
          rw (lt-leb (16 + f.index) size p) refl

      early : (b : Bool) → leb (2 + length body) f.index ≡ b →
          (b && (leb (f.index - (2 + length body)) (length tail / 2) && linkages_fill (words tail) (f.index - (2 + length body)) (length tail / 2)))
          ≡ (leb (18 + length body) (16 + f.index) && (leb (16 + f.index) size && linkages_fill (element_of f size body tail) (16 + f.index) size))
      early true e =
          let l = leb-true (2 + length body) f.index e in
          let h : 18 + length body ≤ 16 + f.index = omega arith in
          rw (le-leb (18 + length body) (16 + f.index) h) (late (leb (f.index - (2 + length body)) (length tail / 2)) refl h)
      early false e =
          let l = leb-false (2 + length body) f.index e in
          let h : 16 + f.index < 18 + length body = omega arith in
          rw (lt-leb (18 + length body) (16 + f.index) h) refl

---- an element with points

-- word 18 sizes it
pub sizing_at_lem : (dim kind : ℕ) → is_written kind ≡ true → sizing_word dim kind ≡ 18
sizing_at_lem dim kind k = by_kinds (λ t. sizing_word dim t ≡ 18) kind k refl refl refl refl

module _ (dim : ℕ) (f : Fields) (ps : List ℤ) (tail : List ℕ) (c : Called dim f (length ps) (length tail)) where
  pub length_body : 18 + length (point_words dim f.kind ps) ≡ fixed_part dim f.kind (points_in dim ps)
  length_body =
      let b = length-append (count_words f.kind (points_in dim ps)) (longs (map unsigned ps)) in
      let l = length_longs (map unsigned ps) in
      let m = length-map ps unsigned in
      let x = fixed_is dim f.kind (length ps) c.dims c.kind c.fit in
      omega arith

  -- N is word 18 of the types that have it
  at_count : fixed_part dim f.kind (word_at (element_of f (size_of dim f ps tail) (point_words dim f.kind ps) tail) (0 + sizing_word dim f.kind)) ≡ fixed_part dim f.kind (points_in dim ps)
  unfolding fixed_part header_words
  at_count =
      by_kinds (λ t. fixed_part dim t (word_at (element_of f (size_of dim f ps tail) (point_words dim t ps) tail) (0 + sizing_word dim t)) ≡ fixed_part dim t (points_in dim ps)) f.kind c.kind
      refl refl refl refl

  pub formed : Formed dim f (size_of dim f ps tail) (point_words dim f.kind ps) tail
  unfolding size_of
  formed =
      let l = length_body in
      record {
        kind = kind_small f.kind c.kind;
        linked = by_kinds (λ t. is_linked t ≡ true) f.kind c.kind refl refl refl refl;
        fields = c.fields;
        long = omega arith;
        fixed = at_count ∙ sym length_body;
      }

  pub length_element : length (element_words dim f ps tail) ≡ size_of dim f ps tail
  unfolding element_words
  length_element = length_of formed

  pub size_least : 19 ≤ size_of dim f ps tail
  unfolding size_of
  size_least = let x = fixed_least dim f.kind (length ps) c.dims c.kind c.fit in omega arith

  pub size_at_lem : size_at (element_words dim f ps tail) 0 ≡ size_of dim f ps tail
  unfolding element_words
  size_at_lem = size_of_lem formed

  pub kind_at : type_at (element_words dim f ps tail) 0 ≡ f.kind
  unfolding element_words
  kind_at = kind_of formed

  pub fixed_at : fixed_part dim (type_at (element_words dim f ps tail) 0) (sizing_at dim (element_words dim f ps tail) 0) ≡ fixed_part dim f.kind (points_in dim ps)
  unfolding element_words
  fixed_at = fixed_of formed ∙ length_body

  -- its tail begins where its fixed part ends
  pub tail_linkages : tail_ok f (fixed_part dim f.kind (points_in dim ps) - 16) tail ≡ linkages_ok dim (element_words dim f ps tail) 0
  unfolding element_words
  tail_linkages =
      let l = length_body in
      let e : fixed_part dim f.kind (points_in dim ps) - 16 ≡ 2 + length (point_words dim f.kind ps) = omega arith in
      ap (λ n. tail_ok f n tail) e ∙ tail_right formed
