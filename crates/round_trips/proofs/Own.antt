-- The words that a writer makes, header, body and tail, by themselves: what is read of the first one and of the symbology word,
-- that all are words, and that they are the own words of an element of the grammar where C is as the depth asks.
use Prim.Native.Nat.{ℕ, ◌-◌, ◌/◌, ◌%◌, ◌≤◌, ◌<◌}
use mathlib.Core.Path.{◌≡◌, refl, sym, ◌∙◌}
use mathlib.Core.Bool.{Bool, true, false, cond}
use mathlib.Core.List.{List, [], ◌∷◌, ◌++◌, map}
use native.Mathlib.Omega.{arith}
use lib.ListN.{length}
use lib.IntN.{ℤ}
use lib.Signed.{mag}
use lib.Dec.{eqb}
use borrow.Author.Tests.{eq-eqb}
use Rattle.words.specs.Words.{words, Below, word_at, unsigned}
use Rattle.words.proofs.Laws.{words_below}
use Rattle.words.proofs.Signed.{unsigned_small}
use Rattle.ranges.specs.Ranges.{stored}
use Rattle.ranges.proofs.Ranges.{stored_small}
use Rattle.kinds.specs.FirstWord.{level_of, reserved_of, c_of, type_of, deleted_of, bit}
use Rattle.headers.specs.Header.{type_at}
use Rattle.kinds.specs.Kinds.{is_header, is_curve, is_pointed, may_stand}
use Rattle.headers.specs.Flags.{reserved_ok, place_ok}
use Rattle.elements.specs.Rules.{fixed_ok, text_fields_ok, count_ok}
use Rattle.elements.specs.Attributes.{linkages_ok}
use Rattle.elements.proofs.Laws.{name_simple, floats_none}
use Rattle.kinds.proofs.Types.{Each}
use Rattle.grammar.proofs.Types.{plain_uncounted}
use Rattle.grammar.proofs.Tests.{OwnTests}
use Rattle.edits.proofs.Tests.{or_right}
use Rattle.edits.proofs.Bounds.{below_nil, below_cons, below_append}
use Rattle.fields.specs.Words.{longs, first_word, range_coordinates, range_longs, symbology, display_words, header_words, count_words, element_of}
use Rattle.fields.specs.declared.Fields.{Fields}
use Rattle.fields.proofs.Bounds.{Bounds, bounds}
use Rattle.fields.proofs.Element.{bit_small, first_small, Formed, length_of, size_of_lem, kind_of}
use Rattle.round_trips.specs.RoundTrip.{Longs}

---- what is read of word 0 and of the symbology word

pub record FirstRead (f : Fields) : Type 0 where
  pub level : level_of (first_word f) ≡ f.level
  pub reserved : reserved_of (first_word f) ≡ 0
  pub c : c_of (first_word f) ≡ bit f.c
  pub deleted : deleted_of (first_word f) ≡ bit f.deleted

pub record SymbologyRead (f : Fields) : Type 0 where
  pub style : symbology f % 8 ≡ f.style
  pub weight : symbology f / 8 % 32 ≡ f.weight
  pub colour : symbology f / 256 ≡ f.colour

module _ {dim : ℕ} {f : Fields} {size : ℕ} {body tail : List ℕ} (m : Formed dim f size body tail) where
  pub first_read : FirstRead f
  unfolding first_word
  first_read =
      let l = (bounds f m.fields).level in
      let k = m.kind in
      let x = bit_small f.c in
      let y = bit_small f.deleted in
      record { level = omega arith; reserved = omega arith; c = omega arith; deleted = omega arith }

  pub symbology_read : SymbologyRead f
  unfolding symbology
  symbology_read =
      let b = bounds f m.fields in
      let x = b.style in
      let y = b.weight in
      record { style = omega arith; weight = omega arith; colour = omega arith }

---- all are words

pub below_each : (n : ℕ) (xs : List ℕ) → 0 < n → Each (λ x. x < n) xs → Below n xs
below_each n [] z e = below_nil n z
below_each n (x ∷ xs) z e = below_cons n x xs e.0 (below_each n xs z e.1)

pub below_longs : (vs : List ℕ) → Each (λ v. v ≤ 4294967295) vs → Below 65536 (longs vs)
below_longs [] e = below_nil 65536 (omega arith)
below_longs (v ∷ vs) e =
    let h = e.0 in
    below_append 65536 (v / 65536 ∷ v % 65536 ∷ []) (longs vs) (below_each 65536 (v / 65536 ∷ v % 65536 ∷ []) (omega arith) (omega arith, (omega arith, tt))) (below_longs vs e.1)

-- signed longs, stored as f says
each_by : (f : ℤ → ℕ) → ((z : ℤ) → mag z < 2147483648 → f z < 4294967296) → (zs : List ℤ) → Longs zs → Each (λ v. v ≤ 4294967295) (map f zs)
each_by f small [] l = tt
each_by f small (z ∷ zs) l = (let h = small z l.0 in omega arith, each_by f small zs l.1)

pub each_long : (ps : List ℤ) → Longs ps → Each (λ v. v ≤ 4294967295) (map unsigned ps)
each_long = each_by unsigned unsigned_small

pub below_count : (kind n : ℕ) → n < 65536 → Below 65536 (count_words kind n)
below_count kind n h = go (is_pointed kind)
  where
    go : (b : Bool) → Below 65536 (cond b (n ∷ []) [])
    go true = below_each 65536 (n ∷ []) (omega arith) (h, tt)
    go false = below_nil 65536 (omega arith)

below_header : (f : Fields) (size : ℕ) → Bounds f → f.kind < 128 → size ≤ 65535 → Below 65536 (header_words f size)
unfolding header_words symbology
below_header f size b k h =
    let t = b.style in
    let u = b.weight in
    let v = b.colour in
    let x = b.words.0 in
    let y = b.words.1.0 in
    let z = b.words.1.1.0 in
    below_append 65536 (first_word f ∷ (size - 2) ∷ []) (longs (range_longs f) ++ display_words f)
    (below_each 65536 (first_word f ∷ (size - 2) ∷ []) (omega arith) (first_small f b.level k, (omega arith, tt)))
    (below_append 65536 (longs (range_longs f)) (display_words f) (below_longs (range_longs f) (each_by stored stored_small (range_coordinates f) b.range))
    (below_each 65536 (display_words f) (omega arith) (omega arith, (omega arith, (omega arith, (omega arith, tt))))))

module _ {dim : ℕ} {f : Fields} {size : ℕ} {body tail : List ℕ} (m : Formed dim f size body tail) where
  pub written_below : size ≤ 65535 → Below 65536 body → Below 256 tail → Below 65536 (element_of f size body tail)
  written_below h p b =
      below_append 65536 (header_words f size) (body ++ words tail) (below_header f size (bounds f m.fields) m.kind h)
      (below_append 65536 body (words tail) p (words_below tail b))

---- an element by itself, which is no header: its own rules

pub record Owned (dim : ℕ) (f : Fields) (size : ℕ) (body tail : List ℕ) : Type 0 where
  pub formed : Formed dim f size body tail
  pub even : length tail % 2 ≡ 0
  pub more : 1 ≤ length body
  pub plain : is_header f.kind ≡ false
  pub unfloated : is_curve f.kind ≡ false
  pub fixed : fixed_ok dim (element_of f size body tail) 0 ≡ true
  pub fields : text_fields_ok dim (element_of f size body tail) 0 ≡ true
  pub small : size ≤ 65535
  pub linkages : linkages_ok dim (element_of f size body tail) 0 ≡ true

module _ {dim : ℕ} {f : Fields} {size : ℕ} {body tail : List ℕ} (o : Owned dim f size body tail) where
  first_is : word_at (element_of f size body tail) 0 ≡ first_word f
  unfolding header_words
  first_is = refl

  reserved_ok_lem : reserved_ok (first_word f) ≡ true
  unfolding reserved_ok
  reserved_ok_lem = or_right (eqb (type_of (first_word f)) 9) (eq-eqb _ 0 (first_read o.formed).reserved)

  place_ok_lem : (depth : ℕ) → bit f.c ≡ cond (eqb depth 0) 0 1 → place_ok depth (first_word f) ≡ true
  unfolding place_ok
  place_ok_lem depth e = or_right (eqb (type_of (first_word f)) 9) (eq-eqb _ _ ((first_read o.formed).c ∙ e))

  plain_at : is_header (type_at (element_of f size body tail) 0) ≡ false
  plain_at = rw (kind_of o.formed) o.plain

  count_ok_lem : count_ok (element_of f size body tail) 0 0 ≡ true
  unfolding count_ok
  count_ok_lem = rw (plain_uncounted (type_at (element_of f size body tail) 0) plain_at) refl

  pub written_own : (depth under : ℕ) → depth ≤ 8 → bit f.c ≡ cond (eqb depth 0) 0 1 → may_stand dim under f.kind ≡ true → OwnTests dim depth under (element_of f size body tail) 0 0
  written_own depth under d c u =
      let kind = kind_of o.formed in
      let long = length_of o.formed in
      record {
        size = size_of_lem o.formed ∙ sym long;
        reserved = rw first_is reserved_ok_lem;
        place = rw first_is (place_ok_lem depth c);
        deep = d;
        kind = rw kind u;
        fixed = o.fixed;
        fields = o.fields;
        small = rw long o.small;
        extent = rw plain_at (refl, refl);
        linkages = o.linkages;
        floats = floats_none dim (element_of f size body tail) 0 (rw kind o.unfloated);
        name = name_simple (element_of f size body tail) 0 plain_at;
        count = count_ok_lem;
      }
