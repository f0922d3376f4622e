-- Laws of the rules of one element: no fault is that every test passes, and what the answer then is.
use Prim.Native.Nat.{ℕ, ◌+◌, ◌-◌, ◌<◌, ◌≤◌}
use mathlib.Core.Path.{◌≡◌, refl, sym, ap, subst, ◌∙◌}
use mathlib.Core.List.{List, [], ◌∷◌, ◌++◌}
use mathlib.Core.Bool.{Bool, true, false, cond, not, ◌&&◌, ◌||◌, and-true, and-false}
use native.Mathlib.Omega.{arith}
use lib.Dec.{eqb, leb}
use borrow.Author.Tests.{leb-true, leb-false, le-leb, lt-leb, eqb-true, eqb-false, ne_eqb}
use Rattle.words.specs.Words.{words, word_at}
use Rattle.texts.specs.Texts.{counts_word, counts_at, text_part, fields_ok}
use Rattle.texts.proofs.Laws.{text_past}
use Rattle.curves.specs.Curves.{origin_word, floats_ok}
use Rattle.headers.specs.Header.{type_at, size_at, sizing_at, extent_at, attributes_at}
use Rattle.kinds.specs.Kinds.{is_header, is_linked, is_sized, is_curve, is_unread, fixed_part, may_stand}
use Rattle.elements.specs.Attributes.{attributes_ok, linkages_ok}
use Rattle.headers.specs.Flags.{reserved_ok, place_ok}
use Rattle.elements.specs.Rules.{sized_ok, points_ok, fixed_ok, text_fields_ok, extent_ok, curve_floats_ok, stored_name_ok, checks, fault_of, head_of, HeadRead}
use Rattle.elements.specs.Simple.{simple_checks}
use Rattle.headers.proofs.Checks.{both_true, pass_all}
use Rattle.headers.specs.Checks.{Check, check, first_fault}
use Rattle.elements.specs.declared.Head.{Head}
use Rattle.elements.specs.declared.Head.TheVariants.{Bad, Plain, Complex}
use Rattle.kinds.proofs.Types.{header_long, linked_long, fixed_any, unsized_no_text, unsized_pointless, not_header, raw_unsized, raw_no_curve, raw_part, header_unsized, header_no_curve, curve_type, curve_part, stands_raw}

-- all tests of an element pass
pub record Checked (dim depth under : ℕ) (ws : List ℕ) (at bound : ℕ) : Type 0 where
  pub two : leb 2 (bound - at) ≡ true
  pub size : leb (size_at ws at) (bound - at) ≡ true
  pub reserved : reserved_ok (word_at ws at) ≡ true
  pub place : place_ok depth (word_at ws at) ≡ true
  pub deep : leb depth 8 ≡ true
  pub kind : may_stand dim under (type_at ws at) ≡ true
  pub fixed : fixed_ok dim ws at ≡ true
  pub fields : text_fields_ok dim ws at ≡ true
  pub extent : extent_ok ws at (bound - at) ≡ true
  pub linkages : linkages_ok dim ws at ≡ true
  pub floats : curve_floats_ok dim ws at ≡ true
  pub name : stored_name_ok ws at ≡ true

---- the sizes that the fixed part gives

pub fixed_least : (dim : ℕ) (ws : List ℕ) (at : ℕ) → fixed_ok dim ws at ≡ true → fixed_part dim (type_at ws at) (sizing_at dim ws at) ≤ size_at ws at
unfolding fixed_ok
fixed_least dim ws at e =
    let long = leb (fixed_part dim (type_at ws at) (sizing_at dim ws at)) (size_at ws at) in
    leb-true _ (size_at ws at) (both_true (points_ok ws at) long (both_true (sized_ok dim ws at) (points_ok ws at && long) e).1).1

pub header_size : (dim : ℕ) (ws : List ℕ) (at t : ℕ) → t ≡ type_at ws at → fixed_ok dim ws at ≡ true → is_header t ≡ true → 20 ≤ size_at ws at
header_size dim ws at t q e h =
    let least = fixed_least dim ws at e in
    let long = header_long dim (type_at ws at) (sizing_at dim ws at) (rw q at h) in
    omega arith

pub linked_size : (dim : ℕ) (ws : List ℕ) (at t : ℕ) → t ≡ type_at ws at → fixed_ok dim ws at ≡ true → is_linked t ≡ true → 18 ≤ size_at ws at
linked_size dim ws at t q e h =
    let least = fixed_least dim ws at e in
    let long = linked_long dim (type_at ws at) (sizing_at dim ws at) (rw q at h) in
    omega arith

-- a header's extent ends not before the header does, and by its bound
pub extent_within : (ws : List ℕ) (at room : ℕ) → extent_ok ws at room ≡ true → is_header (type_at ws at) ≡ true → (size_at ws at ≤ extent_at ws at) × (extent_at ws at ≤ room)
unfolding extent_ok
extent_within ws at room e h =
    let p = (both_true (leb (size_at ws at) 65535) _ e).1 in
    let q = both_true (leb (size_at ws at) (extent_at ws at)) _ (rw h at p) in
    let r = both_true (leb (extent_at ws at) room) _ q.1 in
    (leb-true _ _ q.0, leb-true _ _ r.0)

---- the tests that a type decides

module _ (dim : ℕ) (ws : List ℕ) (at : ℕ) where
  -- where no word sizes the fixed part only the size is tested
  pub fixed_unsized : is_sized (type_at ws at) ≡ false → fixed_ok dim ws at ≡ leb (fixed_part dim (type_at ws at) 0) (size_at ws at)
  unfolding fixed_ok
  fixed_unsized e =
      simp (e, unsized_pointless (type_at ws at) e, fixed_any dim (type_at ws at) (sizing_at dim ws at) 0 e)

  -- else that word comes first
  pub fixed_sized : (b : Bool) → (sized_ok dim ws at && points_ok ws at) ≡ b → fixed_ok dim ws at ≡ (b && leb (fixed_part dim (type_at ws at) (sizing_at dim ws at)) (size_at ws at))
  unfolding fixed_ok
  fixed_sized b e = go (sized_ok dim ws at) (points_ok ws at) _ ∙ rw e
    where
      go : (x y z : Bool) → (x && (y && z)) ≡ ((x && y) && z)
      go true y z = refl
      go false y z = refl

  pub fixed_raw : is_header (type_at ws at) ≡ false → is_linked (type_at ws at) ≡ false → fixed_ok dim ws at ≡ true
  fixed_raw h k =
      fixed_unsized (raw_unsized (type_at ws at) k)
      ∙ ap (λ (n : ℕ). leb n (size_at ws at)) (raw_part dim (type_at ws at) 0 h k)
      ∙ le-leb 2 (size_at ws at) (omega arith)

  -- only a text has fields
  pub fields_none : eqb (type_at ws at) 17 ≡ false → text_fields_ok dim ws at ≡ true
  unfolding text_fields_ok
  fields_none e = rw e

  -- only an ellipse or an arc has floats
  pub floats_none : is_curve (type_at ws at) ≡ false → curve_floats_ok dim ws at ≡ true
  unfolding curve_floats_ok
  floats_none e = rw e

  pub linkages_linked : is_linked (type_at ws at) ≡ true → linkages_ok dim ws at ≡ (not (attributes_at ws at) || attributes_ok dim ws at)
  unfolding linkages_ok
  linkages_linked e = rw e

  pub linkages_none : is_linked (type_at ws at) ≡ false → linkages_ok dim ws at ≡ true
  unfolding linkages_ok
  linkages_none e = rw e

pub extent_simple : (ws : List ℕ) (at room : ℕ) → is_header (type_at ws at) ≡ false → extent_ok ws at room ≡ leb (size_at ws at) 65535
unfolding extent_ok
extent_simple ws at room e = simp (e, and-true)

-- a header whose extent is not above 65,535 words is not larger itself
size_with : (n e room : ℕ) → (leb n 65535 && (leb n e && (leb e room && leb e 65535))) ≡ (leb n e && (leb e room && leb e 65535))
size_with n e room = go (leb n 65535) refl
  where
    go : (b : Bool) → leb n 65535 ≡ b → (b && (leb n e && (leb e room && leb e 65535))) ≡ (leb n e && (leb e room && leb e 65535))
    go true q = refl
    go false q = from (leb n e) (leb e 65535) refl refl
      where
        from : (c d : Bool) → leb n e ≡ c → leb e 65535 ≡ d → false ≡ (c && (leb e room && d))
        from false d p r = refl
        from true false p r = simp and-false
        from true true p r = let x = leb-false n 65535 q in let y = leb-true n e p in let z = leb-true e 65535 r in absurd (omega arith)

pub extent_header : (ws : List ℕ) (at room : ℕ) → is_header (type_at ws at) ≡ true → extent_ok ws at room ≡ (leb (size_at ws at) (extent_at ws at) && (leb (extent_at ws at) room && leb (extent_at ws at) 65535))
unfolding extent_ok
extent_header ws at room e = rw e (size_with (size_at ws at) (extent_at ws at) room)

pub name_simple : (ws : List ℕ) (at : ℕ) → is_header (type_at ws at) ≡ false → stored_name_ok ws at ≡ true
unfolding stored_name_ok
name_simple ws at h = simp (not_header (type_at ws at) 1 h refl, not_header (type_at ws at) 2 h refl)

-- the same of an element whose type, size and fixed part were read
module _ (dim : ℕ) (ws : List ℕ) (at t size : ℕ) (q : t ≡ type_at ws at) (z : size ≡ size_at ws at) where
  pub plain_fixed : (fixed : ℕ) → fixed ≡ fixed_part dim t (sizing_at dim ws at) → (sized_ok dim ws at && points_ok ws at) ≡ true → fixed_ok dim ws at ≡ leb fixed size
  plain_fixed fixed e p = fixed_sized dim ws at true p ∙ rw (e, q, z)

  pub header_short : (fixed : ℕ) → fixed ≡ fixed_part dim t 0 → is_header t ≡ true → size < fixed → fixed_ok dim ws at ≡ false
  header_short fixed e k h = fixed_unsized dim ws at (header_unsized (type_at ws at) (rw q at k)) ∙ lt-leb _ _ (rw (e, q, z) at h)

  pub header_fixed : (fixed : ℕ) → fixed ≡ fixed_part dim t 0 → is_header t ≡ true → fixed ≤ size → fixed_ok dim ws at ≡ true
  header_fixed fixed e k h = fixed_unsized dim ws at (header_unsized (type_at ws at) (rw q at k)) ∙ le-leb _ _ (rw (e, q, z) at h)

  pub header_part : (fixed : ℕ) → fixed ≡ fixed_part dim t 0 → is_header t ≡ true → fixed ≡ fixed_part dim (type_at ws at) (sizing_at dim ws at)
  header_part fixed e k = e ∙ fixed_any dim t 0 (sizing_at dim ws at) (header_unsized t k) ∙ ap (λ (u : ℕ). fixed_part dim u (sizing_at dim ws at)) q

  pub header_fields : is_header t ≡ true → text_fields_ok dim ws at ≡ true
  header_fields k = fields_none dim ws at (unsized_no_text (type_at ws at) (header_unsized (type_at ws at) (rw q at k)))

  pub header_floats : is_header t ≡ true → curve_floats_ok dim ws at ≡ true
  header_floats k = floats_none dim ws at (header_no_curve (type_at ws at) (rw q at k))

  -- the same of an ellipse or an arc, whose fixed part no word sizes
  pub curve_fixed : (fixed : ℕ) → ((n : ℕ) → fixed ≡ fixed_part dim t n) → is_curve t ≡ true → fixed_ok dim ws at ≡ leb fixed size
  curve_fixed fixed e k = fixed_unsized dim ws at (curve_type (type_at ws at) (rw q at k)).unsized ∙ rw (e 0, q, z)

  pub curve_fields : is_curve t ≡ true → text_fields_ok dim ws at ≡ true
  curve_fields k = fields_none dim ws at (curve_type (type_at ws at) (rw q at k)).other

  pub curve_floats : is_curve t ≡ true → curve_floats_ok dim ws at ≡ floats_ok dim t ws at
  unfolding curve_floats_ok
  curve_floats k = rw (sym q, k)

-- the same of a text, whose counts size its fixed part
module _ (dim : ℕ) (ws : List ℕ) (at : ℕ) (e : 17 ≡ type_at ws at) where
  pub text_part_is : fixed_part dim (type_at ws at) (sizing_at dim ws at) ≡ text_part dim (counts_at dim ws at)
  unfolding fixed_part
  text_part_is = rw (sym e)

  pub text_fixed : fixed_ok dim ws at ≡ leb (text_part dim (counts_at dim ws at)) (size_at ws at)
  unfolding fixed_ok fixed_part
  text_fixed = rw (sym e) (go (leb (counts_word dim + 1) (size_at ws at)) refl)
    where
      go : (b : Bool) → leb (counts_word dim + 1) (size_at ws at) ≡ b → (b && leb (text_part dim (counts_at dim ws at)) (size_at ws at)) ≡ leb (text_part dim (counts_at dim ws at)) (size_at ws at)
      go true q = refl
      go false q =
          let short = leb-false (counts_word dim + 1) (size_at ws at) q in
          let past = text_past dim (counts_at dim ws at) in
          sym (lt-leb (text_part dim (counts_at dim ws at)) (size_at ws at) (omega arith))

  pub text_fields : text_fields_ok dim ws at ≡ fields_ok dim ws at
  unfolding text_fields_ok
  text_fields = rw (sym e)

-- an ellipse or an arc ends with its origin
pub curve_end : (dim t n : ℕ) → is_curve t ≡ true → fixed_part dim t n ≡ origin_word dim t + cond (eqb dim 2) 8 12
curve_end dim t n k = curve_part dim t n k ∙ go (eqb t 15) (eqb dim 2)
  where
    go : (e f : Bool) → cond e (cond f 36 46) (cond f 40 50) ≡ cond e 18 22 + 8 + cond f 2 8 + cond f 8 12
    go true true = refl
    go true false = refl
    go false true = refl
    go false false = refl

-- the checks that a raw type leaves
pub raw_same : (dim under : ℕ) (ws : List ℕ) (at t size : ℕ) → t ≡ type_at ws at → is_header t ≡ false → is_linked t ≡ false →
    first_fault (check (not (eqb under 7)) 6 ∷ check (not (is_unread t)) 6 ∷ check (leb size 65535) 8 ∷ [])
    ≡ first_fault (check (may_stand dim under t) 6 ∷ simple_checks dim ws at size)
raw_same dim under ws at t size q h k =
    let raw : is_linked (type_at ws at) ≡ false = rw q at k in
    rw (
      stands_raw dim under t h k,
      fixed_raw dim ws at (rw q at h) raw,
      fields_none dim ws at (unsized_no_text (type_at ws at) (raw_unsized (type_at ws at) raw)),
      linkages_none dim ws at raw,
      floats_none dim ws at (raw_no_curve (type_at ws at) raw),
    )
    (go (eqb under 7) (is_unread t) (leb size 65535))
  where
    go : (u v c : Bool) → first_fault (check (not u) 6 ∷ check (not v) 6 ∷ check c 8 ∷ []) ≡ first_fault (check (not v && not u) 6 ∷ check true 7 ∷ check true 20 ∷ check c 8 ∷ check true 11 ∷ check true 21 ∷ [])
    go true true c = refl
    go true false c = refl
    go false true c = refl
    go false false true = refl
    go false false false = refl

-- the checks that a type that is no header leaves: the first ones as they are
pub simple_same : (ws : List ℕ) (at room : ℕ) (cs : List Check) (l f : Bool) → is_header (type_at ws at) ≡ false →
    first_fault (cs ++ (check (leb (size_at ws at) 65535) 8 ∷ check l 11 ∷ check f 21 ∷ []))
    ≡ first_fault (cs ++ (check (extent_ok ws at room) 8 ∷ check l 11 ∷ check f 21 ∷ check (stored_name_ok ws at) 12 ∷ []))
simple_same ws at room [] l f h = rw (extent_simple ws at room h, name_simple ws at h) (go (leb (size_at ws at) 65535) l f)
  where
    go : (e l f : Bool) → first_fault (check e 8 ∷ check l 11 ∷ check f 21 ∷ []) ≡ first_fault (check e 8 ∷ check l 11 ∷ check f 21 ∷ check true 12 ∷ [])
    go false l f = refl
    go true false f = refl
    go true true false = refl
    go true true true = refl
simple_same ws at room (check true n ∷ cs) l f h = simple_same ws at room cs l f h
simple_same ws at room (check false n ∷ cs) l f h = refl

---- no fault: every test passes

module _ (dim depth under : ℕ) (ws : List ℕ) (at bound : ℕ) where
  pub no_fault : fault_of dim depth under ws at bound ≡ 0 → Checked dim depth under ws at bound
  unfolding fault_of
  no_fault e =
      let p = pass_all (checks dim depth under ws at bound) refl e in
      record {
        two = p.0;
        size = p.1.0;
        reserved = p.1.1.0;
        place = p.1.1.1.0;
        deep = p.1.1.1.1.0;
        kind = p.1.1.1.1.1.0;
        fixed = p.1.1.1.1.1.1.0;
        fields = p.1.1.1.1.1.1.1.0;
        extent = p.1.1.1.1.1.1.1.1.0;
        linkages = p.1.1.1.1.1.1.1.1.1.0;
        floats = p.1.1.1.1.1.1.1.1.1.1.0;
        name = p.1.1.1.1.1.1.1.1.1.1.1.0;
      }

  pub fault_none : Checked dim depth under ws at bound → fault_of dim depth under ws at bound ≡ 0
  unfolding fault_of
  fault_none c =
      simp (
        c.two,
        c.size,
        c.reserved,
        c.place,
        c.deep,
        c.kind,
        c.fixed,
        c.fields,
        c.extent,
        c.linkages,
        c.floats,
        c.name,
      )

  ---- the answer, from the fault and the type

  pub head_bad : (n : ℕ) → fault_of dim depth under ws at bound ≡ n → (n ≡ 0 → ⊥) → head_of dim depth under ws at bound ≡ Bad n
  unfolding head_of
  head_bad n e h = simp (e, ne_eqb n 0 h)

  pub head_plain : fault_of dim depth under ws at bound ≡ 0 → is_header (type_at ws at) ≡ false → head_of dim depth under ws at bound ≡ Plain (at + size_at ws at)
  unfolding head_of
  head_plain e h = simp (e, h)

  pub head_complex : fault_of dim depth under ws at bound ≡ 0 → is_header (type_at ws at) ≡ true → head_of dim depth under ws at bound ≡ Complex (at + size_at ws at) (at + extent_at ws at)
  unfolding head_of
  head_complex e h = simp (e, h)

  ---- and back: what an answer says of the element

  abbrev pub Means : Head → Type 0
  Means (Bad n) = (fault_of dim depth under ws at bound ≡ n) × (n ≡ 0 → ⊥)
  Means (Plain next) = Checked dim depth under ws at bound × ((is_header (type_at ws at) ≡ false) × (next ≡ at + size_at ws at))
  Means (Complex inner end) = Checked dim depth under ws at bound × ((is_header (type_at ws at) ≡ true) × ((inner ≡ at + size_at ws at) × (end ≡ at + extent_at ws at)))

  means_by : (b k : Bool) → eqb (fault_of dim depth under ws at bound) 0 ≡ b → is_header (type_at ws at) ≡ k → Means (cond b (cond k (Complex (at + size_at ws at) (at + extent_at ws at)) (Plain (at + size_at ws at))) (Bad (fault_of dim depth under ws at bound)))
  means_by true true e h = (no_fault (eqb-true _ 0 e), (h, (refl, refl)))
  means_by true false e h = (no_fault (eqb-true _ 0 e), (h, refl))
  means_by false k e h = (refl, eqb-false _ 0 e)

  pub head_means : (h : Head) → head_of dim depth under ws at bound ≡ h → Means h
  unfolding head_of
  head_means h e = subst Means e (means_by (eqb (fault_of dim depth under ws at bound) 0) (is_header (type_at ws at)) refl refl)

  ---- bounds

  -- an element without a fault ends by its bound, and is at depth 8 at most
  pub element_within : fault_of dim depth under ws at bound ≡ 0 → (at + size_at ws at ≤ bound) × (depth ≤ 8)
  element_within e =
      let c = no_fault e in
      omega (arith, leb-true 2 (bound - at) c.two, leb-true (size_at ws at) (bound - at) c.size, leb-true depth 8 c.deep)

  -- a header without a fault has at least 20 words, and its extent ends between its own end and its bound
  pub header_within : fault_of dim depth under ws at bound ≡ 0 → is_header (type_at ws at) ≡ true → (20 ≤ size_at ws at) × ((size_at ws at ≤ extent_at ws at) × (at + extent_at ws at ≤ bound))
  header_within e h =
      let c = no_fault e in
      let two = leb-true 2 (bound - at) c.two in
      let least = header_size dim ws at (type_at ws at) refl c.fixed h in
      let ends = extent_within ws at (bound - at) c.extent h in
      omega arith

---- what head_at answers

module _ (dim depth under : ℕ) (s : List ℕ) (at bound : ℕ) where
  pub read_bad : (n : ℕ) → n ≡ fault_of dim depth under (words s) at bound → (n ≡ 0 → ⊥) → HeadRead dim depth under s at bound (Bad n)
  read_bad n e h = record { is = sym (head_bad dim depth under (words s) at bound n (sym e) h); within = tt }

  pub read_plain : fault_of dim depth under (words s) at bound ≡ 0 → is_header (type_at (words s) at) ≡ false → HeadRead dim depth under s at bound (Plain (at + size_at (words s) at))
  read_plain e h =
      let ends = element_within dim depth under (words s) at bound e in
      record { is = sym (head_plain dim depth under (words s) at bound e h); within = omega arith }

  pub read_complex : fault_of dim depth under (words s) at bound ≡ 0 → is_header (type_at (words s) at) ≡ true → HeadRead dim depth under s at bound (Complex (at + size_at (words s) at) (at + extent_at (words s) at))
  read_complex e h =
      let ends = element_within dim depth under (words s) at bound e in
      let extends = header_within dim depth under (words s) at bound e h in
      record { is = sym (head_complex dim depth under (words s) at bound e h); within = omega arith }
