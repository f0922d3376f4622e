-- The grammar's rules of one element's own words are the tests that judging makes of them, rule by rule, there and back.
use Prim.Native.Nat.{ℕ, zero, suc, ◌+◌, ◌-◌, ◌*◌, ◌/◌, ◌%◌, ◌≤◌, ◌<◌}
use mathlib.Core.Path.{◌≡◌, refl, sym, ap, ap₂, ◌∙◌, subst}
use mathlib.Core.Logic.{◌⊎◌, ◌↔◌, inl, inr}
use mathlib.Core.Bool.{Bool, true, false, not, cond, ◌||◌, or-false}
use mathlib.Core.List.{List, [], ◌∷◌, ◌++◌, append-nil}
use native.Mathlib.Nat.{zero-add}
use native.Mathlib.Omega.{arith}
use lib.ListN.{length, take, drop, length-append, length-drop, take-append-drop}
use lib.Seq.{length-take-le, take_all}
use lib.Dec.{eqb}
use borrow.Author.Tests.{eqb-true}
use Rattle.words.specs.Words.{word_at}
use Rattle.names.specs.Names.{name_ok, text_of}
use Rattle.names.proofs.OneToOne.{pack_unpack, pack_stored}
use Rattle.texts.specs.Texts.{byte_at, counts_word, characters_in, fields_in, text_bytes, text_part, field_byte, field_ok, each_field_ok, fields_ok}
use Rattle.texts.proofs.Laws.{byte_of}
use Rattle.dfloats.specs.FirstWord.{is_reserved}
use Rattle.curves.specs.Curves.{axes_word, float_places, each_float_ok, floats_ok}
use Rattle.kinds.specs.FirstWord.{reserved_of, c_of}
use Rattle.kinds.specs.Kinds.{one_of, is_header, sizing_word, fixed_part, may_stand}
use Rattle.kinds.proofs.Types.{Each, each_named, sized_long}
use Rattle.linkages.specs.Linkages.{linkages_fill, Linkages}
use Rattle.linkages.proofs.Meaning.{fills_is, is_fills}
use Rattle.headers.specs.Header.{type_at, sizing_at, name_first, name_second}
use Rattle.headers.specs.Flags.{reserved_ok, place_ok}
use Rattle.elements.specs.Attributes.{attributes_ok, linkages_ok}
use Rattle.elements.specs.Rules.{fixed_ok, text_fields_ok, curve_floats_ok, stored_name_ok, count_ok}
use Rattle.words.specs.OneOf.{OneOf}
use Rattle.grammar.specs.Types.{headers, counted, pointed, linked, Row, row, text_words, fixed_parts, NotBelow}
use Rattle.grammar.specs.Own.{type_in, PastFixed, byte_in, Field, Fields, IsNumber, Numbers, Allowed, Attributes, Named, Own}
use Rattle.grammar.proofs.Tests.{Extent, OwnTests}
use Rattle.grammar.proofs.Says.{Says, says_as, says_so, says_eq, says_le, says_not, says_and, says_rule, says_with, says_never, says_or, says_unless, says_one_of, says_which}

---- bits 6 and 7 of word 0, and what may stand where

reserved_says : (own : List ℕ) → Says (reserved_ok (word_at own 0)) (¬ (type_in own ≡ 9) → reserved_of (word_at own 0) ≡ 0)
unfolding reserved_ok
reserved_says own = says_unless (says_eq (type_in own) 9) (says_eq (reserved_of (word_at own 0)) 0)

place_says : (depth : ℕ) (own : List ℕ) →
    Says (place_ok depth (word_at own 0)) (¬ (type_in own ≡ 9) → (depth ≡ 0 → c_of (word_at own 0) ≡ 0) × (¬ (depth ≡ 0) → c_of (word_at own 0) ≡ 1))
unfolding place_ok
place_says depth own =
    says_unless (says_eq (type_in own) 9)
    (says_as (says_eq (c_of (word_at own 0)) (cond (eqb depth 0) 0 1)) (says_which (says_eq depth 0) (λ b. c_of (word_at own 0) ≡ cond b 0 1)))

kind_says : (dim under t : ℕ) → Says (may_stand dim under t) (Allowed dim under t)
unfolding may_stand
kind_says dim under t =
    says_as
    (says_and
    (says_and (says_not (says_one_of (24 ∷ 27 ∷ 87 ∷ []) t)) (says_never (says_eq dim 2) (says_one_of (18 ∷ 19 ∷ []) t)))
    (says_and (says_with (says_eq t 1) (says_eq under 0))
    (says_and (says_with (says_eq under 7) (says_eq t 17)) (says_never (says_one_of (12 ∷ 14 ∷ 18 ∷ 19 ∷ []) under) (says_one_of headers t))))) (
      λ h. record { read = h.0.0; flat = h.0.1; library = h.1.0; texts = h.1.1.0; closed = h.1.1.1 },
      λ a. ((a.read, a.flat), (a.library, (a.texts, a.closed))),
    )

---- the table of fixed parts

-- the types whose fixed part is as long as a word of theirs says
abbrev sized : List ℕ
sized = 4 ∷ 6 ∷ 11 ∷ 17 ∷ 21 ∷ []

same : (x : ℕ) (b : Bool) → cond b x x ≡ x
same x true = refl
same x false = refl

-- a text's row: its words are counted from its start, and rounded up once
text_row : (dim : ℕ) (own : List ℕ) →
    cond (eqb dim 2) (30 + text_words (word_at own 29)) (38 + text_words (word_at own 37)) ≡ text_part dim (word_at own (0 + counts_word dim))
unfolding text_part
text_row dim own = go (eqb dim 2)
  where
    go : (b : Bool) → cond b (30 + text_words (word_at own 29)) (38 + text_words (word_at own 37)) ≡ cond b 29 37 + 1 + (text_bytes (word_at own (0 + cond b 29 37)) + 1) / 2
    go true = omega arith
    go false = omega arith

module _ (dim t m : ℕ) where
  -- the word that sizes the fixed part of a type
  abbrev sizing : List ℕ → ℕ → ℕ
  sizing own k = word_at own (0 + sizing_word dim k)

  -- the fixed part by the first row that has the type
  abbrev part_by : List Row → ℕ
  part_by [] = 2
  part_by (row types flat solid ∷ rows) = cond (one_of types t) (cond (eqb dim 2) flat solid) (part_by rows)

  by_table : (rows : List Row) → NotBelow dim t rows m → part_by rows ≤ m
  by_table [] h = h
  by_table (row types flat solid ∷ rows) h =
      (says_which (says_one_of types t) (λ b. cond b (cond (eqb dim 2) flat solid) (part_by rows) ≤ m)).1
      (λ o. (says_which (says_eq dim 2) (λ b. cond b flat solid ≤ m)).1 (h.0 o), λ _. by_table rows h.1)

  part_is : (own : List ℕ) → part_by (fixed_parts own) ≡ fixed_part dim t (sizing own t)
  unfolding fixed_part
  part_is own = go (eqb t 17) refl
    where
      go : (b : Bool) → eqb t 17 ≡ b → part_by (fixed_parts own) ≡ fixed_part dim t (sizing own t)
      go true e = rw (eqb-true t 17 e) (text_row dim own)
      go false e = simp (or-false, same, e)

  -- each row has the fixed part of each of its types
  abbrev Right : (ℕ → ℕ) → List Row → Type 0
  Right part [] = Unit {0}
  Right part (row types flat solid ∷ rows) = Each (λ k. part k ≡ cond (eqb dim 2) flat solid) types × Right part rows

  table_right : (own : List ℕ) → Right (λ k. fixed_part dim k (sizing own k)) (fixed_parts own)
  unfolding fixed_part
  table_right own =
      let alike : (x : ℕ) → x ≡ cond (eqb dim 2) x x = λ x. sym (same x (eqb dim 2)) in (
        (alike 35, tt),
        ((refl, tt), ((refl, tt), ((refl, (refl, (refl, (refl, tt)))), ((refl, tt), ((alike 20, (alike 20, tt)), ((refl, tt), ((refl, tt), ((sym (text_row dim own), tt), ((alike 21, (alike 21, tt)), tt))))))))),
      )

  by_part : (part : ℕ → ℕ) (rows : List Row) → Right part rows → 2 ≤ m → part t ≤ m → NotBelow dim t rows m
  by_part part [] r two h = two
  by_part part (row types flat solid ∷ rows) r two h = (
    λ o. (says_which (says_eq dim 2) (λ b. cond b flat solid ≤ m)).0
        (subst (λ x. x ≤ m) (each_named (λ k. part k ≡ cond (eqb dim 2) flat solid) types t r.0 ((says_one_of types t).says o)) h),
    by_part part rows r.1 two h,
  )

  part_held : (own : List ℕ) → NotBelow dim t (fixed_parts own) m → fixed_part dim t (sizing own t) ≤ m
  part_held own h = subst (λ x. x ≤ m) (part_is own) (by_table (fixed_parts own) h)

  held_part : (own : List ℕ) → 2 ≤ m → fixed_part dim t (sizing own t) ≤ m → NotBelow dim t (fixed_parts own) m
  held_part own two h = by_part (λ k. fixed_part dim k (sizing own k)) (fixed_parts own) (table_right own) two h

---- the fixed part, the attribute part, the name

name_says : (a b : ℕ) → Says (name_ok a b) (Named a b)
name_says a b = record { said = λ e. record { text = text_of a b; packs = pack_unpack a b e }; says = λ h. (pack_stored h.text a b h.packs).ok }

names_says : (own : List ℕ) →
    Says (stored_name_ok own 0) ((type_in own ≡ 1 → Named (word_at own 16) (word_at own 17)) × (type_in own ≡ 2 → Named (word_at own 19) (word_at own 20)))
unfolding stored_name_ok
names_says own =
    says_as
    (says_rule (says_one_of (1 ∷ 2 ∷ []) (type_in own)) (says_so (name_ok (name_first own 0) (name_second own 0))))
    (λ f. (λ t. (name_says _ _).said (rw t at (f (inl t))), λ t. (name_says _ _).said (rw t at (f (inr (inl t))))), back)
  where
    back : (type_in own ≡ 1 → Named (word_at own 16) (word_at own 17)) × (type_in own ≡ 2 → Named (word_at own 19) (word_at own 20)) →
        OneOf (1 ∷ 2 ∷ []) (type_in own) → name_ok (name_first own 0) (name_second own 0) ≡ true
    back f (inl t) = rw t ((name_says (word_at own 16) (word_at own 17)).says (f.0 t))
    back f (inr (inl t)) = rw t ((name_says (word_at own 19) (word_at own 20)).says (f.1 t))
    back f (inr (inr x)) = absurd x

---- the fields of a text

justified_says : (x : ℕ) → Says (eqb x 255 || (eqb x 0 || eqb x 1)) (OneOf (0 ∷ 1 ∷ 255 ∷ []) x)
justified_says x = says_as (says_or (says_eq x 255) (says_or (says_eq x 0) (says_eq x 1))) (there, back)
  where
    there : (x ≡ 255) ⊎ ((x ≡ 0) ⊎ (x ≡ 1)) → OneOf (0 ∷ 1 ∷ 255 ∷ []) x
    there (inl e) = inr (inr (inl e))
    there (inr (inl e)) = inl e
    there (inr (inr e)) = inr (inl e)

    back : OneOf (0 ∷ 1 ∷ 255 ∷ []) x → (x ≡ 255) ⊎ ((x ≡ 0) ⊎ (x ≡ 1))
    back (inl e) = inr (inl e)
    back (inr (inl e)) = inr (inr e)
    back (inr (inr (inl e))) = inl e
    back (inr (inr (inr e))) = absurd e

module _ (own : List ℕ) (c : ℕ) where
  field_says : (j : ℕ) → Says (field_ok c (byte_at own 0 j) (byte_at own 0 (j + 1)) (byte_at own 0 (j + 2))) (Field own c j)
  field_says j =
      let first = byte_in own j in
      rw (sym (byte_of own j), sym (byte_of own (j + 1)), sym (byte_of own (j + 2)))
      (says_as
      (says_and (says_and (says_le 1 first) (says_le first c))
      (says_and (says_le (first + byte_in own (j + 1)) (c + 1)) (justified_says (byte_in own (j + 2))))) (
        λ h. let l = h.1.0 in record { begins = h.0; ends = omega arith; justified = h.1.1 },
        λ f. (f.begins, (f.ends, f.justified)),
      ))

  -- n fields, one after another
  fields_say : (n j : ℕ) → Says (each_field_ok n c own 0 j) ((i : ℕ) → i < n → Field own c (j + 3 * i))
  unfolding each_field_ok
  fields_say zero j = record { said = λ e i h. absurd (omega arith); says = λ f. refl }
  fields_say (suc n) j = says_as (says_and (field_says j) (fields_say n (j + 3))) (there, back)
    where
      there : Field own c j × ((i : ℕ) → i < n → Field own c (j + 3 + 3 * i)) → (i : ℕ) → i < suc n → Field own c (j + 3 * i)
      there h zero l = subst (Field own c) (omega arith) h.0
      there h (suc i) l = subst (Field own c) (omega arith) (h.1 i (omega arith))

      back : ((i : ℕ) → i < suc n → Field own c (j + 3 * i)) → Field own c j × ((i : ℕ) → i < n → Field own c (j + 3 + 3 * i))
      back f = (subst (Field own c) (omega arith) (f 0 (omega arith)), λ i l. subst (Field own c) (omega arith) (f (suc i) (omega arith)))

-- those of a text, whose counts are in word 29, in 3D in word 37
text_fields_say : (dim : ℕ) (own : List ℕ) → Says (text_fields_ok dim own 0) (type_in own ≡ 17 → (dim ≡ 2 → Fields own 29) × (¬ (dim ≡ 2) → Fields own 37))
unfolding text_fields_ok fields_ok
text_fields_say dim own =
    let k = counts_word dim in
    let counts = word_at own k in
    let c = characters_in counts in
    let place : (i : ℕ) → field_byte dim counts 0 + 3 * i ≡ 2 * (k + 1) + c + 3 * i = λ i. omega arith in
    says_rule (says_eq (type_in own) 17)
    (rw (zero-add k)
    (says_as
    (says_as (fields_say own c (fields_in counts) (field_byte dim counts 0)) (
      λ f i l. subst (Field own c) (place i) (f i l),
      λ f i l. subst (Field own c) (sym (place i)) (f i l),
    ))
    (says_which (says_eq dim 2) (λ b. Fields own (cond b 29 37)))))

---- the floats of ellipses and arcs

number_says : (own : List ℕ) (k : ℕ) → Says (not (is_reserved (word_at own k))) (IsNumber own k)
unfolding is_reserved
number_says own k = says_never (says_eq (word_at own k / 32768 % 2) 1) (says_eq (word_at own k / 128 % 256) 0)

-- those that begin at these words
numbers_say : (own ks : List ℕ) → Says (each_float_ok ks own 0) (Numbers own ks)
numbers_say own [] = record { said = λ e k h. absurd h; says = λ f. refl }
numbers_say own (k ∷ ks) = rw (zero-add k) (says_as (says_and (number_says own k) (numbers_say own ks)) (there, λ f. (f k (inl refl), λ i h. f i (inr h))))
  where
    there : IsNumber own k × Numbers own ks → Numbers own (k ∷ ks)
    there h i (inl e) = rw e h.0
    there h i (inr o) = h.1 i o

-- those of a type, in 2D and in 3D
typed_say : (dim : ℕ) (own : List ℕ) (t : ℕ) →
    Says (floats_ok dim t own 0) ((dim ≡ 2 → Numbers own (float_places 2 t)) × (¬ (dim ≡ 2) → Numbers own (float_places 3 t)))
unfolding floats_ok
typed_say dim own t =
    says_as (numbers_say own (float_places dim t))
    (says_which (says_eq dim 2) (λ b. let origin = axes_word t + 8 + cond b 2 8 in Numbers own (axes_word t ∷ (axes_word t + 4) ∷ origin ∷ (origin + 4) ∷ cond b [] ((origin + 8) ∷ []))))

abbrev Ellipse : ℕ → List ℕ → Type 0
Ellipse dim own = (dim ≡ 2 → Numbers own (18 ∷ 22 ∷ 28 ∷ 32 ∷ [])) × (¬ (dim ≡ 2) → Numbers own (18 ∷ 22 ∷ 34 ∷ 38 ∷ 42 ∷ []))

abbrev Arc : ℕ → List ℕ → Type 0
Arc dim own = (dim ≡ 2 → Numbers own (22 ∷ 26 ∷ 32 ∷ 36 ∷ [])) × (¬ (dim ≡ 2) → Numbers own (22 ∷ 26 ∷ 38 ∷ 42 ∷ 46 ∷ []))

floats_say : (dim : ℕ) (own : List ℕ) → Says (curve_floats_ok dim own 0) ((type_in own ≡ 15 → Ellipse dim own) × (type_in own ≡ 16 → Arc dim own))
unfolding curve_floats_ok
floats_say dim own =
    says_as
    (says_rule (says_one_of (15 ∷ 16 ∷ []) (type_in own)) (says_so (floats_ok dim (type_in own) own 0)))
    (λ f. (λ t. (typed_say dim own 15).said (rw t at (f (inl t))), λ t. (typed_say dim own 16).said (rw t at (f (inr (inl t))))), back)
  where
    back : (type_in own ≡ 15 → Ellipse dim own) × (type_in own ≡ 16 → Arc dim own) → OneOf (15 ∷ 16 ∷ []) (type_in own) → floats_ok dim (type_in own) own 0 ≡ true
    back f (inl t) = rw t ((typed_say dim own 15).says (f.0 t))
    back f (inr (inl t)) = rw t ((typed_say dim own 16).says (f.1 t))
    back f (inr (inr x)) = absurd x

count_says : (own : List ℕ) (n : ℕ) → Says (count_ok own 0 n) (OneOf counted (type_in own) → word_at own 19 ≡ n)
unfolding count_ok
count_says own n = says_rule (says_one_of counted (type_in own)) (says_eq (word_at own 19) n)

-- what needs the size
module _ (dim : ℕ) (own : List ℕ) (size : word_at own 1 + 2 ≡ length own) where
  fixed_says : Says (fixed_ok dim own 0) ((OneOf pointed (type_in own) → (2 ≤ word_at own 18) × (word_at own 18 ≤ 101)) × PastFixed dim own (length own))
  unfolding fixed_ok
  fixed_says =
      let t = type_in own in
      let n = word_at own 18 in
      let s = word_at own 1 + 2 in
      let part = fixed_part dim t (sizing_at dim own 0) in
      says_as
      (says_and (says_rule (says_one_of sized t) (says_le (sizing_word dim t + 1) s))
      (says_and (says_rule (says_one_of pointed t) (says_and (says_le 2 n) (says_le n 101))) (says_le part s))) (
        λ h. let l = h.1.1 in (h.1.0, held_part dim t (length own) own (omega arith) (omega arith)),
        λ h.
            let l = part_held dim t (length own) own h.1 in
            (λ o. let p = sized_long dim t (sizing_at dim own 0) ((says_one_of sized t).says o) in omega arith, (h.0, omega arith)),
      )

  attributes_says : Says (attributes_ok dim own 0) (Attributes dim own)
  unfolding attributes_ok linkages_fill
  attributes_says = says_as (says_and (says_le part from) (says_and (says_le from to) (says_so fill))) (there, back)
    where
      part : ℕ
      part = fixed_part dim (type_in own) (sizing_at dim own 0)

      from : ℕ
      from = 16 + word_at own 15

      to : ℕ
      to = word_at own 1 + 2

      fill : Bool
      fill = linkages_fill own (0 + from) (0 + to)

      back : Attributes dim own → (part ≤ from) × ((from ≤ to) × (fill ≡ true))
      back a =
          let all = a.front ++ (a.part ++ []) in
          let b = a.begins in
          let l = ap length a.whole ∙ length-append a.front a.part in
          let is : own ≡ all = a.whole ∙ ap (λ x. a.front ++ x) (sym (append-nil a.part)) in (
            part_held dim (type_in own) from own (subst (PastFixed dim own) b a.after),
            (
              omega arith,
              ap (λ x. linkages_fill x (0 + from) (0 + to)) is ∙ ap₂ (linkages_fill all) (omega arith) (omega arith) ∙ is_fills a.filled a.front [],
            ),
          )

      there : (part ≤ from) × ((from ≤ to) × (fill ≡ true)) → Attributes dim own
      there h =
          let l = h.1.0 in
          let long : length (take from own) ≡ from = length-take-le from own (omega arith) in
          let rest : take (0 + to - (0 + from)) (drop (0 + from) own) ≡ drop from own =
          ap (λ i. take (0 + to - (0 + from)) (drop i own)) (zero-add from) ∙ take_all (0 + to - (0 + from)) (drop from own) (omega (arith, length-drop from own)) in
          record {
            front = take from own;
            part = drop from own;
            whole = sym (take-append-drop from own);
            begins = long;
            after = rw long (held_part dim (type_in own) from own (omega arith) h.0);
            filled = subst Linkages rest (fills_is _ own (0 + from) (0 + to) (omega arith) (omega arith) h.1.1);
          }

  linkages_says : Says (linkages_ok dim own 0) (OneOf linked (type_in own) → word_at own 16 / 2048 % 2 ≡ 1 → Attributes dim own)
  unfolding linkages_ok
  linkages_says =
      says_as (says_rule (says_and (says_one_of linked (type_in own)) (says_eq (word_at own 16 / 2048 % 2) 1)) attributes_says)
      (λ f o a. f (o, a), λ f x. f x.0 x.1)

---- all rules

extent_is : (own : List ℕ) (inside n : ℕ) →
    Extent (is_header (type_at own 0)) own inside n ↔ ((OneOf headers (type_in own) → Extent true own inside n) × (¬ OneOf headers (type_in own) → Extent false own inside n))
extent_is own inside n = says_which (says_one_of headers (type_in own)) (λ b. Extent b own inside n)

module _ {dim depth under : ℕ} {own : List ℕ} {inside n : ℕ} where
  pub own_tests : Own dim depth under own inside n → OwnTests dim depth under own inside n
  own_tests o = record {
    size = o.size;
    reserved = (reserved_says own).says o.reserved;
    place = (place_says depth own).says o.place;
    deep = o.deep;
    kind = (kind_says dim under (type_in own)).says o.kind;
    fixed = (fixed_says dim own o.size).says (o.points, o.fixed);
    fields = (text_fields_say dim own).says o.fields;
    small = o.small;
    extent = (extent_is own inside n).1 (λ h. (o.total h, o.extent h), o.plain);
    linkages = (linkages_says dim own o.size).says o.linkages;
    floats = (floats_say dim own).says (o.ellipse, o.arc);
    name = (names_says own).says (o.library_name, o.cell_name);
    count = (count_says own n).says o.count;
  }

  pub tests_own : OwnTests dim depth under own inside n → Own dim depth under own inside n
  tests_own t =
      let fixed = (fixed_says dim own t.size).said t.fixed in
      let extent = (extent_is own inside n).0 t.extent in
      let names = (names_says own).said t.name in
      let floats = (floats_say dim own).said t.floats in
      record {
        reserved = (reserved_says own).said t.reserved;
        size = t.size;
        small = t.small;
        points = fixed.0;
        fixed = fixed.1;
        fields = (text_fields_say dim own).said t.fields;
        ellipse = floats.0;
        arc = floats.1;
        total = λ h. (extent.0 h).0;
        extent = λ h. (extent.0 h).1;
        count = (count_says own n).said t.count;
        plain = extent.1;
        place = (place_says depth own).said t.place;
        kind = (kind_says dim under (type_in own)).said t.kind;
        deep = t.deep;
        linkages = (linkages_says dim own t.size).said t.linkages;
        library_name = names.0;
        cell_name = names.1;
      }
