-- A field of an accepted file passed its test, so it lies in the characters.
use Prim.Native.Nat.{ℕ, zero, suc, ◌+◌, ◌*◌, ◌<◌}
use mathlib.Core.Path.{◌≡◌, refl, ap}
use mathlib.Core.Logic.{◌⊎◌, inl, inr}
use mathlib.Core.Bool.{Bool, true, false, cond, not, ◌&&◌, ◌||◌, and-eq-true_iff}
use mathlib.Core.List.{List}
use native.Mathlib.Omega.{arith}
use lib.IntN.{pos, negsuc}
use lib.Dec.{eqb, leb, ltb}
use borrow.Author.Tests.{eqb-true, eq-eqb, leb-true, ltb-true}
use Rattle.words.specs.Words.{words}
use Rattle.texts.specs.Texts.{byte_at, characters_in, fields_in, counts_at, field_byte, field_ok, each_field_ok, fields_ok}
use Rattle.headers.specs.Header.{type_at}
use Rattle.elements.specs.Rules.{text_fields_ok}
use Rattle.places.proofs.OfType.{Way, nowhere, another, of_type_lem, way}
use Rattle.refusals.specs.Refusals.{refused_with}
use Rattle.refusals.proofs.Laws.{given_is, refused_not_given}
use Rattle.text_views.specs.TextViews.{is_text, field_justification, field_at, field_in, field_of}
use Rattle.text_views.specs.Fields.{Within, FieldsWithin}
use Rattle.text_views.proofs.Inside.{characters_held}
use Rattle.text_views.specs.Field.{field_with}

-- of fields that pass their test, field k does
field_passes : (n c : ℕ) (ws : List ℕ) (at j k i : ℕ) → each_field_ok n c ws at j ≡ true → k < n → i ≡ j + 3 * k → field_ok c (byte_at ws at i) (byte_at ws at (i + 1)) (byte_at ws at (i + 2)) ≡ true
unfolding each_field_ok
field_passes zero c ws at j k i e h p = absurd (omega arith)
field_passes (suc n) c ws at j zero i e h p =
    let z : i ≡ j = omega arith in
    rw z ((and-eq-true_iff (field_ok c (byte_at ws at j) (byte_at ws at (j + 1)) (byte_at ws at (j + 2))) (each_field_ok n c ws at (j + 3))).0 e).0
field_passes (suc n) c ws at j (suc k) i e h p =
    field_passes n c ws at (j + 3) k i ((and-eq-true_iff (field_ok c (byte_at ws at j) (byte_at ws at (j + 1)) (byte_at ws at (j + 2))) (each_field_ok n c ws at (j + 3))).0 e).1 (omega arith) (omega arith)

justified : (j : ℕ) → (eqb j 255 || (eqb j 0 || eqb j 1)) ≡ true → (field_justification j ≡ negsuc 0) ⊎ ((field_justification j ≡ pos 0) ⊎ (field_justification j ≡ pos 1))
justified j e = go (eqb j 255) (eqb j 0) (eqb j 1) refl refl refl e
  where
    go : (a b c : Bool) → eqb j 255 ≡ a → eqb j 0 ≡ b → eqb j 1 ≡ c → (a || (b || c)) ≡ true → (field_justification j ≡ negsuc 0) ⊎ ((field_justification j ≡ pos 0) ⊎ (field_justification j ≡ pos 1))
    go true b c p q r e = inl (rw p refl)
    go false true c p q r e = inr (inl (rw p (ap pos (eqb-true j 0 q))))
    go false false true p q r e = inr (inr (rw p (ap pos (eqb-true j 1 r))))
    go false false false p q r e = let z : ◌≡◌ {A = ℕ} 0 1 = cc in absurd (omega arith)

-- what the test of a field says
passed : (c first size j : ℕ) → field_ok c first size j ≡ true → Within c first size (field_justification j)
passed c first size j e =
    let begin = leb 1 first && leb first c in
    let right = eqb j 255 || (eqb j 0 || eqb j 1) in
    let a = (and-eq-true_iff begin (leb (first + size) (c + 1) && right)).0 e in
    let b = (and-eq-true_iff (leb 1 first) (leb first c)).0 a.0 in
    let d = (and-eq-true_iff (leb (first + size) (c + 1)) right).0 a.1 in
    record { begins = leb-true 1 first b.0; there = leb-true first c b.1; ends = leb-true (first + size) (c + 1) d.0; justified = justified j d.1 }

-- the fields of a text pass
text_passes : (dim t : ℕ) (ws : List ℕ) (at : ℕ) → t ≡ 17 → (not (eqb t 17) || fields_ok dim ws at) ≡ true → fields_ok dim ws at ≡ true
text_passes dim t ws at e h = rw (eq-eqb t 17 e) at h

pub fields_within : FieldsWithin
unfolding field_of field_in field_at fields_ok text_fields_ok
fields_within dim s at k start c first size justification q f =
    let held = characters_held dim s at start c q in
    let counts = counts_at dim (words s) at in
    let ok = text_passes dim (type_at (words s) at) (words s) at held.text held.ruled.checked.fields in
    go (ltb k (fields_in counts)) refl held.counted ok
    (way is_text refused_with dim s at (cond (ltb k (fields_in counts)) (field_at dim (words s) at k) (refused_with 13 0)) (field_with first size justification) f)
  where
    go : (b : Bool) → ltb k (fields_in (counts_at dim (words s) at)) ≡ b → c ≡ characters_in (counts_at dim (words s) at) → fields_ok dim (words s) at ≡ true →
        Way is_text refused_with dim s at (cond b (field_at dim (words s) at k) (refused_with 13 0)) (field_with first size justification) → Within c first size justification
    go b t counted ok (nowhere n p e g) = absurd (refused_not_given g)
    go b t counted ok (another end depth above e h g) = absurd (refused_not_given g)
    go false t counted ok (of_type_lem end depth above e h g) = absurd (refused_not_given g)
    go true t counted ok (of_type_lem end depth above e h g) =
        let counts = counts_at dim (words s) at in
        let i = field_byte dim counts k in
        let p = passed (characters_in counts) (byte_at (words s) at i) (byte_at (words s) at (i + 1)) (byte_at (words s) at (i + 2))
        (field_passes (fields_in counts) (characters_in counts) (words s) at (field_byte dim counts 0) k i ok (ltb-true k (fields_in counts) t) (omega arith)) in
        let same = given_is g in
        let a : first ≡ byte_at (words s) at i = ap (λ r. r.first) same in
        let b : size ≡ byte_at (words s) at (i + 1) = ap (λ r. r.length) same in
        let j : justification ≡ field_justification (byte_at (words s) at (i + 2)) = ap (λ r. r.justification) same in
        rw (counted, a, b, j) p
