-- What the tests of the code say: two tests are `between`, three are a point in a range, and a turn of the loop is one point more.
use Prim.Native.Nat.{ℕ, zero, suc, ◌+◌, ◌-◌, ◌*◌, ◌≤◌, ◌<◌}
use mathlib.Core.Path.{◌≡◌, refl, ap, ◌∙◌}
use mathlib.Core.Logic.{◌≢◌}
use mathlib.Core.Bool.{Bool, true, false, cond, not, ◌&&◌, ◌||◌}
use mathlib.Core.List.{List}
use native.Mathlib.Omega.{arith}
use lib.Dec.{eqb, leb, ltb}
use lib.IntN.{ℤ, pos, negsuc}
use lib.Signed.{mag, le_z, lt_z}
use borrow.Author.Tests.{lt-leb, le-leb, ltb-true, ltb-false, eq-eqb, ne_eqb}
use mir.Syntax.{w64}
use mir.Val.{SFits, to_z, of_z}
use mir.ValLaws.{to_z-of_z}
use Rattle.words.specs.Words.{long_at, signed}
use Rattle.headers.specs.Header.{type_at}
use Rattle.views.specs.Views.{range_of}
use Rattle.points_linkages.specs.Points.{point_count, before_points, point_at}
use Rattle.range_checks.specs.InRange.{is_range_checked, between, lies_in, point_words, each_lies, in_range, in_range_in}
use Rattle.std.specs.Prelude.{Ok, Option}
use Rattle.refusals.specs.Refusals.{refused_with}
use Rattle.views.specs.Range.{longs_with}
use Rattle.views.specs.declared.Range.{Range}

---- a number between two

-- at most is not above
least : (a b : ℕ) → leb a b ≡ not (ltb b a)
least a b = go (ltb b a) refl
  where
    go : (t : Bool) → ltb b a ≡ t → leb a b ≡ not t
    go true e = lt-leb a b (ltb-true b a e)
    go false e = le-leb a b (ltb-false b a e)

at_most : (a b : ℤ) → le_z a b ≡ not (lt_z b a)
at_most (pos a) (pos b) = least a b
at_most (pos a) (negsuc b) = refl
at_most (negsuc a) (pos b) = refl
at_most (negsuc a) (negsuc b) = least b a

-- of numbers as the machine reads them
module _ (low high z : ℤ) (l : SFits w64 low) (h : SFits w64 high) (f : SFits w64 z) where
  pub too_low : lt_z (to_z w64 (of_z w64 z)) (to_z w64 (of_z w64 low)) ≡ true → false ≡ between low high z
  too_low e =
      let t : lt_z z low ≡ true = rw (to_z-of_z w64 z f, to_z-of_z w64 low l) at e in
      rw (at_most low z, t) refl

  pub from_low : lt_z (to_z w64 (of_z w64 z)) (to_z w64 (of_z w64 low)) ≡ false → le_z (to_z w64 (of_z w64 z)) (to_z w64 (of_z w64 high)) ≡ between low high z
  from_low e =
      let t : lt_z z low ≡ false = rw (to_z-of_z w64 z f, to_z-of_z w64 low l) at e in
      rw (to_z-of_z w64 z f, to_z-of_z w64 high h, at_most low z, t) refl

-- of the ends that a range holds, and a coordinate that was read
pub held : (low high z : ℤ) → mag low < 9223372036854775808 → mag high < 9223372036854775808 → mag z < 9223372036854775808 → (w : ℤ) → z ≡ w →
    {r : Bool} → r ≡ between (to_z w64 (of_z w64 low)) (to_z w64 (of_z w64 high)) (to_z w64 (of_z w64 z)) → r ≡ between low high w
held low high z l h f w e q =
    rw (to_z-of_z w64 low (record { sfits = l }), to_z-of_z w64 high (record { sfits = h }), to_z-of_z w64 z (record { sfits = f }), e) at q

---- a point in a range

-- its tests one after another; of a 2D file z is not asked
lies_is : (dim : ℕ) (ws : List ℕ) (q : ℕ) (a b c d e f : ℤ) →
    lies_in (longs_with a b c d e f) (point_at dim ws q)
    ≡ (between a d (signed (long_at ws q)) && (between b e (signed (long_at ws (q + 2))) && (eqb dim 2 || between c f (signed (long_at ws (q + 4))))))
lies_is dim ws q a b c d e f = go (eqb dim 2) refl (between b e (signed (long_at ws (q + 2)))) refl
  where
    go : (t : Bool) → eqb dim 2 ≡ t → (y : Bool) → between b e (signed (long_at ws (q + 2))) ≡ y →
        lies_in (longs_with a b c d e f) (point_at dim ws q)
        ≡ (between a d (signed (long_at ws q)) && (y && (t || between c f (signed (long_at ws (q + 4))))))
    go true e true m = rw (e, m) refl
    go true e false m = rw (e, m) refl
    go false e y m = rw (e, m) refl

module _ (dim : ℕ) (ws : List ℕ) (q : ℕ) {a b c d e f : ℤ} {r : Option Range} (is : r ≡ longs_with a b c d e f) where
  lies : lies_in r (point_at dim ws q)
      ≡ (between a d (signed (long_at ws q)) && (between b e (signed (long_at ws (q + 2))) && (eqb dim 2 || between c f (signed (long_at ws (q + 4))))))
  lies = ap (λ s. lies_in s (point_at dim ws q)) is ∙ lies_is dim ws q a b c d e f

  -- x is outside; y is; a point of a 2D file lies in it; one of a 3D file by its z
  module _ {x : Bool} (ex : x ≡ between a d (signed (long_at ws q))) where
    pub not_x : x ≡ false → false ≡ lies_in r (point_at dim ws q)
    not_x n = rw (lies, ← ex, n) refl

    module _ (yes_x : x ≡ true) {y : Bool} (ey : y ≡ between b e (signed (long_at ws (q + 2)))) where
      pub not_y : y ≡ false → false ≡ lies_in r (point_at dim ws q)
      not_y n = rw (lies, ← ex, yes_x, ← ey, n) refl

      module _ (yes_y : y ≡ true) where
        pub flat_lies : dim ≡ 2 → true ≡ lies_in r (point_at dim ws q)
        flat_lies n = rw (lies, ← ex, yes_x, ← ey, yes_y, eq-eqb dim 2 n) refl

        pub solid_lies : (dim ≡ 2 → ⊥) → {z : Bool} → z ≡ between c f (signed (long_at ws (q + 4))) → z ≡ lies_in r (point_at dim ws q)
        solid_lies n {z} ez = rw (lies, ← ex, yes_x, ← ey, yes_y, ne_eqb dim 2 n, ← ez) refl

---- the points of an element

-- a point has four words or six
pub words_least : (dim : ℕ) → 4 ≤ point_words dim
words_least dim = go (eqb dim 2)
  where
    go : (b : Bool) → 4 ≤ cond b 4 6
    go true = omega arith
    go false = omega arith

pub words_solid : (dim : ℕ) → (dim ≡ 2 → ⊥) → point_words dim ≡ 6
words_solid dim h = rw (ne_eqb dim 2 h) refl

-- so points have few
pub words_few : (dim n : ℕ) → point_words dim * n ≤ 6 * n
words_few dim n = go (eqb dim 2)
  where
    go : (b : Bool) → cond b 4 6 * n ≤ 6 * n
    go true = omega arith
    go false = omega arith

-- those of one point more
pub words_more : (dim n : ℕ) → n ≢ 0 → point_words dim * n ≡ point_words dim * (n - 1) + point_words dim
words_more dim zero h = absurd (h refl)
words_more dim (suc n) h = go (eqb dim 2)
  where
    go : (b : Bool) → cond b 4 6 * suc n ≡ cond b 4 6 * (suc n - 1) + cond b 4 6
    go true = omega arith
    go false = omega arith

-- the first of them decides, or the others do
pub each_first : (n : ℕ) (r : Option Range) (dim : ℕ) (ws : List ℕ) (q : ℕ) → n ≢ 0 →
    each_lies n r dim ws q ≡ (lies_in r (point_at dim ws q) && each_lies (n - 1) r dim ws (q + point_words dim))
each_first zero r dim ws q h = absurd (h refl)
each_first (suc n) r dim ws q h =
    let z : n ≡ suc n - 1 = omega arith in ap (λ m. lies_in r (point_at dim ws q) && each_lies m r dim ws (q + point_words dim)) z

---- an element

-- it is another type, or the points decide
module _ (dim : ℕ) (ws : List ℕ) (at : ℕ) where
  pub other_type : is_range_checked (type_at ws at) ≡ false → refused_with 6 at ≡ in_range_in dim ws at
  unfolding in_range_in
  other_type e = rw e refl

  module _ (e : is_range_checked (type_at ws at) ≡ true) (n b : ℕ) (r : Option Range) (count : n ≡ point_count ws at) (before : b ≡ before_points ws at) (own : r ≡ range_of ws at) where
    pub answer_is : {t : Bool} → t ≡ each_lies n r dim ws (at + b) → Ok t ≡ in_range_in dim ws at
    unfolding in_range_in in_range
    answer_is q =
        rw e (ap Ok (q ∙ ap (λ m. each_lies m r dim ws (at + b)) count ∙ ap (λ m. each_lies (point_count ws at) r dim ws (at + m)) before
        ∙ ap (λ s. each_lies (point_count ws at) s dim ws (at + before_points ws at)) own))
