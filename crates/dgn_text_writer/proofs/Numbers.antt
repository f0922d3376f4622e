-- What the tests of a signed number of 64 bits say of it: the machine's reading of its bits is the number itself (`to_z-of_z`).
use Prim.Native.Nat.{ℕ, ◌<◌}
use mathlib.Core.Path.{◌≡◌, refl, ap}
use mathlib.Core.Bool.{Bool, true, false, cond, ◌&&◌}
use native.Mathlib.Omega.{arith}
use mathlib.Core.List.{List}
use lib.ListN.{length}
use lib.Dec.{eqb}
use lib.IntN.{ℤ, pos, negsuc}
use lib.Signed.{mag}
use borrow.Author.Tests.{ltb-true, ne_eqb, eqb-true}
use mir.Syntax.{w64}
use mir.Val.{SFits, of_z}
use Rattle.fields.proofs.Bounds.{both}
use Rattle.text_fields.specs.declared.Text.{Text}
use Rattle.ranges.specs.Ranges.{is_coordinate}
use Rattle.write_answers.specs.Writing.{number_at, natural}
use Rattle.dgn_text_writer.specs.Writing.{text_given, odd_by}

---- the odd byte

minus_one : (z : ℤ) → SFits w64 z → of_z w64 z ≡ 18446744073709551615 → z ≡ negsuc 0
minus_one (pos n) f e = absurd (omega (arith, f.sfits))
minus_one (negsuc n) f e = ap negsuc (omega (arith, f.sfits))

other_than : (even : Bool) (z : ℤ) → SFits w64 z → (of_z w64 z ≡ 18446744073709551615 → ⊥) → natural z ≡ odd_by even z
other_than even (pos n) f e = refl
other_than even (negsuc n) f e = go even
  where
    some : eqb n 0 ≡ false
    some = ne_eqb n 0 (λ z. e (omega arith))

    go : (b : Bool) → ◌≡◌ {A = ℕ} 4294967296 (cond (b && eqb n 0) 0 4294967296)
    go true = rw some refl
    go false = refl

---- of a number as the machine reads it

module _ (z : ℤ) (f : SFits w64 z) where
  pub none : (even : Bool) → of_z w64 z ≡ 18446744073709551615 → cond even 0 4294967296 ≡ odd_by even z
  none even e = rw (minus_one z f e) (go even)
    where
      go : (b : Bool) → ◌≡◌ {A = ℕ} (cond b 0 4294967296) (cond (b && true) 0 4294967296)
      go true = refl
      go false = refl

  pub other : (even : Bool) → (of_z w64 z ≡ 18446744073709551615 → ⊥) → natural z ≡ odd_by even z
  other even e = other_than even z f e

---- a slice of them

pub record Given (l : List ℤ) : Type 0 where
  pub twelve : length l ≡ 12
  pub x : mag (number_at l 8) < 2147483648
  pub y : mag (number_at l 9) < 2147483648
  pub z : mag (number_at l 10) < 2147483648

pub given : (l : List ℤ) → text_given l ≡ true → Given l
unfolding text_given
given l e =
    let a = both (eqb (length l) 12) _ e in
    let b = both (is_coordinate (number_at l 8)) _ a.1 in
    let c = both (is_coordinate (number_at l 9)) (is_coordinate (number_at l 10)) b.1 in
    record {
      twelve = eqb-true (length l) 12 a.0;
      x = ltb-true _ 2147483648 b.0;
      y = ltb-true _ 2147483648 c.0;
      z = ltb-true _ 2147483648 c.1;
    }

-- texts of the same numbers
pub same_text : {a b c d e f g h a' b' c' d' e' f' g' h' : ℕ} {x y z x' y' z' : ℤ} {o o' : ℕ} →
    a ≡ a' → b ≡ b' → c ≡ c' → d ≡ d' → e ≡ e' → f ≡ f' → g ≡ g' → h ≡ h' → x ≡ x' → y ≡ y' → z ≡ z' → o ≡ o' →
    ◌≡◌ {A = Text}
    (record { font = a; justification = b; length = c; height = d; first = e; second = f; third = g; fourth = h; x = x; y = y; z = z; odd = o })
    (record { font = a'; justification = b'; length = c'; height = d'; first = e'; second = f'; third = g'; fourth = h'; x = x'; y = y'; z = z'; odd = o' })
same_text p q r s t u v w i j k m = rw (p, q, r, s, t, u, v, w, i, j, k, m) refl
