-- What the tests of a signed number of 64 bits say of it: the machine's reading of its bits is the number itself (`to_z-of_z`).
use Prim.Native.Nat.{ℕ, ◌≤◌}
use mathlib.Core.Path.{◌≡◌, refl, sym, ap, ◌∙◌, subst}
use mathlib.Core.Bool.{true, false, false≢true}
use mathlib.Core.List.{List}
use native.Mathlib.Omega.{arith}
use lib.ListN.{length, get_or-eq_default}
use lib.Dec.{T}
use lib.IntN.{ℤ, pos, negsuc, nat_abs}
use lib.Signed.{non_neg, lt_z}
use borrow.Author.Tests.{ltb-true}
use mir.Syntax.{w64}
use mir.Val.{Fits, SFits, to_z, of_z}
use mir.ValLaws.{to_z-of_z}
use Rattle.write_answers.specs.Writing.{natural, natural_at}

negative_is : (z : ℤ) → lt_z z (pos 0) ≡ true → 4294967296 ≡ natural z
negative_is (pos n) e = let h = ltb-true n 0 e in absurd (omega arith)
negative_is (negsuc n) e = refl

plain_is : (z : ℤ) → lt_z z (pos 0) ≡ false → nat_abs z ≡ natural z
plain_is (pos n) e = refl
plain_is (negsuc n) e = absurd (false≢true (sym e))

plain_fits : (z : ℤ) → SFits w64 z → lt_z z (pos 0) ≡ false → T (non_neg z) × Fits w64 (nat_abs z)
plain_fits (pos n) f e = (tt, record { fits = omega (arith, f.sfits) })
plain_fits (negsuc n) f e = absurd (false≢true (sym e))

module _ (z : ℤ) (f : SFits w64 z) where
  pub back : to_z w64 (of_z w64 z) ≡ z
  back = to_z-of_z w64 z f

  pub negative : lt_z (to_z w64 (of_z w64 z)) (pos 0) ≡ true → 4294967296 ≡ natural z
  negative e = negative_is z (subst (λ y. lt_z y (pos 0) ≡ true) back e)

  pub plain : lt_z (to_z w64 (of_z w64 z)) (pos 0) ≡ false → nat_abs (to_z w64 (of_z w64 z)) ≡ natural z
  plain e = ap nat_abs back ∙ plain_is z (subst (λ y. lt_z y (pos 0) ≡ false) back e)

  pub plain_cast : lt_z (to_z w64 (of_z w64 z)) (pos 0) ≡ false → T (non_neg (to_z w64 (of_z w64 z))) × Fits w64 (nat_abs (to_z w64 (of_z w64 z)))
  plain_cast e = subst (λ y. T (non_neg y) × Fits w64 (nat_abs y)) (sym back) (plain_fits z f (subst (λ y. lt_z y (pos 0) ≡ false) back e))

-- 0 where a slice has no such number
pub none_there : (l : List ℤ) (i : ℕ) → length l ≤ i → 0 ≡ natural_at l i
none_there l i h = ap natural (sym (get_or-eq_default l (pos 0) {n = i} h))
