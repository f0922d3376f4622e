-- Numbers and floats put one behind another, and slices by whether they have room.
use Prim.Native.Nat.{ℕ, suc, ◌+◌, ◌≤◌, ◌<◌}
use mathlib.Core.Path.{◌≡◌, refl}
use mathlib.Core.Bool.{false, and-false}
use mathlib.Core.List.{List, [], ◌∷◌}
use native.Mathlib.Omega.{arith}
use lib.ListN.{length, set}
use lib.Seq.{sets}
use lib.IntN.{ℤ}
use lib.Ieee.{Float}
use borrow.Author.Tests.{le-leb, lt-leb}
use Rattle.std.specs.Prelude.{Result}
use Rattle.refusals.specs.declared.Refusal.{Refusal}
use Rattle.curve_views.specs.declared.Curve.{Curve}
use Rattle.curve_numbers.specs.Numbers.{room_for, numbers_of, floats_of, put_numbers, put_floats}

---- one by one

pub five_put : {A : Type 0} (s : List A) (at : ℕ) (a b c d e : A) →
    set (set (set (set (set s at a) (at + 1) b) (at + 2) c) (at + 3) d) (at + 4) e ≡ sets s at (a ∷ b ∷ c ∷ d ∷ e ∷ [])
five_put s at a b c d e =
    let i : at + 1 ≡ suc at = omega arith in
    let j : at + 2 ≡ suc (suc at) = omega arith in
    let k : at + 3 ≡ suc (suc (suc at)) = omega arith in
    let l : at + 4 ≡ suc (suc (suc (suc at))) = omega arith in
    rw (i, j, k, l) refl

pub seven_put : {A : Type 0} (s : List A) (at : ℕ) (a b c d e f g : A) →
    set (set (set (set (set (set (set s at a) (at + 1) b) (at + 2) c) (at + 3) d) (at + 4) e) (at + 5) f) (at + 6) g ≡ sets s at (a ∷ b ∷ c ∷ d ∷ e ∷ f ∷ g ∷ [])
seven_put s at a b c d e f g =
    let m : at + 5 ≡ suc (suc (suc (suc (suc at)))) = omega arith in
    let n : at + 6 ≡ suc (suc (suc (suc (suc (suc at))))) = omega arith in
    rw (five_put s at a b c d e, m, n) refl

---- both slices

module _ (numbers : List ℤ) (at : ℕ) (floats : List Float) (from : ℕ) (c : Result Curve Refusal) where
  none : room_for numbers at floats from ≡ false → (numbers ≡ put_numbers numbers at floats from c) × (floats ≡ put_floats numbers at floats from c)
  unfolding put_numbers put_floats
  none e = (rw e refl, rw e refl)

  pub no_numbers : length numbers < at + 7 → (numbers ≡ put_numbers numbers at floats from c) × (floats ≡ put_floats numbers at floats from c)
  no_numbers h = none (rw (lt-leb (at + 7) (length numbers) h) refl)

  pub no_floats : length floats < from + 5 → (numbers ≡ put_numbers numbers at floats from c) × (floats ≡ put_floats numbers at floats from c)
  no_floats h = none (rw (lt-leb (from + 5) (length floats) h, and-false) refl)

  pub both_put : at + 7 ≤ length numbers → from + 5 ≤ length floats → (numbers' : List ℤ) (floats' : List Float) → numbers' ≡ sets numbers at (numbers_of c) → floats' ≡ sets floats from (floats_of c) →
      (numbers' ≡ put_numbers numbers at floats from c) × (floats' ≡ put_floats numbers at floats from c)
  unfolding put_numbers put_floats
  both_put h l numbers' floats' p q =
      (rw (le-leb (at + 7) (length numbers) h, le-leb (from + 5) (length floats) l) p, rw (le-leb (at + 7) (length numbers) h, le-leb (from + 5) (length floats) l) q)
