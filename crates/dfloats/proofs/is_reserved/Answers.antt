-- Bit 15 set and bits 7 to 14 clear is 256 in bits 7 to 15.
use Prim.Native.Nat.{ℕ, ◌/◌, ◌%◌}
use mathlib.Core.Bool.{Bool, true, false, ◌&&◌}
use mathlib.Core.Path.{◌≡◌, refl}
use native.Mathlib.Omega.{arith}
use lib.Dec.{eqb}
use borrow.Author.Tests.{eqb-true, eqb-false, eq-eqb, ne_eqb}
use Rattle.dfloats.specs.FirstWord.{is_reserved}
use Rattle.dfloats.proofs.is_reserved.Goals as goal

-- of the bits from 7 on
bits : (k : ℕ) (s e : Bool) → eqb (k / 256 % 2) 1 ≡ s → eqb (k % 256) 0 ≡ e → eqb (k % 512) 256 ≡ (s && e)
bits k true true p q = let x = eqb-true (k / 256 % 2) 1 p in let y = eqb-true (k % 256) 0 q in eq-eqb (k % 512) 256 (omega arith)
bits k true false p q = let y = eqb-false (k % 256) 0 q in ne_eqb (k % 512) 256 (λ h. y (omega arith))
bits k false e p q = let x = eqb-false (k / 256 % 2) 1 p in ne_eqb (k % 512) 256 (λ h. x (omega arith))

pub returns : goal.returns
unfolding is_reserved
returns c =
    let a = c.args.a in
    let high : a / 32768 ≡ a / 128 / 256 = omega arith in
    rw high (bits (a / 128) (eqb (a / 128 / 256 % 2) 1) (eqb (a / 128 % 256) 0) refl refl)
