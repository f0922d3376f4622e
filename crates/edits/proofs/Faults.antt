-- Refusals taken apart: a chain of them is none where each part is none.
use Prim.Native.Nat.{ℕ}
use native.Mathlib.Omega.{arith}
use mathlib.Core.Path.{◌≡◌, refl}
use mathlib.Core.Bool.{Bool, true, false}
use Rattle.edits.specs.Allowed.{Fault?, fine, fault, or_else, unless}

refused : {n p : ℕ} → fault n p ≡ fine → ⊥
refused e = let z : ◌≡◌ {A = ℕ} 0 1 = cc in omega arith

pub or_else_fine : (a b : Fault?) → or_else a b ≡ fine → (a ≡ fine) × (b ≡ fine)
or_else_fine fine b e = (refl, e)
or_else_fine (fault n p) b e = absurd (refused e)

pub unless_fine : (b : Bool) (n : ℕ) → unless b n ≡ fine → b ≡ true
unless_fine true n e = refl
unless_fine false n e = absurd (refused e)

pub fine_test : {b : Bool} (n : ℕ) → b ≡ true → unless b n ≡ fine
fine_test n e = rw e refl

pub fine_both : {a b : Fault?} → a ≡ fine → b ≡ fine → or_else a b ≡ fine
fine_both p q = rw (p, q) refl
