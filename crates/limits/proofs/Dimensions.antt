-- A dimension that is allowed is 2 or 3: what holds of both holds of it.
use Prim.Native.Nat.{ℕ}
use mathlib.Core.Path.{◌≡◌, refl, subst⁻¹}
use mathlib.Core.Bool.{Bool, true, false, ◌||◌, false≢true, and-eq-true_iff}
use mathlib.Core.List.{List}
use lib.ListN.{length}
use lib.Dec.{eqb}
use borrow.Author.Tests.{eqb-true}
use Rattle.limits.specs.Limits.{dim_ok, size_ok, call_ok}

pub by_dims : (P : ℕ → Type 0) (dim : ℕ) → dim_ok dim ≡ true → P 2 → P 3 → P dim
by_dims P dim d p q = go (eqb dim 2) (eqb dim 3) refl refl d
  where
    go : (a b : Bool) → eqb dim 2 ≡ a → eqb dim 3 ≡ b → (a || b) ≡ true → P dim
    go true b x y e = subst⁻¹ P (eqb-true dim 2 x) p
    go false true x y e = subst⁻¹ P (eqb-true dim 3 y) q
    go false false x y e = absurd (false≢true e)

-- that of a good call on a file is
pub call_dims : (dim : ℕ) (s : List ℕ) → call_ok dim s ≡ true → dim_ok dim ≡ true
unfolding call_ok
call_dims dim s e = ((and-eq-true_iff (dim_ok dim) (size_ok (length s))).0 e).0
