-- What more a type says: of its count, and how many words it has at least, so which words lie inside the element.
use Prim.Native.Nat.{ℕ, ◌≤◌}
use mathlib.Core.Path.{◌≡◌, refl, sym, ◌∙◌}
use mathlib.Core.List.{[], ◌∷◌}
use mathlib.Core.Bool.{Bool, true, false, false≢true}
use native.Mathlib.Omega.{arith}
use lib.Dec.{eqb}
use Rattle.kinds.specs.Kinds.{is_header, is_counted, is_cell, fixed_part}
use Rattle.kinds.proofs.Types.{each_named, both}

-- a header that has a count is a header
pub counted_header : (t : ℕ) → is_counted t ≡ true → is_header t ≡ true
counted_header t h = each_named (λ k. is_header k ≡ true) (7 ∷ 12 ∷ 14 ∷ 18 ∷ 19 ∷ []) t (refl, (refl, (refl, (refl, (refl, tt))))) h

-- so what is no header has none
pub plain_uncounted : (t : ℕ) → is_header t ≡ false → is_counted t ≡ false
plain_uncounted t h = go (is_counted t) refl
  where
    go : (b : Bool) → is_counted t ≡ b → b ≡ false
    go true e = absurd (false≢true (sym h ∙ counted_header t e))
    go false e = refl

-- a cell has at least 21 words, its name among them
pub cell_long : (dim t n : ℕ) → is_cell t ≡ true → 21 ≤ fixed_part dim t n
unfolding fixed_part
cell_long dim t n = each_named (λ k. 21 ≤ fixed_part dim k n) (1 ∷ 2 ∷ []) t (omega arith, (both 21 46 62 (omega arith) (omega arith) (eqb dim 2), tt))
