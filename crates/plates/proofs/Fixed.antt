-- A cell has its name and its masks: its fixed part is 35 words at least. Where no word stands, no cell does.
use Prim.Native.Nat.{ℕ, ◌≤◌, ◌<◌}
use mathlib.Core.Path.{◌≡◌, refl, sym, ap, ◌∙◌}
use mathlib.Core.Bool.{Bool, true, false, cond, ◌||◌, false≢true}
use mathlib.Core.List.{List}
use native.Mathlib.Omega.{arith}
use lib.ListN.{length, get_or-eq_default}
use lib.Dec.{eqb, ltb}
use borrow.Author.Tests.{ltb-true, ltb-false}
use Rattle.kinds.specs.FirstWord.{type_of}
use Rattle.kinds.specs.Kinds.{is_cell, fixed_part}
use Rattle.headers.specs.Header.{type_at}

pub cell_fixed : (dim t n : ℕ) → is_cell t ≡ true → 35 ≤ fixed_part dim t n
unfolding fixed_part
cell_fixed dim t n h = go (eqb t 1) refl (eqb t 2) refl h
  where
    flat : (d : Bool) → 35 ≤ cond d 46 62
    flat true = omega arith
    flat false = omega arith

    go : (a : Bool) → eqb t 1 ≡ a → (b : Bool) → eqb t 2 ≡ b → (a || (b || false)) ≡ true → 35 ≤ fixed_part dim t n
    go true e b f h = rw e (omega arith)
    go false e true f h = rw (e, f) (flat (eqb dim 2))
    go false e false f h = absurd (false≢true h)

pub cell_there : (ws : List ℕ) (at : ℕ) → is_cell (type_at ws at) ≡ true → at < length ws
cell_there ws at h = go (ltb at (length ws)) refl
  where
    go : (b : Bool) → ltb at (length ws) ≡ b → at < length ws
    go true e = ltb-true at (length ws) e
    go false e = absurd (false≢true (sym (ap (λ w. is_cell (type_of w)) (get_or-eq_default ws 0 (ltb-false at (length ws) e))) ∙ h))
