-- The letters of a text, stored one behind another.
use Prim.Native.Nat.{ℕ}
use mathlib.Core.Path.{◌≡◌, refl}
use mathlib.Core.List.{List, [], ◌∷◌, ◌++◌}
use native.Mathlib.Omega.{arith}
use lib.ListN.{length, get_or, set}
use lib.Seq.{sets}

-- six letters and a 0, one behind another
pub letters_put : (s l : List ℕ) → length l ≡ 6 →
    set (set (set (set (set (set (set s 0 (get_or l 0 0)) 1 (get_or l 1 0)) 2 (get_or l 2 0)) 3 (get_or l 3 0)) 4 (get_or l 4 0)) 5 (get_or l 5 0)) 6 0
    ≡ sets s 0 (l ++ (0 ∷ []))
letters_put s [] h = absurd (omega arith)
letters_put s (a ∷ []) h = absurd (omega arith)
letters_put s (a ∷ b ∷ []) h = absurd (omega arith)
letters_put s (a ∷ b ∷ c ∷ []) h = absurd (omega arith)
letters_put s (a ∷ b ∷ c ∷ d ∷ []) h = absurd (omega arith)
letters_put s (a ∷ b ∷ c ∷ d ∷ e ∷ []) h = absurd (omega arith)
letters_put s (a ∷ b ∷ c ∷ d ∷ e ∷ f ∷ []) h = refl
letters_put s (a ∷ b ∷ c ∷ d ∷ e ∷ f ∷ g ∷ l) h = absurd (omega arith)
