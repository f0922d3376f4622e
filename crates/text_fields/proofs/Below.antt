-- Lists whose numbers are below a bound.
use Prim.Native.Nat.{ℕ, zero, suc, ◌<◌}
use mathlib.Core.List.{List, [], ◌∷◌, ◌++◌}
use Rattle.words.specs.Words.{Below}

pub below_nil : (n : ℕ) → 0 < n → Below n []
below_nil n h i = h

pub below_cons : (n w : ℕ) (l : List ℕ) → w < n → Below n l → Below n (w ∷ l)
below_cons n w l h b zero = h
below_cons n w l h b (suc i) = b i

pub below_append : (n : ℕ) (a b : List ℕ) → Below n a → Below n b → Below n (a ++ b)
below_append n [] b p q = q
below_append n (w ∷ a) b p q = below_cons n w (a ++ b) (p 0) (below_append n a b (λ i. p (suc i)) q)
