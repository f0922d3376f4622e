-- Lists whose numbers are below a bound: each part of such a list is one, and so is what two of them make.
use Prim.Native.Nat.{ℕ, zero, suc, ◌<◌, ◌/◌, ◌%◌}
use native.Mathlib.Omega.{arith}
use mathlib.Core.List.{List, [], ◌∷◌, ◌++◌}
use lib.ListN.{take, drop, replicate}
use Rattle.words.specs.Words.{bytes, Below}

pub below_nil : (n : ℕ) → 0 < n → Below n []
below_nil n h i = h

pub below_cons : (n w : ℕ) (l : List ℕ) → w < n → Below n l → Below n (w ∷ l)
below_cons n w l h b zero = h
below_cons n w l h b (suc i) = b i

pub below_append : (n : ℕ) (a b : List ℕ) → Below n a → Below n b → Below n (a ++ b)
below_append n [] b p q = q
below_append n (w ∷ a) b p q = below_cons n w (a ++ b) (p 0) (below_append n a b (λ i. p (suc i)) q)

pub below_take : (n k : ℕ) (l : List ℕ) → 0 < n → Below n l → Below n (take k l)
below_take n zero l h b = below_nil n h
below_take n (suc k) [] h b = below_nil n h
below_take n (suc k) (w ∷ l) h b = below_cons n w (take k l) (b 0) (below_take n k l h (λ i. b (suc i)))

pub below_drop : (n k : ℕ) (l : List ℕ) → Below n l → Below n (drop k l)
below_drop n zero l b = b
below_drop n (suc k) [] b = b
below_drop n (suc k) (w ∷ l) b = below_drop n k l (λ i. b (suc i))

pub below_zeros : (n k : ℕ) → 0 < n → Below n (replicate k 0)
below_zeros n zero h = below_nil n h
below_zeros n (suc k) h = below_cons n 0 (replicate k 0) h (below_zeros n k h)

pub bytes_below : (ws : List ℕ) → Below 256 (bytes ws)
bytes_below [] = below_nil 256 (omega arith)
bytes_below (w ∷ ws) =
    below_cons 256 (w % 256) (w / 256 % 256 ∷ bytes ws) (omega arith)
    (below_cons 256 (w / 256 % 256) (bytes ws) (omega arith) (bytes_below ws))
