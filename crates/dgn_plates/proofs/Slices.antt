-- Plates in a slice, of 11 numbers each: those put behind others stand with them.
use Prim.Native.Nat.{ℕ, ◌+◌, ◌*◌, ◌/◌}
use mathlib.Core.Path.{◌≡◌, refl, sym, ap, ◌∙◌}
use mathlib.Core.List.{List, [], ◌∷◌, ◌++◌, append_assoc}
use native.Mathlib.Omega.{arith}
use lib.IntN.{ℤ}
use lib.ListN.{length, length-append}
use lib.Seq.{sets, length-sets}
use Rattle.answers.proofs.Besides.{put_then}
use Rattle.order.proofs.Fitting.{Lays}
use Rattle.dgn_plates.specs.Plates.{Entry, entry_numbers, all_numbers, in_plates}

pub numbers_long : (es : List Entry) → length (all_numbers es) ≡ 11 * length es
numbers_long [] = refl
numbers_long (e ∷ es) = let l = length-append (entry_numbers e) (all_numbers es) in let r = numbers_long es in omega arith

pub numbers_append : (xs ys : List Entry) → all_numbers (xs ++ ys) ≡ all_numbers xs ++ all_numbers ys
numbers_append [] ys = refl
numbers_append (x ∷ xs) ys = ap (λ l. entry_numbers x ++ l) (numbers_append xs ys) ∙ sym (append_assoc (entry_numbers x) (all_numbers xs) (all_numbers ys))

joined : (s : List ℤ) (at : ℕ) (x y : List Entry) (m : ℕ) → m ≡ at + length x → in_plates.put (in_plates.put s at x) m y ≡ in_plates.put s at (x ++ y)
joined s at x y m e =
    let n = numbers_long x in
    put_then s (11 * at) (all_numbers x) (all_numbers y) (11 * m) (omega arith) ∙ ap (sets s (11 * at)) (sym (numbers_append x y))

pub lays_plates : Lays in_plates
lays_plates = record { kept = λ s at x. ap (λ n. n / 11) (length-sets s (11 * at) (all_numbers x)); joined = joined; none = λ s at. refl }

-- the slice keeps its length
pub same_numbers : (s t : List ℤ) (es : List Entry) → t ≡ in_plates.put s 0 es → length t ≡ length s
same_numbers s t es e = ap length e ∙ length-sets s (11 * 0) (all_numbers es)
