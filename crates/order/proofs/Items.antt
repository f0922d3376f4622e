-- The items of a file's elements by places are those of the list of its elements.
use Prim.Native.Nat.{ℕ, suc, ◌-◌}
use mathlib.Core.Path.{◌≡◌, refl, sym, ap, ◌∙◌}
use mathlib.Core.Bool.{Bool, true, false}
use mathlib.Core.List.{List, [], ◌∷◌, map}
use native.Mathlib.Omega.{arith}
use lib.ListN.{length, drop, length-drop, drop_of_length-le}
use lib.Dec.{leb}
use borrow.Author.Tests.{leb-true, leb-false}
use Rattle.words.specs.Words.{words}
use Rattle.files.specs.Judge.{judge_of}
use Rattle.files.specs.Spots.{Spot, spots_of}
use Rattle.order.specs.Order.{place_of, InOrder}
use Rattle.order.specs.Fitting.{items_from}
use Rattle.order.proofs.Order.{order_from, file_order, count_is}
use Rattle.files.specs.Accepted.{accepted_with}

-- f gives the items of the element at a place
module _ {A : Type 0} (f : ℕ → List A) where
  by_places : (ws : List ℕ) (end k : ℕ) (xs : List Spot) → InOrder ws (place_of ws k) xs end → map (λ x. f x.place) xs ≡ items_from (length xs) (λ i. f (place_of ws i)) k
  by_places ws end k [] p = refl
  by_places ws end k (x ∷ xs) p = rw (p.0, by_places ws end (suc k) xs p.1) refl

pub items_are : {A : Type 0} (dim : ℕ) (s : List ℕ) (e d m : ℕ) → judge_of dim s ≡ accepted_with e d m → (f : ℕ → List A) (k : ℕ) →
    items_from (e - k) (λ i. f (place_of (words s) i)) k ≡ map (λ x. f x.place) (drop k (spots_of dim (words s)))
items_are dim s e d m accepted f k = go (leb k (length xs)) refl
  where
    xs : List Spot
    xs = spots_of dim (words s)

    go : (b : Bool) → leb k (length xs) ≡ b → items_from (e - k) (λ i. f (place_of (words s) i)) k ≡ map (λ x. f x.place) (drop k xs)
    go true q =
        let n : length (drop k xs) ≡ e - k = length-drop k xs ∙ ap (λ n. n - k) (sym (count_is dim s e d m accepted)) in
        ap (λ n. items_from n (λ i. f (place_of (words s) i)) k) (sym n)
        ∙ sym (by_places f (words s) m k (drop k xs) (order_from (words s) m xs k (leb-true k (length xs) q) (file_order dim s e d m accepted)))
    go false q =
        let h = leb-false k (length xs) q in
        let c = count_is dim s e d m accepted in
        let z : e - k ≡ 0 = omega arith in
        rw (z, drop_of_length-le xs {i = k} (omega arith)) refl
