-- Where the numbers of each element are within a bound, so are those that a call gives which is done: they are of elements that it took.
use Prim.Native.Nat.{ℕ, zero, suc, ◌+◌}
use mathlib.Core.Path.{◌≡◌, refl, sym, ap, ◌∙◌, subst}
use mathlib.Core.List.{List, [], ◌∷◌, map}
use mathlib.Core.Option.{some}
use native.Mathlib.Omega.{arith}
use lib.IntN.{ℤ}
use lib.ListN.{length, get_or, take, drop, length-drop, length-map}
use lib.Seq.{sets}
use Rattle.words.specs.Words.{words}
use Rattle.files.specs.Judge.{judge_of}
use Rattle.files.specs.Spots.{Spot, spots_of, spot_in}
use Rattle.answers.specs.Answers.{Reply, with_room, Replied}
use Rattle.answers.specs.Besides.{besides}
use Rattle.answers.proofs.Besides.{front_read, front_at}
use Rattle.answers.proofs.Elements.{elements_few}
use Rattle.order.specs.Calls.{reply_by}
use Rattle.order.specs.Fitting.{Fitting, part_of}
use Rattle.order.specs.Parts.{Within, NumbersSmall}
use Rattle.order.proofs.Order.{FoundIn, found_drop, file_found}
use Rattle.order.proofs.Answers.{when_done, done_accepted, within_append}
use Rattle.order.proofs.Took.{joined, took}
use Rattle.files.specs.Accepted.{accepted_with}

-- f gives the numbers of an element
module _ (dim : ℕ) (s : List ℕ) (f : Spot → List ℤ) (bound : ℕ) where
  abbrev all : List Spot
  all = spots_of dim (words s)

  module _ (e d m : ℕ) (j : judge_of dim s ≡ accepted_with e d m) (within : (x : Spot) → spot_in (spots_of dim (words s)) x.place ≡ some x → Within bound (f x)) where
    each_within : (n : ℕ) (xs : List Spot) → FoundIn all xs → Within bound (joined (take n (map f xs)))
    each_within zero xs h = tt
    each_within (suc n) [] h = tt
    each_within (suc n) (x ∷ xs) h = within_append bound (f x) (joined (take n (map f xs))) (within x h.0) (each_within n xs h.1)

  module _ (k : ℕ) (numbers numbers' : List ℤ) (out out' : List ℕ) where
    abbrev part : Fitting ℤ
    part = part_of (length numbers) k (map f (drop k all))

    abbrev answer : List ℕ
    answer = part.next ∷ length part.given ∷ []

    abbrev reply : Reply ℕ
    reply = reply_by (judge_of dim s) (length part.given) part.next answer

    pub numbers_small : ((e d m : ℕ) → judge_of dim s ≡ accepted_with e d m → (x : Spot) → spot_in (spots_of dim (words s)) x.place ≡ some x → Within bound (f x)) →
        Replied 2 reply out 0 out' → numbers' ≡ besides (with_room 2 reply out) part.given numbers → NumbersSmall bound k numbers numbers' out'
    numbers_small within a given = go (done_accepted dim s 2 (length part.given) part.next answer out a refl)
      where
        go : (e d m : ℕ) × (judge_of dim s ≡ accepted_with e d m) → NumbersSmall bound k numbers numbers' out'
        go (e, d, m, j) =
            let t = took (length numbers) k (map f (drop k all)) in
            let w = when_done (judge_of dim s) j 2 (length part.given) part.next answer out a (sets numbers 0 part.given) numbers numbers' given refl in
            let size = ap (λ o. get_or o 1 0) w.answer ∙ front_at answer out 1 0 (omega arith) w.room in
            let next : get_or out' 0 0 ≡ k + t.many = ap (λ o. get_or o 0 0) w.answer ∙ front_at answer out 0 0 (omega arith) w.room ∙ t.next in
            let is = ap (λ i. take i numbers') size ∙ ap (take (length part.given)) w.numbers ∙ front_read part.given numbers t.fits ∙ t.given in
            let few = elements_few dim s e d m j in
            let l = length-drop k all in
            let long = length-map (drop k all) f in
            let by = t.by in
            let fits = t.fits in
            record {
              next = omega arith;
              written = omega arith;
              each = subst (Within bound) (sym is) (each_within e d m j (within e d m j) t.many (drop k all) (found_drop all all k (file_found dim s e d m j)));
            }
