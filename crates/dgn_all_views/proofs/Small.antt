-- Every refusal of dgn_views is small, and so is every number that it gives: those of a view are (view_numbers' `view_within`).
use Prim.Native.Nat.{ℕ, ◌+◌, ◌-◌, ◌*◌, ◌≤◌, ◌<◌}
use mathlib.Core.Path.{◌≡◌, refl, sym, ap, ◌∙◌, subst}
use mathlib.Core.Bool.{Bool, true, false}
use mathlib.Core.List.{List, [], ◌∷◌}
use native.Mathlib.Omega.{arith}
use lib.Seq.{sets}
use lib.ListN.{length, get_or, take, drop}
use lib.Dec.{leb}
use borrow.Author.Tests.{leb-true, leb-false}
use Rattle.words.specs.Words.{words, Below}
use Rattle.files.specs.Judge.{judge_of}
use Rattle.files.specs.Spots.{Spot, spots_of}
use Rattle.places.specs.Places.{above_of}
use Rattle.views.specs.Views.{view_of, element_view}
use Rattle.view_numbers.proofs.Within.{view_within}
use Rattle.answers.specs.Answers.{SmallReply}
use Rattle.answers.proofs.Elements.{elements_few}
use Rattle.answers.proofs.Besides.{front_at}
use Rattle.order.specs.Parts.{Lent, Within}
use Rattle.order.proofs.Order.{FoundIn, found_drop, found_take, file_found, count_is}
use Rattle.order.proofs.Answers.{when_done, reply_small, done_accepted, within_append}
use Rattle.dgn_all_views.specs.Views.{seen_numbers, views_of, views_many, views_part}
use Rattle.dgn_all_views.specs.Answers.{views_count, views_reply}
use Rattle.dgn_all_views.specs.Calls.{views_call, ViewsWithin}
use Rattle.dgn_all_views.proofs.Tours.{seen}
use Rattle.dgn_all_views.proofs.All.{step}
use Rattle.files.specs.Accepted.{accepted_with}

pub views_small : (dim : ℕ) (s : List ℕ) (k room : ℕ) → SmallReply (views_reply dim s k room)
unfolding views_reply
views_small dim s k room = let many = views_count (judge_of dim s) room k in reply_small dim s many k (many ∷ [])

module _ (dim : ℕ) (s : List ℕ) (e d m : ℕ) (j : judge_of dim s ≡ accepted_with e d m) (b : Below 256 s) where
  views_inside : (xs : List Spot) → FoundIn (spots_of dim (words s)) xs → Within 2147483648 (views_of dim s xs)
  views_inside [] f = tt
  views_inside (x ∷ xs) f =
      let v = element_view (words s) x.place x.depth (above_of x.header) in
      let q = seen dim s e d m j x f.0 in
      within_append 2147483648 (seen_numbers x.place (view_of dim s x.place)) (views_of dim s xs)
      (subst (λ o. Within 2147483648 (seen_numbers x.place o)) (sym q) (view_within dim s x.place v b q))
      (views_inside xs f.1)

  -- what a call that is done gives: from an element of the file on, and behind them
  inside : (k : ℕ) (x y : Lent) → k ≤ length (spots_of dim (words s)) → (views_call dim s).Answers k x 0 y →
      (get_or y.out 0 0 ≤ 524288) × Within 2147483648 (take (32 * get_or y.out 0 0) y.numbers)
  inside k x y h a =
      let g = (step dim s e d m j k x 0 y h a).gives refl in
      let all = spots_of dim (words s) in
      let f = elements_few dim s e d m j in
      let l = g.by in
      let n = k + get_or y.out 0 0 - k in
      (omega arith, subst (Within 2147483648) (sym g.is) (views_inside (take n (drop k all)) (found_take all (drop k all) n (found_drop all all k (file_found dim s e d m j)))))

  behind : (k : ℕ) (x y : Lent) → length (spots_of dim (words s)) < k → (views_call dim s).Answers k x 0 y →
      (get_or y.out 0 0 ≤ 524288) × Within 2147483648 (take (32 * get_or y.out 0 0) y.numbers)
  unfolding views_reply
  behind k x y h a =
      let many = views_count (judge_of dim s) (length x.numbers) k in
      let count : views_count (judge_of dim s) (length x.numbers) k ≡ views_many (length x.numbers) k e = ap (λ v. views_count v (length x.numbers) k) j in
      let c = count_is dim s e d m j in
      let w = when_done (judge_of dim s) j 1 many k (many ∷ []) x.out a.replied (sets x.numbers 0 (views_part dim s k many)) x.numbers y.numbers a.given refl in
      let got : get_or y.out 0 0 ≡ 0 = ap (λ o. get_or o 0 0) w.answer ∙ front_at (many ∷ []) x.out 0 0 (omega arith) w.room ∙ omega arith in
      (omega arith, rw got tt)

pub views_within : ViewsWithin
unfolding views_reply
views_within dim s k views views' out out' b a =
    let many = views_count (judge_of dim s) (length views) k in
    let x : Lent = record { numbers = views; out = out } in
    let y : Lent = record { numbers = views'; out = out' } in
    go x y a (done_accepted dim s 1 many k (many ∷ []) out a.replied refl)
  where
    go : (x y : Lent) → (views_call dim s).Answers k x 0 y → (e d m : ℕ) × (judge_of dim s ≡ accepted_with e d m) →
        (get_or y.out 0 0 ≤ 524288) × Within 2147483648 (take (32 * get_or y.out 0 0) y.numbers)
    go x y a (e, d, m, j) = at (leb k (length (spots_of dim (words s)))) refl
      where
        at : (t : Bool) → leb k (length (spots_of dim (words s))) ≡ t → (get_or y.out 0 0 ≤ 524288) × Within 2147483648 (take (32 * get_or y.out 0 0) y.numbers)
        at true q = inside dim s e d m j b k x y (leb-true k (length (spots_of dim (words s))) q) a
        at false q = behind dim s e d m j b k x y (leb-false k (length (spots_of dim (words s))) q) a
