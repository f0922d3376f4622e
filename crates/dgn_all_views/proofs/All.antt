-- A call that is done gives as many views as it answers, from its element number on; so calls one after another give all.
use Prim.Native.Nat.{ℕ, ◌+◌, ◌-◌, ◌*◌, ◌≤◌}
use mathlib.Core.Path.{◌≡◌, refl, sym, ap, ◌∙◌}
use mathlib.Core.List.{List, [], ◌∷◌, ◌++◌, append_assoc}
use native.Mathlib.Omega.{arith}
use lib.ListN.{length, get_or, take, drop, length-append, length-take, length-drop}
use lib.IntN.{pos}
use lib.Seq.{sets}
use lib.Dec.{leb}
use borrow.Author.Tests.{leb-true}
use mathlib.Core.Bool.{and-eq-true_iff}
use Rattle.words.specs.Words.{words}
use Rattle.files.specs.Judge.{judge_of}
use Rattle.files.specs.Spots.{Spot, spots_of}
use Rattle.places.specs.Places.{above_of}
use Rattle.views.specs.Views.{view_of, element_view}
use Rattle.view_numbers.proofs.Laws.{thirty_two}
use Rattle.answers.proofs.Besides.{front_read, front_at}
use Rattle.order.specs.Parts.{Lent}
use Rattle.order.proofs.Order.{FoundIn, found_drop, found_take, file_found, count_is}
use Rattle.order.proofs.Parts.{Gave, Step, gives_all}
use Rattle.order.proofs.Answers.{some_put, none_left, Done, when_done, done_when}
use Rattle.dgn_all_views.specs.Views.{seen_numbers, views_of, views_many, views_part}
use Rattle.dgn_all_views.specs.Answers.{views_count, views_reply}
use Rattle.dgn_all_views.specs.Calls.{views_call, AllViews}
use Rattle.dgn_all_views.proofs.Tours.{seen}
use Rattle.files.specs.Accepted.{accepted_with}

views_append : (dim : ℕ) (s : List ℕ) (xs ys : List Spot) → views_of dim s (xs ++ ys) ≡ views_of dim s xs ++ views_of dim s ys
views_append dim s [] ys = refl
views_append dim s (x ∷ xs) ys =
    let v = seen_numbers x.place (view_of dim s x.place) in
    ap (λ l. v ++ l) (views_append dim s xs ys) ∙ sym (append_assoc v (views_of dim s xs) (views_of dim s ys))

module _ (dim : ℕ) (s : List ℕ) (e d m : ℕ) (j : judge_of dim s ≡ accepted_with e d m) where
  -- a view has 32 numbers
  views_long : (xs : List Spot) → FoundIn (spots_of dim (words s)) xs → length (views_of dim s xs) ≡ 32 * length xs
  views_long [] f = refl
  views_long (x ∷ xs) f =
      let v = element_view (words s) x.place x.depth (above_of x.header) in
      let own = ap (λ o. length (seen_numbers x.place o)) (seen dim s e d m j x f.0) ∙ thirty_two pos x.place v in
      let l = length-append (seen_numbers x.place (view_of dim s x.place)) (views_of dim s xs) in
      let r = views_long xs f.1 in
      omega arith

  part_long : (k n : ℕ) → k + n ≤ length (spots_of dim (words s)) → length (views_part dim s k n) ≡ 32 * n
  unfolding views_part
  part_long k n h =
      let all = spots_of dim (words s) in
      let l : length (take n (drop k (spots_of dim (words s)))) ≡ n = simp (length-take, length-drop) (omega arith) in
      views_long (take n (drop k all)) (found_take all (drop k all) n (found_drop all all k (file_found dim s e d m j))) ∙ ap (λ i. 32 * i) l

  -- what a call that is done gives
  gave : (k many : ℕ) (x y : Lent) → k + many ≤ length (spots_of dim (words s)) → 32 * many ≤ length x.numbers →
      Done 1 many k e (many ∷ []) x.out y.out (sets x.numbers 0 (views_part dim s k many)) y.numbers →
      Gave (spots_of dim (words s)) (views_of dim s) k (k + get_or y.out 0 0) (take (32 * get_or y.out 0 0) y.numbers)
  unfolding views_part
  gave k many x y h r w =
      let c = count_is dim s e d m j in
      let l = part_long k many h in
      let got : get_or y.out 0 0 ≡ many = ap (λ o. get_or o 0 0) w.answer ∙ front_at (many ∷ []) x.out 0 0 (omega arith) w.room in
      let size : 32 * get_or y.out 0 0 ≡ length (views_part dim s k many) = omega arith in
      let back : many ≡ k + get_or y.out 0 0 - k = omega arith in
      record {
        on = omega arith;
        by = omega arith;
        some = λ i. let u = some_put many k e w.fits (omega arith) in omega arith;
        is = ap (λ i. take i y.numbers) size ∙ ap (take (length (views_part dim s k many))) w.numbers
            ∙ front_read (views_part dim s k many) x.numbers (omega arith) ∙ ap (λ i. views_of dim s (take i (drop k (spots_of dim (words s))))) back;
      }

  pub step : (k : ℕ) (x : Lent) (n : ℕ) (y : Lent) → k ≤ length (spots_of dim (words s)) → (views_call dim s).Answers k x n y →
      Step (views_call dim s) (spots_of dim (words s)) (views_of dim s) k x n y
  unfolding views_reply
  step k x n y h a =
      let many = views_count (judge_of dim s) (length x.numbers) k in
      let count : views_count (judge_of dim s) (length x.numbers) k ≡ views_many (length x.numbers) k e = ap (λ v. views_count v (length x.numbers) k) j in
      let c = count_is dim s e d m j in
      record {
        gives = λ z. gave k many x y (omega arith) (omega arith)
            (when_done (judge_of dim s) j 1 many k (many ∷ []) x.out a.replied (sets x.numbers 0 (views_part dim s k many)) x.numbers y.numbers a.given z);
        done = λ u.
            let both = (and-eq-true_iff (leb 32 (length x.numbers)) (leb 1 (length x.out))).0 u in
            let r = leb-true 32 (length x.numbers) both.0 in
            done_when (judge_of dim s) j 1 many k (many ∷ []) x.out a.replied (leb-true 1 (length x.out) both.1) (none_left many k e (λ i. omega arith));
      }

pub all_views : AllViews
all_views dim s e d m j calls got last c = gives_all (views_call dim s) (spots_of dim (words s)) (views_of dim s) (record { append = views_append dim s; empty = refl; unit = λ l. refl }) (step dim s e d m j) c
