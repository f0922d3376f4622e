-- An element of an accepted file has at most 305 numbers, which are what the calls for each of its points give; so calls one after
-- another give all.
use Prim.Native.Nat.{ℕ, ◌+◌, ◌-◌, ◌*◌, ◌≤◌}
use mathlib.Core.Path.{◌≡◌, refl, sym, ap, ◌∙◌}
use mathlib.Core.Bool.{Bool, true, false, cond, not, ◌||◌, and-eq-true_iff}
use mathlib.Core.List.{List, [], ◌∷◌}
use mathlib.Core.Option.{some}
use native.Mathlib.Nat.{mul_comm}
use native.Mathlib.Omega.{arith}
use lib.IntN.{pos}
use lib.ListN.{length}
use lib.Dec.{eqb, leb}
use borrow.Author.Tests.{leb-true}
use Rattle.words.specs.Words.{words}
use Rattle.limits.proofs.Dimensions.{by_dims, call_dims}
use Rattle.kinds.specs.Kinds.{is_pointed, points_within}
use Rattle.headers.specs.Header.{type_at, points_at}
use Rattle.elements.specs.Rules.{sized_ok, points_ok, fixed_ok}
use Rattle.files.specs.Judge.{judge_of}
use Rattle.files.specs.Spots.{Spot, spots_of, spot_in}
use Rattle.grammar.proofs.Exact.{accepted_is}
use Rattle.places.specs.Places.{above_of, found_by, spotted_at}
use Rattle.places.proofs.Places.{spotted_found, spot_rules}
use Rattle.points_linkages.specs.Points.{point_count, before_points}
use Rattle.points_linkages.specs.Coordinates.{longs}
use Rattle.points_linkages.specs.Coordinates as calls
use Rattle.points_linkages.proofs.Numbered.{point_there}
use Rattle.points_linkages.proofs.Coordinates.{length_longs, points_longs}
use Rattle.order.specs.Fitting.{in_numbers}
use Rattle.order.proofs.Took.{all_taken, takes_numbers}
use Rattle.dgn_points.specs.Points.{point_numbers, points_part}
use Rattle.dgn_points.specs.Answers.{points_reply}
use Rattle.dgn_points.specs.Calls.{element_points, points_call, AllPoints}
use Rattle.files.specs.Accepted.{accepted_with}
use Rattle.places.specs.Spotted.{spotted_with}

---- an element of an accepted file

-- it has at most 101 points
pub count_few : (dim : ℕ) (ws : List ℕ) (at : ℕ) → fixed_ok dim ws at ≡ true → point_count ws at ≤ 101
unfolding fixed_ok
count_few dim ws at e = go (eqb (type_at ws at) 3) (is_pointed (type_at ws at)) ((and-eq-true_iff (points_ok ws at) _).0 ((and-eq-true_iff (sized_ok dim ws at) _).0 e).1).0
  where
    go : (l p : Bool) → (not p || points_within (points_at ws at)) ≡ true → cond l 2 (cond p (points_at ws at) 0) ≤ 101
    go true p h = omega arith
    go false false h = omega arith
    go false true h = leb-true (points_at ws at) 101 ((and-eq-true_iff (leb 2 (points_at ws at)) (leb (points_at ws at) 101)).0 h).1

module _ (dim : ℕ) (s : List ℕ) (e d m : ℕ) (j : judge_of dim s ≡ accepted_with e d m) where
  module _ (x : Spot) (f : spot_in (spots_of dim (words s)) x.place ≡ some x) where
    -- so at most 305 numbers
    numbers_few : length (point_numbers dim (words s) x.place) ≤ 305
    unfolding point_numbers
    numbers_few = go (eqb n 0)
      where
        n : ℕ
        n = point_count (words s) x.place

        go : (b : Bool) → length (cond b [] (pos x.place ∷ pos n ∷ longs (n * dim) (words s) (x.place + before_points (words s) x.place))) ≤ 305
        go true = omega arith
        go false =
            let c = count_few dim (words s) x.place (spot_rules dim s e d m j x.place x f).checked.fixed in
            let l = length_longs (n * dim) (words s) (x.place + before_points (words s) x.place) in
            let k = by_dims (λ i. n * i ≤ 303) dim (call_dims dim s (accepted_is dim s e d m j).call) (omega arith) (omega arith) in
            omega arith

    -- and they are what the calls for each point give
    numbers_each : point_numbers dim (words s) x.place ≡ element_points dim s x.place
    unfolding point_numbers
    numbers_each =
        let at = x.place in
        let n = point_count (words s) at in
        let start = at + before_points (words s) at in
        let dims = call_dims dim s (accepted_is dim s e d m j).call in
        let found : spotted_at dim s x.place ≡ spotted_with x.end x.depth (above_of x.header) = spotted_found dim s at e d m j ∙ ap found_by f in
        let first : start + 2 * dim * 0 ≡ start = by_dims (λ i. start + 2 * i * 0 ≡ start) dim dims (omega arith) (omega arith) in
        let same : calls.points_from n 0 dim s at ≡ longs (n * dim) (words s) start =
        points_longs dim dims s at start n (λ k h. sym (point_there dim s at k x.end x.depth (above_of x.header) found n refl (before_points (words s) at) refl h)) n 0 (omega arith)
        ∙ ap (longs (dim * n) (words s)) first ∙ ap (λ i. longs i (words s) start) (mul_comm dim n) in
        rw same refl

pub all_points : AllPoints
unfolding points_reply points_part
all_points dim s e d m j calls got last c =
    all_taken (points_call dim s) in_numbers (λ x. x.numbers) (λ x. x.out) dim s e d m j (λ x. point_numbers dim (words s) x.place) (λ x. element_points dim s x.place) (λ l. l) 305 (λ n. n)
    (takes_numbers (points_call dim s).Answers (λ x. element_points dim s x.place) 305 (λ n. n) (λ n. n) (λ xs. refl))
    (numbers_each dim s e d m j) (numbers_few dim s e d m j) (λ k x n y h a. a.replied) (λ k x n y h a. a.given) calls got last c
