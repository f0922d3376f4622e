-- Each case of the answer: refused at once, no room for the first element, done.
use Prim.Native.Nat.{ℕ, ◌-◌, ◌≤◌}
use mathlib.Core.Path.{◌≡◌, subst}
use mathlib.Core.Bool.{true, false}
use mathlib.Core.List.{List}
use native.Mathlib.Omega.{arith}
use lib.IntN.{ℤ}
use lib.ListN.{length, set}
use Rattle.words.specs.Words.{words}
use Rattle.grammar.proofs.Exact.{accepted_is}
use Rattle.points_linkages.proofs.Numbered.{stride}
use Rattle.order.specs.Calls.{begun_of, none_fits}
use Rattle.order.proofs.Calls.{GoesOn, goes_few}
use Rattle.order.proofs.Fitting.{lays_numbers}
use Rattle.order.proofs.Replies.{taken_refused, taken_full, taken_done}
use Rattle.order.specs.declared.Part.{Part}
use Rattle.order.specs.Fitting.{Fitting, part_of, in_numbers, PartPut}
use Rattle.dgn_points.specs.Points.{points_from, points_part}
use Rattle.dgn_points.specs.Answers.{points_reply, PointsGiven}
use Rattle.dgn_points.proofs.Places.{points_are}
use Rattle.std.specs.Prelude.{Err}

module _ (dim : ℕ) (s : List ℕ) (k : ℕ) (numbers : List ℤ) (out : List ℕ) where
  abbrev part : Fitting ℤ
  part = points_part dim (words s) (length numbers) k

  pub points_refused : (a : ℕ) → begun_of dim s 2 (length out) ≡ Err a → PointsGiven dim s k numbers out a numbers out
  unfolding points_reply
  points_refused a q = let g = taken_refused in_numbers lays_numbers dim s part (length part.given) numbers out a q in record { replied = g.0; given = g.1 }

  module _ (e : ℕ) (on : GoesOn dim s 2 (length out) e) (t : List ℤ) (r : Part) (put : PartPut in_numbers (part_of (length numbers) k (points_from (e - k) dim (words s) k)) numbers r t) where
    put_part : PartPut in_numbers part numbers r t
    put_part = subst (λ p. PartPut in_numbers p numbers r t) (points_are dim s e on.deepest on.marker on.accepted (length numbers) k) put

    pub points_full : true ≡ none_fits r.used r.next e → PointsGiven dim s k numbers out 15 t out
    unfolding points_reply
    points_full f = let g = taken_full in_numbers lays_numbers dim s part (length part.given) numbers out e on t r put_part f in record { replied = g.0; given = g.1 }

    pub points_done : false ≡ none_fits r.used r.next e → PointsGiven dim s k numbers out 0 t (set (set out 0 r.next) 1 r.used)
    unfolding points_reply
    points_done f = let g = taken_done in_numbers lays_numbers dim s part (length part.given) numbers out e on t r put_part f r.used put_part.used in record { replied = g.0; given = g.1 }

-- what is handed on is small
pub accepted_small : (dim : ℕ) (s : List ℕ) (room e : ℕ) → GoesOn dim s 2 room e → (dim ≤ 3) × (e ≤ 1048576)
accepted_small dim s room e on =
    (omega (arith, (stride dim s (accepted_is dim s e on.deepest on.marker on.accepted).call 0).0), goes_few dim s 2 room e on)
