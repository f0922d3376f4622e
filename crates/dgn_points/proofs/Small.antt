-- Every refusal of dgn_points is small, and so is every number that it gives: a place, a number of points, signed longs.
use Prim.Native.Nat.{ℕ, zero, suc, ◌+◌, ◌*◌}
use mathlib.Core.Path.{◌≡◌}
use mathlib.Core.Bool.{Bool, true, false, cond}
use mathlib.Core.List.{List, [], ◌∷◌}
use mathlib.Core.Option.{some}
use native.Mathlib.Omega.{arith}
use lib.IntN.{pos}
use lib.ListN.{length}
use lib.Dec.{eqb}
use Rattle.words.specs.Words.{words, Below, long_at}
use Rattle.words.proofs.Laws.{words_below}
use Rattle.words.proofs.Signed.{signed_small}
use Rattle.files.specs.Judge.{judge_of}
use Rattle.files.specs.Spots.{Spot, spots_of, spot_in}
use Rattle.places.proofs.Places.{spot_rules}
use Rattle.points_linkages.specs.Points.{point_count, before_points}
use Rattle.points_linkages.specs.Coordinates.{longs}
use Rattle.answers.specs.Answers.{SmallReply}
use Rattle.answers.proofs.Elements.{element_standing}
use Rattle.order.specs.Parts.{Within}
use Rattle.order.proofs.Answers.{reply_small}
use Rattle.order.proofs.Small.{numbers_small}
use Rattle.dgn_points.specs.Points.{point_numbers, points_part}
use Rattle.dgn_points.specs.Answers.{points_reply}
use Rattle.dgn_points.specs.Calls.{PointsWithin}
use Rattle.dgn_points.proofs.All.{count_few}
use Rattle.files.specs.Accepted.{accepted_with}

pub points_small : (dim : ℕ) (s : List ℕ) (k room : ℕ) → SmallReply (points_reply dim s k room)
unfolding points_reply
points_small dim s k room = let q = points_part dim (words s) room k in reply_small dim s (length q.given) q.next (q.next ∷ length q.given ∷ [])

---- its numbers

longs_within : (s : List ℕ) → Below 256 s → (n q : ℕ) → Within 2147483648 (longs n (words s) q)
longs_within s b zero q = tt
longs_within s b (suc n) q =
    let x = words_below s b q in
    let y = words_below s b (q + 1) in
    (signed_small (long_at (words s) q) (omega arith), longs_within s b n (q + 2))

module _ (dim : ℕ) (s : List ℕ) (e d m : ℕ) (j : judge_of dim s ≡ accepted_with e d m) (b : Below 256 s) where
  element_within : (x : Spot) → spot_in (spots_of dim (words s)) x.place ≡ some x → Within 2147483648 (point_numbers dim (words s) x.place)
  unfolding point_numbers
  element_within x f = go (eqb n 0)
    where
      n : ℕ
      n = point_count (words s) x.place

      go : (t : Bool) → Within 2147483648 (cond t [] (pos x.place ∷ pos n ∷ longs (n * dim) (words s) (x.place + before_points (words s) x.place)))
      go true = tt
      go false =
          let p = (element_standing dim s e d m j x.place x f).below in
          let c = count_few dim (words s) x.place (spot_rules dim s e d m j x.place x f).checked.fixed in
          (omega arith, (omega arith, longs_within s b (n * dim) (x.place + before_points (words s) x.place)))

pub points_within : PointsWithin
unfolding points_reply points_part
points_within dim s k numbers numbers' out out' b a =
    numbers_small dim s (λ x. point_numbers dim (words s) x.place) 2147483648 k numbers numbers' out out' (λ e d m j. element_within dim s e d m j b) a.replied a.given
