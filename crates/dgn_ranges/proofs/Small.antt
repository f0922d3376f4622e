-- Every refusal of the two functions is small, and so is every number that dgn_ranges gives: places.
use Prim.Native.Nat.{ℕ, ◌<◌}
use mathlib.Core.Path.{◌≡◌, refl}
use mathlib.Core.List.{List, [], ◌∷◌}
use lib.ListN.{length}
use Rattle.range_checks.specs.InRange.{is_range_checked, in_range_of}
use Rattle.range_checks.proofs.Exactly.{in_range_refused}
use Rattle.answers.specs.Answers.{Small, SmallReply}
use Rattle.answers.proofs.Elements.{element_standing}
use Rattle.answers.proofs.Refusals.{type_small}
use Rattle.order.specs.Parts.{Within}
use Rattle.order.proofs.Answers.{reply_small}
use Rattle.order.proofs.Small.{numbers_small}
use Rattle.dgn_ranges.specs.Check.{in_range_reply}
use Rattle.dgn_ranges.specs.Ranges.{entry_by, range_entry, ranges_part}
use Rattle.dgn_ranges.specs.Answers.{ranges_reply}
use Rattle.dgn_ranges.specs.Calls.{RangesWithin}
use Rattle.std.specs.Prelude.{Bool, true, false, Err, Ok, Result}
use Rattle.refusals.specs.Refusals.{refused_with}
use Rattle.refusals.specs.declared.Refusal.{Refusal}

---- the check of one element

module _ (dim : ℕ) (s : List ℕ) (at : ℕ) where
  pub refused_small : (n p : ℕ) → in_range_of dim s at ≡ refused_with n p → Small n p
  refused_small n p q = type_small dim s at is_range_checked n p (in_range_refused dim s at n p q)

  pub in_range_small : SmallReply (in_range_reply (in_range_of dim s at))
  in_range_small = go (in_range_of dim s at) refl
    where
      go : (r : Result Bool Refusal) → in_range_of dim s at ≡ r → SmallReply (in_range_reply r)
      go (Ok inside) q = tt
      go (Err refusal) q = refused_small refusal.number refusal.place q

---- dgn_ranges

pub ranges_small : (dim : ℕ) (s : List ℕ) (k room : ℕ) → SmallReply (ranges_reply dim s k room)
unfolding ranges_reply
ranges_small dim s k room = let q = ranges_part dim s room k in reply_small dim s (length q.given) q.next (q.next ∷ length q.given ∷ [])

entry_within : (r : Result Bool Refusal) (at : ℕ) → at < 524288 → Within 524288 (entry_by r at)
entry_within (Ok true) at h = tt
entry_within (Ok false) at h = (h, tt)
entry_within (Err refusal) at h = tt

pub ranges_within : RangesWithin
unfolding ranges_reply ranges_part
ranges_within dim s k places places' out out' a =
    numbers_small dim s (range_entry dim s) 524288 k places places' out out'
    (λ e d m j x f. entry_within (in_range_of dim s x.place) x.place (element_standing dim s e d m j x.place x f).below) a.replied a.given
