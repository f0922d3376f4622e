-- Every refusal of dgn_plate and dgn_plates is small: its number and its detail can be taken apart again.
use Prim.Native.Nat.{ℕ}
use mathlib.Core.Path.{◌≡◌, refl}
use mathlib.Core.Logic.{inl, inr}
use mathlib.Core.List.{List, [], ◌∷◌}
use native.Mathlib.Omega.{arith}
use lib.ListN.{length}
use Rattle.files.specs.Refused.{RefusedBy}
use Rattle.plates.specs.Plates.{plate_of}
use Rattle.plates.proofs.Promises.{plate_refused}
use Rattle.answers.specs.Answers.{Small, SmallReply}
use Rattle.answers.proofs.Refusals.{file_small}
use Rattle.order.proofs.Answers.{reply_small}
use Rattle.dgn_plates.specs.Plates.{plates_part}
use Rattle.dgn_plates.specs.Answers.{plate_reply, plates_reply}
use Rattle.std.specs.Prelude.{Err, Ok, Result}
use Rattle.plates.specs.declared.Plate.{Plate}
use Rattle.refusals.specs.Refusals.{refused_with}
use Rattle.refusals.specs.declared.Refusal.{Refusal}

module _ (dim : ℕ) (s : List ℕ) (at : ℕ) where
  pub refused_small : (n p : ℕ) → plate_of dim s at ≡ refused_with n p → Small n p
  refused_small n p q = go (plate_refused dim s at n p q)
    where
      go : RefusedBy dim s (13 ∷ 18 ∷ []) n p → Small n p
      go (inl j) = file_small dim s n p j
      go (inr (inl e, z)) = (omega arith, omega arith, omega arith)
      go (inr (inr (inl e), z)) = (omega arith, omega arith, omega arith)
      go (inr (inr (inr e), z)) = absurd e

  pub plate_small : SmallReply (plate_reply (plate_of dim s at))
  plate_small = go (plate_of dim s at) refl
    where
      go : (r : Result Plate Refusal) → plate_of dim s at ≡ r → SmallReply (plate_reply r)
      go (Ok plate) q = tt
      go (Err refusal) q = refused_small refusal.number refusal.place q

pub plates_small : (dim : ℕ) (s : List ℕ) (k room : ℕ) → SmallReply (plates_reply dim s k room)
unfolding plates_reply
plates_small dim s k room = let q = plates_part dim s room k in reply_small dim s (length q.given) q.next (q.next ∷ length q.given ∷ [])
