-- Every refusal of a linkage is small: its number and its detail can be taken apart again.
use Prim.Native.Nat.{ℕ}
use mathlib.Core.Path.{◌≡◌, refl}
use mathlib.Core.List.{List}
use Rattle.points_linkages.specs.Linkages.{linkage_of}
use Rattle.points_linkages.proofs.Refusals.{linkage_refused}
use Rattle.answers.specs.Answers.{Small, SmallReply}
use Rattle.answers.proofs.Refusals.{place_small}
use Rattle.dgn_linkages.specs.LinkageNumbers.{linkage_reply}
use Rattle.std.specs.Prelude.{Err, Ok, Result}
use Rattle.linkages.specs.declared.Linkage.{Linkage}
use Rattle.refusals.specs.Refusals.{refused_with}
use Rattle.refusals.specs.declared.Refusal.{Refusal}

module _ (dim : ℕ) (s : List ℕ) (at k : ℕ) where
  pub refused_small : (n p : ℕ) → linkage_of dim s at k ≡ refused_with n p → Small n p
  refused_small n p q = place_small dim s n p (linkage_refused dim s at k n p q)

  pub linkage_small : SmallReply (linkage_reply (linkage_of dim s at k))
  linkage_small = go (linkage_of dim s at k) refl
    where
      go : (r : Result Linkage Refusal) → linkage_of dim s at k ≡ r → SmallReply (linkage_reply r)
      go (Ok linkage) q = tt
      go (Err refusal) q = refused_small refusal.number refusal.place q
