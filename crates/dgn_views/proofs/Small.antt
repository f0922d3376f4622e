-- Every refusal of a view is small: its number and its detail can be taken apart again.
use Prim.Native.Nat.{ℕ}
use mathlib.Core.Path.{◌≡◌, refl}
use mathlib.Core.List.{List}
use Rattle.views.specs.Views.{view_of}
use Rattle.views.proofs.Refusals.{view_refused}
use Rattle.answers.specs.Answers.{Small, SmallReply}
use Rattle.answers.proofs.Refusals.{place_small}
use Rattle.dgn_views.specs.Views.{view_reply}
use Rattle.std.specs.Prelude.{Err, Ok, Result}
use Rattle.refusals.specs.Refusals.{refused_with}
use Rattle.refusals.specs.declared.Refusal.{Refusal}
use Rattle.views.specs.declared.Element.{Element}

module _ (dim : ℕ) (s : List ℕ) (at : ℕ) where
  pub refused_small : (n p : ℕ) → view_of dim s at ≡ refused_with n p → Small n p
  refused_small n p q = place_small dim s n p (view_refused dim s at n p q)

  pub view_small : SmallReply (view_reply at (view_of dim s at))
  view_small = go (view_of dim s at) refl
    where
      go : (r : Result Element Refusal) → view_of dim s at ≡ r → SmallReply (view_reply at r)
      go (Ok element) q = tt
      go (Err refusal) q = refused_small refusal.number refusal.place q
