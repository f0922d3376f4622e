-- A view is refused as judging refuses the file, or with 13 at 0; of an accepted file, a view and an extent are refused with 13
-- exactly where no element starts.
use Prim.Native.Nat.{ℕ}
use mathlib.Core.Path.{◌≡◌, refl, sym, ap, ◌∙◌, subst}
use mathlib.Core.Logic.{◌↔◌, inl, inr}
use mathlib.Core.List.{List, [], ◌∷◌}
use Rattle.words.specs.Words.{words}
use Rattle.files.specs.Judge.{judge_of}
use Rattle.files.specs.Spots.{spots_of}
use Rattle.files.specs.Refused.{RefusedBy}
use Rattle.places.specs.Places.{spotted_at}
use Rattle.places.specs.Extents.{extent_by, extent_answer}
use Rattle.places.proofs.Refusals.{spotted_refused}
use Rattle.views.specs.Views.{view_by, view_of}
use Rattle.views.specs.Starts.{Starts, Accepts}
use Rattle.views.proofs.Starts.{view_accepts}
use Rattle.std.specs.Prelude.{Err, Ok, Result}
use Rattle.files.specs.Accepted.{accepted_with}
use Rattle.places.specs.declared.Spotted.{Spotted}
use Rattle.refusals.specs.Refusals.{refused_with}
use Rattle.refusals.proofs.Laws.{refusal_is, refused_not_given}
use Rattle.refusals.specs.declared.Refusal.{Refusal}
use Rattle.views.specs.declared.Element.{Element}

view_spotted : (r : Result Spotted Refusal) (ws : List ℕ) (at n p : ℕ) → view_by r ws at ≡ refused_with n p → r ≡ refused_with n p
view_spotted (Ok spot) ws at n p q = absurd (refused_not_given q)
view_spotted (Err refusal) ws at n p q = ap Err (refusal_is q)

pub view_refused : (dim : ℕ) (s : List ℕ) (at n p : ℕ) → view_of dim s at ≡ refused_with n p → RefusedBy dim s (13 ∷ []) n p
unfolding view_of
view_refused dim s at n p q = spotted_refused dim s at n p (view_spotted (spotted_at dim s at) (words s) at n p q)

-- an extent is refused just as a view of the same element
pub extent_as_view : (dim : ℕ) (s : List ℕ) (at n p : ℕ) → (extent_answer dim s at ≡ refused_with n p) ↔ (view_of dim s at ≡ refused_with n p)
unfolding extent_answer view_of
extent_as_view dim s at n p = go (spotted_at dim s at)
  where
    go : (r : Result Spotted Refusal) → (extent_by r at ≡ refused_with n p) ↔ (view_by r (words s) at ≡ refused_with n p)
    go (Ok spot) = (λ q. absurd (refused_not_given q), λ q. absurd (refused_not_given q))
    go (Err refusal) = (λ q. ap Err (refusal_is q), λ q. ap Err (refusal_is q))

-- of an accepted file, exactly where no element starts
module _ (dim : ℕ) (s : List ℕ) (at e d m : ℕ) (q : judge_of dim s ≡ accepted_with e d m) where
  abbrev None : Type 0
  None = Starts (spots_of dim (words s)) at → ⊥

  none_seen : None → (v : Result Element Refusal) → view_of dim s at ≡ v → v ≡ refused_with 13 0
  none_seen h (Ok x) i = absurd (h ((view_accepts dim s at e d m q).1 (subst Accepts (sym i) tt)))
  none_seen h (Err refusal) i = go (view_refused dim s at refusal.number refusal.place i)
    where
      go : RefusedBy dim s (13 ∷ []) refusal.number refusal.place → ◌≡◌ {A = Result Element Refusal} (Err refusal) (refused_with 13 0)
      go (inl j) = absurd (refused_not_given (sym q ∙ j))
      go (inr (inl k, l)) = ap (λ n. refused_with n refusal.place) k ∙ ap (refused_with 13) l
      go (inr (inr k, l)) = absurd k

  pub view_none : (view_of dim s at ≡ refused_with 13 0) ↔ (Starts (spots_of dim (words s)) at → ⊥)
  view_none = (λ i t. subst Accepts i ((view_accepts dim s at e d m q).0 t), λ h. none_seen h (view_of dim s at) refl)

  pub extent_none : (extent_answer dim s at ≡ refused_with 13 0) ↔ (Starts (spots_of dim (words s)) at → ⊥)
  extent_none =
      let a = extent_as_view dim s at 13 0 in
      let b = view_none in
      (λ i. b.0 (a.0 i), λ h. a.1 (b.1 h))
