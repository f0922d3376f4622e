-- An element that a view shows in an accepted file: the view is of its words, and it is an element of the file, so its rules hold
-- at its place.
use Prim.Native.Nat.{ℕ}
use mathlib.Core.Path.{◌≡◌, refl, sym, ◌∙◌}
use mathlib.Core.List.{List}
use mathlib.Core.Option.{Option, none, some}
use Rattle.words.specs.Words.{words}
use Rattle.files.specs.Judge.{judge_of}
use Rattle.files.specs.Spots.{Spot, spots_of, spot_in}
use Rattle.grammar.proofs.Ruled.{Ruled}
use Rattle.places.specs.declared.Above.{Above}
use Rattle.views.specs.declared.Element.{Element}
use Rattle.places.specs.Places.{found_by, spotted_at}
use Rattle.views.specs.Views.{element_view, view_by, view_of}
use Rattle.places.proofs.Places.{spot_rules, spotted_found}
use Rattle.std.specs.Prelude.{Err, Ok, Result}
use Rattle.files.specs.Accepted.{accepted_with}
use Rattle.places.specs.Spotted.{spotted_with}
use Rattle.places.specs.declared.Spotted.{Spotted}
use Rattle.refusals.specs.declared.Refusal.{Refusal}
use Rattle.refusals.proofs.Laws.{given_is, given_not_refused}

-- the spot of an element that is found
spot_of : (dim : ℕ) (s : List ℕ) (at e d m end depth : ℕ) (above : Above) → judge_of dim s ≡ accepted_with e d m → spotted_at dim s at ≡ spotted_with end depth above →
    (x : Spot) × (spot_in (spots_of dim (words s)) at ≡ some x)
spot_of dim s at e d m end depth above j q = go (spot_in (spots_of dim (words s)) at) refl (sym (spotted_found dim s at e d m j) ∙ q)
  where
    go : (o : Option Spot) → spot_in (spots_of dim (words s)) at ≡ o → found_by o ≡ spotted_with end depth above → (x : Spot) × (spot_in (spots_of dim (words s)) at ≡ some x)
    go none i f = absurd (given_not_refused f)
    go (some x) i f = (x, i)

-- what is known of an element that a view shows
pub record SeenAt (dim : ℕ) (s : List ℕ) (at : ℕ) (x : Element) : Type 0 where
  pub end : ℕ
  pub depth : ℕ
  pub above : Above
  pub found : spotted_at dim s at ≡ spotted_with end depth above
  pub is : element_view (words s) at depth above ≡ x
  pub rules : Ruled dim (words s) at

pub seen_at : (dim : ℕ) (s : List ℕ) (at e d m : ℕ) (x : Element) → judge_of dim s ≡ accepted_with e d m → view_of dim s at ≡ Ok x → SeenAt dim s at x
unfolding view_of
seen_at dim s at e d m x j v = go (spotted_at dim s at) refl v
  where
    go : (o : Result Spotted Refusal) → spotted_at dim s at ≡ o → view_by o (words s) at ≡ Ok x → SeenAt dim s at x
    go (Err refusal) f q = absurd (given_not_refused q)
    go (Ok spot) f q =
        let y = spot_of dim s at e d m spot.end spot.depth spot.above j f in
        record { end = spot.end; depth = spot.depth; above = spot.above; found = f; is = given_is q; rules = spot_rules dim s e d m j at y.0 y.1 }
