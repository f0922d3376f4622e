-- A call on a file at a place is refused as judging refuses the file, or with 13 at 0.
use Prim.Native.Nat.{ℕ}
use mathlib.Core.Path.{◌≡◌, refl, sym, ap, ◌∙◌}
use mathlib.Core.Logic.{inl, inr}
use mathlib.Core.List.{List, [], ◌∷◌}
use mathlib.Core.Option.{Option, none, some}
use Rattle.words.specs.Words.{words}
use Rattle.files.specs.Judge.{judge_of}
use Rattle.files.specs.Spots.{Spot, spots_of, spot_in}
use Rattle.files.specs.Refused.{RefusedBy}
use Rattle.places.specs.Places.{found_by, spotted_by, spotted_at}
use Rattle.places.specs.Extents.{extent_by, extent_answer}
use Rattle.std.specs.Prelude.{Err, Ok, Result}
use Rattle.files.specs.declared.Accepted.{Accepted}
use Rattle.places.specs.declared.Spotted.{Spotted}
use Rattle.refusals.specs.Refusals.{refused_with}
use Rattle.refusals.proofs.Laws.{number_is, place_is, refusal_is, refused_not_given}
use Rattle.refusals.specs.declared.Refusal.{Refusal}

found_refused : (o : Option Spot) (n p : ℕ) → found_by o ≡ refused_with n p → (n ≡ 13) × (p ≡ 0)
found_refused none n p q = (sym (number_is q), sym (place_is q))
found_refused (some x) n p q = absurd (refused_not_given q)

-- what is found at a place
pub spotted_refused : (dim : ℕ) (s : List ℕ) (at n p : ℕ) → spotted_at dim s at ≡ refused_with n p → RefusedBy dim s (13 ∷ []) n p
unfolding spotted_at
spotted_refused dim s at n p q = go (judge_of dim s) refl q
  where
    go : (j : Result Accepted Refusal) → judge_of dim s ≡ j → spotted_by j (spot_in (spots_of dim (words s)) at) ≡ refused_with n p → RefusedBy dim s (13 ∷ []) n p
    go (Err refusal) h q = inl (h ∙ ap Err (refusal_is q))
    go (Ok file) h q = let x = found_refused (spot_in (spots_of dim (words s)) at) n p q in inr (inl x.0, x.1)

-- an extent
pub extent_refused : (dim : ℕ) (s : List ℕ) (at n p : ℕ) → extent_answer dim s at ≡ refused_with n p → RefusedBy dim s (13 ∷ []) n p
unfolding extent_answer
extent_refused dim s at n p q = spotted_refused dim s at n p (go (spotted_at dim s at) q)
  where
    go : (r : Result Spotted Refusal) → extent_by r at ≡ refused_with n p → r ≡ refused_with n p
    go (Ok spot) q = absurd (refused_not_given q)
    go (Err refusal) q = ap Err (refusal_is q)
