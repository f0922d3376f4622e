-- What the call gives, by what is found at the place: the file's own refusals and 13, 18, or the plate.
use Prim.Native.Nat.{ℕ}
use mathlib.Core.Path.{◌≡◌, refl, sym, ap}
use mathlib.Core.Logic.{inl, inr}
use mathlib.Core.Bool.{Bool, true, false}
use mathlib.Core.List.{List, [], ◌∷◌}
use native.Mathlib.Omega.{arith}
use Rattle.std.specs.Prelude.{Err, Ok, Result}
use Rattle.refusals.specs.Refusals.{refused_with}
use Rattle.refusals.specs.declared.Refusal.{Refusal}
use Rattle.words.specs.Words.{words}
use Rattle.kinds.specs.Kinds.{is_cell}
use Rattle.headers.specs.Header.{type_at}
use Rattle.files.specs.Refused.{RefusedBy}
use Rattle.places.specs.Places.{above_of, spotted_at}
use Rattle.places.specs.declared.Above.{Above}
use Rattle.promises.proofs.Promises.{place_refused}
use Rattle.plates.specs.declared.Plate.{Plate}
use Rattle.plates.specs.Plates.{live_direct, plate_at, plate_by, plate_of}
use Rattle.plates.specs.Promises.{PlateRefused, PlateGiven, CountsAddUp, LevelsMost}
use Rattle.plates.proofs.Levels.{levels_most}
use Rattle.plates.proofs.Calls.{found_is}
use Rattle.plates.proofs.Counts.{sum_is}
use Rattle.places.specs.declared.Spotted.{Spotted}
use Rattle.places.specs.Spotted.{spotted_with}

---- a plate that is given is that of a cell that is found

pub record Cell (dim : ℕ) (s : List ℕ) (at : ℕ) (a : Plate) : Type 0 where
  pub end : ℕ
  pub depth : ℕ
  pub above : Above
  pub found : spotted_at dim s at ≡ spotted_with end depth above
  pub cell : is_cell (type_at (words s) at) ≡ true
  pub is : a ≡ plate_at dim (words s) at

pub cell_of : (dim : ℕ) (s : List ℕ) (at : ℕ) (a : Plate) → plate_of dim s at ≡ Ok a → Cell dim s at a
unfolding plate_of
cell_of dim s at a q = go (spotted_at dim s at) refl (is_cell (type_at (words s) at)) refl q
  where
    go : (r : Result Spotted Refusal) → spotted_at dim s at ≡ r → (b : Bool) → is_cell (type_at (words s) at) ≡ b → plate_by r b (plate_at dim (words s) at) ≡ Ok a → Cell dim s at a
    go (Ok spot) f true c q = record { end = spot.end; depth = spot.depth; above = spot.above; found = f; cell = c; is = cc }
    go (Ok spot) f false c q = let z : ◌≡◌ {A = ℕ} 0 1 = cc in absurd (omega arith)
    go (Err refusal) f b c q = let z : ◌≡◌ {A = ℕ} 0 1 = cc in absurd (omega arith)

pub counts_add_up : CountsAddUp
counts_add_up dim s at a q = rw (cell_of dim s at a q).is (sum_is (words s) at (live_direct dim (words s) at))

pub levels_few : LevelsMost
levels_few dim s at a q = rw (cell_of dim s at a q).is (levels_most (words s) at)

---- the call

-- answers refused alike have one refusal
refusal_is : {x y : Refusal} → ◌≡◌ {A = Result Plate Refusal} (Err x) (Err y) → x ≡ y
refusal_is q = cc

pub plate_refused : PlateRefused
unfolding plate_of
plate_refused dim s at n p q = go (spotted_at dim s at) refl (is_cell (type_at (words s) at)) q
  where
    or_18 : RefusedBy dim s (13 ∷ []) n p → RefusedBy dim s (13 ∷ 18 ∷ []) n p
    or_18 (inl e) = inl e
    or_18 (inr (inl e, z)) = inr (inl e, z)
    or_18 (inr (inr e, z)) = absurd e

    go : (r : Result Spotted Refusal) → spotted_at dim s at ≡ r → (b : Bool) → plate_by r b (plate_at dim (words s) at) ≡ refused_with n p → RefusedBy dim s (13 ∷ 18 ∷ []) n p
    go (Ok spot) f true q = let z : ◌≡◌ {A = ℕ} 0 1 = cc in absurd (omega arith)
    go (Ok spot) f false q = let e = refusal_is q in inr (inr (inl (sym (ap (λ r. r.number) e))), sym (ap (λ r. r.place) e))
    go (Err refusal) f b q = or_18 (place_refused dim s at n p (cc))

pub plate_given : PlateGiven
unfolding plate_of spotted_at
plate_given dim s at e d m x j f =
    let found : spotted_at dim s at ≡ spotted_with x.end x.depth (above_of x.header) = rw (j, f) refl in
    record {
      cell = λ c. rw (found, c) refl;
      other = λ c. rw (found, c) refl;
      judged = found_is dim s at x.end x.depth (above_of x.header) found;
    }
