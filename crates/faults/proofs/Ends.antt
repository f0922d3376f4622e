-- Where a mark or its undo is not refused an element was found, and `end_of` is where its extent ends.
use Prim.Native.Nat.{ℕ}
use mathlib.Core.Path.{◌≡◌, sym, ap}
use mathlib.Core.Bool.{Bool, true, false≢true}
use mathlib.Core.List.{List}
use native.Mathlib.Omega.{arith}
use Rattle.places.specs.declared.Above.{Above}
use Rattle.faults.specs.Faults.{end_of, mark_number}
use Rattle.faults.specs.Reversing.{flags_fit}
use Rattle.std.specs.Prelude.{Err, Ok, Result}
use Rattle.places.specs.Spotted.{spotted_with}
use Rattle.places.specs.declared.Spotted.{Spotted}
use Rattle.refusals.specs.declared.Refusal.{Refusal}

-- an element found, whose extent ends at `end`
pub record Located (f : Result Spotted Refusal) (end : ℕ) : Type 0 where
  pub depth : ℕ
  pub above : Above
  pub found_is : f ≡ spotted_with end depth above

pub mark_there : (ws : List ℕ) (p : ℕ) (deleted : Bool) (f : Result Spotted Refusal) → 0 ≡ mark_number ws f p deleted → (end : ℕ) → end ≡ end_of f → Located f end
unfolding mark_number
mark_there ws p deleted (Ok spot) z end q = record { depth = spot.depth; above = spot.above; found_is = ap (λ k. spotted_with k spot.depth spot.above) (sym q) }
mark_there ws p deleted (Err refusal) z end q = absurd (omega arith)

pub flags_there : (ws : List ℕ) (p : ℕ) (x : List ℕ) (f : Result Spotted Refusal) → flags_fit f ws p x ≡ true → (end : ℕ) → end ≡ end_of f → Located f end
flags_there ws p x (Ok spot) z end q = record { depth = spot.depth; above = spot.above; found_is = ap (λ k. spotted_with k spot.depth spot.above) (sym q) }
flags_there ws p x (Err refusal) z end q = absurd (false≢true z)
