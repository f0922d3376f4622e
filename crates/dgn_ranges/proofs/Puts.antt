-- The place of one element put behind those that are used, where the answer is no.
use Prim.Native.Nat.{ℕ, ◌+◌, ◌-◌, ◌≤◌, ◌<◌}
use mathlib.Core.Path.{◌≡◌, refl, sym}
use mathlib.Core.Bool.{false≢true}
use mathlib.Core.List.{List, [], ◌∷◌}
use native.Mathlib.Omega.{arith}
use lib.IntN.{ℤ, pos}
use lib.ListN.{length, set}
use borrow.Author.Tests.{le-leb, lt-leb}
use Rattle.words.specs.Words.{words}
use Rattle.order.specs.Order.{place_of}
use Rattle.order.specs.Fitting.{in_numbers, ElementPut}
use Rattle.order.proofs.Fitting.{lays_numbers, nothing_put}
use Rattle.range_checks.specs.InRange.{in_range_in}
use Rattle.dgn_ranges.specs.Ranges.{entry_by, entry_at}
use Rattle.std.specs.Prelude.{Bool, true, false, Err, None, Ok, Result, Some}
use Rattle.std.specs.Result.{result_unwrap_or}
use Rattle.refusals.specs.declared.Refusal.{Refusal}

-- an answer that is not no gives none
entry_none : (r : Result Bool Refusal) (at : ℕ) → result_unwrap_or r true ≡ true → entry_by r at ≡ []
entry_none (Ok true) at e = refl
entry_none (Ok false) at e = absurd (false≢true e)
entry_none (Err refusal) at e = refl

entry_one : (r : Result Bool Refusal) (at : ℕ) → result_unwrap_or r true ≡ false → entry_by r at ≡ pos at ∷ []
entry_one (Ok true) at e = absurd (false≢true (sym e))
entry_one (Ok false) at e = refl
entry_one (Err refusal) at e = absurd (false≢true (sym e))

module _ (dim : ℕ) (ws : List ℕ) (at : ℕ) (places : List ℤ) (used : ℕ) (r : Result Bool Refusal) (is : r ≡ in_range_in dim ws at) where
  pub put_none : result_unwrap_or r true ≡ true → ElementPut in_numbers (entry_at dim ws at) places used (Some used) places
  put_none e = rw (← is, entry_none r at e) (nothing_put in_numbers lays_numbers places used)

  module _ (e : result_unwrap_or r true ≡ false) where
    pub put_full : length places ≤ used → ElementPut in_numbers (entry_at dim ws at) places used None places
    put_full h = rw (← is, entry_one r at e) (let no = lt-leb 1 (length places - used) (omega arith) in record { is = rw no refl; given = rw no refl })

    pub put_place : used < length places → (z : ℤ) → z ≡ pos at → ElementPut in_numbers (entry_at dim ws at) places used (Some (used + 1)) (set places used z)
    put_place h z q = rw (← is, entry_one r at e) (let yes = le-leb 1 (length places - used) (omega arith) in record { is = rw yes refl; given = rw yes (rw q refl) })

-- the place of element number i, where its answer is no
abbrev pub places_of : ℕ → List ℕ → ℕ → List ℤ
places_of dim file i = entry_at dim (words file) (place_of (words file) i)
