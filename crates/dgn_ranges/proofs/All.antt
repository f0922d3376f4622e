-- An element gives one place or none; so calls one after another give all.
use Prim.Native.Nat.{ℕ, ◌≤◌}
use mathlib.Core.Path.{refl}
use native.Mathlib.Omega.{arith}
use lib.ListN.{length}
use Rattle.order.specs.Fitting.{in_numbers}
use Rattle.order.proofs.Took.{all_taken, takes_numbers}
use Rattle.range_checks.specs.InRange.{in_range_of}
use Rattle.dgn_ranges.specs.Ranges.{entry_by, range_entry, ranges_part}
use Rattle.dgn_ranges.specs.Answers.{ranges_reply}
use Rattle.dgn_ranges.specs.Calls.{ranges_call, AllRanges}
use Rattle.std.specs.Prelude.{Bool, true, false, Err, Ok, Result}
use Rattle.refusals.specs.declared.Refusal.{Refusal}

few : (r : Result Bool Refusal) (at : ℕ) → length (entry_by r at) ≤ 1
few (Ok true) at = omega arith
few (Ok false) at = omega arith
few (Err refusal) at = omega arith

pub all_ranges : AllRanges
unfolding ranges_reply ranges_part
all_ranges dim s e d m j calls got last c =
    all_taken (ranges_call dim s) in_numbers (λ x. x.numbers) (λ x. x.out) dim s e d m j (range_entry dim s) (range_entry dim s) (λ l. l) 1 (λ n. n)
    (takes_numbers (ranges_call dim s).Answers (range_entry dim s) 1 (λ n. n) (λ n. n) (λ xs. refl))
    (λ x f. refl) (λ x f. few (in_range_of dim s x.place) x.place) (λ k x n y h a. a.replied) (λ k x n y h a. a.given) calls got last c
