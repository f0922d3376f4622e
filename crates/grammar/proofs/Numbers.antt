-- The number of a refused file is one of the table's: its first fault's is.
use Prim.Native.Nat.{ℕ, ◌≤◌}
use mathlib.Core.Path.{◌≡◌}
use mathlib.Core.Logic.{inl, inr}
use mathlib.Core.List.{List}
use native.Mathlib.Omega.{arith}
use lib.ListN.{length}
use Rattle.refusals.specs.Refusals.{refused_with}
use Rattle.files.specs.Judge.{element_of, top_of, judge_of}
use Rattle.grammar.specs.FirstFault.{Refusal}
use Rattle.grammar.proofs.FirstFault.{number_within, element_refusal, top_exactly, fault_place, refusal_place}

in_table : {size n p : ℕ} → Refusal size n p → (1 ≤ n) × (n ≤ 21)
in_table (inl x) = omega arith
in_table (inr (inl x)) = omega arith
in_table (inr (inr x)) = omega (arith, number_within x.0)

-- an element with its extent, by the end of the words
pub element_refused : (dim : ℕ) (ws : List ℕ) (depth under at bound : ℕ) → at ≤ bound → bound ≤ length ws →
    (n p : ℕ) → element_of dim depth under ws at bound ≡ refused_with n p → (1 ≤ n) × (n ≤ 21)
element_refused dim ws depth under at bound a b n p e = omega (arith, number_within (element_refusal dim ws depth under at bound a b n p e).0)

-- all elements of a file, and the file
pub top_refused : (dim : ℕ) (ws : List ℕ) (n p : ℕ) → top_of dim ws ≡ refused_with n p → (1 ≤ n) × (n ≤ 21)
top_refused dim ws n p e = in_table (inr (fault_place dim ws n p ((top_exactly dim ws n p).0 e)))

pub refusal_number : (dim : ℕ) (s : List ℕ) (n p : ℕ) → judge_of dim s ≡ refused_with n p → (1 ≤ n) × (n ≤ 21)
refusal_number dim s n p e = in_table (refusal_place dim s n p e)
