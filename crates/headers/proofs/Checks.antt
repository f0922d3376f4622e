-- Laws of lists of checks: which number is the first fault, and that without one every test passes.
use Prim.Native.Nat.{ℕ}
use mathlib.Core.Path.{◌≡◌, refl, sym, ◌∙◌}
use mathlib.Core.List.{List, [], ◌∷◌, ◌++◌}
use mathlib.Core.Bool.{Bool, true, false, not, ◌&&◌, and-eq-true_iff}
use native.Mathlib.Omega.{arith}
use lib.Dec.{leb}
use borrow.Author.Tests.{leb-true, not-true, not-false}
use Rattle.headers.specs.Checks.{Check, check, first_fault}

-- the value of a test from what a function answers, whose negation the code asks for
pub refused : {r t : Bool} → r ≡ t → not r ≡ true → t ≡ false
refused {r} e h = sym e ∙ not-true r h

pub accepted : {r t : Bool} → r ≡ t → not r ≡ false → t ≡ true
accepted {r} e h = sym e ∙ not-false r h

-- a test of two parts passes where both do
pub both_true : (a b : Bool) → (a && b) ≡ true → (a ≡ true) × (b ≡ true)
both_true a b e = (and-eq-true_iff a b).0 e

---- the first fault, check by check

-- the number n is that of the first test of the list that fails: each test before it passes
pub data First : List Check → ℕ → Type 0 where
  pass : {b : Bool} {n m : ℕ} {cs : List Check} → b ≡ true → First cs m → First (check b n ∷ cs) m
  stop : {b : Bool} {n : ℕ} {cs : List Check} → b ≡ false → First (check b n ∷ cs) n
  tail : (cs : List Check) {n : ℕ} → n ≡ first_fault cs → First cs n

pub first : (cs : List Check) {n : ℕ} → First cs n → n ≡ first_fault cs
first _ (pass e p) = rw e (first _ p)
first _ (stop e) = rw e
first _ (tail cs e) = e

-- each number passes a test
abbrev pub all_in : (ℕ → Bool) → List Check → Bool
all_in test [] = true
all_in test (check b n ∷ cs) = test n && all_in test cs

-- then so does that of the first fault
pub first_in : (test : ℕ → Bool) (cs : List Check) → all_in test cs ≡ true → (first_fault cs ≡ 0 → ⊥) → test (first_fault cs) ≡ true
first_in test [] k h = absurd (h refl)
first_in test (check true n ∷ cs) k h = first_in test cs (both_true (test n) (all_in test cs) k).1 h
first_in test (check false n ∷ cs) k h = (both_true (test n) (all_in test cs) k).0

-- each number is above 0
abbrev pub numbered : List Check → Bool
numbered = all_in (leb 1)

-- the first fault of two lists, one after the other: that of the first list where it has one, else that of the second
pub fault_here : (cs ds : List Check) (n : ℕ) → n ≡ first_fault cs → (n ≡ 0 → ⊥) → n ≡ first_fault (cs ++ ds)
fault_here [] ds n e h = absurd (h e)
fault_here (check true k ∷ cs) ds n e h = fault_here cs ds n e h
fault_here (check false k ∷ cs) ds n e h = e

pub fault_later : (cs ds : List Check) (n : ℕ) → numbered cs ≡ true → 0 ≡ first_fault cs → n ≡ first_fault ds → n ≡ first_fault (cs ++ ds)
fault_later [] ds n k z e = e
fault_later (check true m ∷ cs) ds n k z e = fault_later cs ds n (both_true (leb 1 m) (numbered cs) k).1 z e
fault_later (check false m ∷ cs) ds n k z e =
    let h = leb-true 1 m (both_true (leb 1 m) (numbered cs) k).0 in
    absurd (omega arith)

-- each test passes
abbrev pub Pass : List Check → Type 0
Pass [] = Unit
Pass (check b n ∷ cs) = (b ≡ true) × Pass cs

pub pass_all : (cs : List Check) → numbered cs ≡ true → first_fault cs ≡ 0 → Pass cs
pass_all [] k e = tt
pass_all (check true n ∷ cs) k e = (refl, pass_all cs (both_true (leb 1 n) (numbered cs) k).1 e)
pass_all (check false n ∷ cs) k e = let h = leb-true 1 n (both_true (leb 1 n) (numbered cs) k).0 in absurd (omega arith)
