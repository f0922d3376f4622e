-- The one bits of a word of 16 bits are at most 16, and those that the processor counts.
use Prim.Native.Nat.{ℕ, zero, suc, ◌+◌, ◌/◌, ◌%◌, ◌^◌, ◌≤◌, ◌<◌}
use mathlib.Core.Path.{◌≡◌, refl, ap, ◌∙◌}
use mathlib.Core.List.{List}
use native.Mathlib.Omega.{arith}
use native.Mathlib.Nat.{pow-suc}
use lib.Count.{ones_in, ones, ones_step}
use Rattle.words.specs.Words.{word_at}
use Rattle.plates.specs.Plates.{levels_at}

pub ones_most : (k n : ℕ) → ones_in k n ≤ k
unfolding ones_in
ones_most zero n = omega arith
ones_most (suc k) n = let r = ones_most k (n / 2) in omega arith

pub ones_all : (k n : ℕ) → n < 2 ^ k → ones n ≡ ones_in k n
unfolding ones_in ones
ones_all zero n h = let z : n ≡ 0 = omega arith in rw z refl
ones_all (suc k) n h =
    let p = pow-suc 2 k in
    let r = ones_all k (n / 2) (omega arith) in
    ones_step n ∙ ap (λ m. n % 2 + m) r

pub levels_most : (ws : List ℕ) (at : ℕ) → levels_at ws at ≤ 64
unfolding levels_at
levels_most ws at =
    let a = ones_most 16 (word_at ws (at + 22)) in
    let b = ones_most 16 (word_at ws (at + 23)) in
    let c = ones_most 16 (word_at ws (at + 24)) in
    let d = ones_most 16 (word_at ws (at + 25)) in
    omega arith
