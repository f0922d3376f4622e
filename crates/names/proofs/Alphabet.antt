-- A letter and its code determine each other: computed at each byte up to 90 and at each code below 40.
use Prim.Native.Nat.{ℕ, zero, suc, ◌<◌, ◌≤◌}
use mathlib.Core.Path.{◌≡◌, refl, sym, ap, subst, ◌∙◌}
use mathlib.Core.Logic.{⊎_elim}
use mathlib.Core.Bool.{Bool, true, false, ◌&&◌, ◌||◌, and-eq-true_iff}
use native.Mathlib.Omega.{arith}
use native.Mathlib.Nat.{eq-or-lt_of_le, le_of_suc-le-suc}
use native.Mathlib.Decide.{dec_le}
use lib.Dec.{leb, ltb, eqb}
use borrow.Author.Tests.{ltb-true, eqb-true, lt-leb, ne_eqb, le-leb}
use Rattle.names.specs.Names.{code_of, letter_of, between}

pub inside : (low n high : ℕ) → low ≤ n → n ≤ high → between low n high ≡ true
inside low n high l h = simp (le-leb _ _ l, le-leb _ _ h)

pub under : (low n high : ℕ) → n < low → between low n high ≡ false
under low n high h = simp (lt-leb _ _ h)

pub over : (low n high : ℕ) → high < n → between low n high ≡ false
over low n high h = rw (lt-leb _ _ h) (and-false (leb low n))
  where
    and-false : (t : Bool) → t && false ≡ false
    and-false true = refl
    and-false false = refl

-- bytes that are no letter have code 29
pub code_none : (b : ℕ) → (b ≡ 32 → ⊥) → (b ≡ 36 → ⊥) → (b ≡ 46 → ⊥) → between 65 b 90 ≡ false → between 48 b 57 ≡ false → code_of b ≡ 29
unfolding code_of
code_none b n32 n36 n46 capital digit = simp (ne_eqb b 32 n32, capital, ne_eqb b 36 n36, ne_eqb b 46 n46, digit)

-- numbers that are no code have no letter
pub letter_none : (c : ℕ) → (c ≡ 0 → ⊥) → (c ≡ 27 → ⊥) → (c ≡ 28 → ⊥) → between 1 c 26 ≡ false → between 30 c 39 ≡ false → letter_of c ≡ 0
unfolding letter_of
letter_none c n0 n27 n28 capital digit = simp (ne_eqb c 0 n0, capital, ne_eqb c 27 n27, ne_eqb c 28 n28, digit)

-- a test that passes at each number below n
abbrev all_below : (ℕ → Bool) → ℕ → Bool
all_below f zero = true
all_below f (suc n) = f n && all_below f n

below : (f : ℕ → Bool) (n : ℕ) → all_below f n ≡ true → (k : ℕ) → k < n → f k ≡ true
below f zero e k h = absurd (omega arith)
below f (suc n) e k h =
    let both = (and-eq-true_iff (f n) (all_below f n)).0 e in
    ⊎_elim (λ q. subst (λ (m : ℕ). f m ≡ true) (sym q) both.0) (λ l. below f n both.1 k l)
    (eq-or-lt_of_le (le_of_suc-le-suc h))

-- the code of a byte is below 40, and the code's letter is the byte, unless the code is 29
byte_test : ℕ → Bool
byte_test b = ltb (code_of b) 40 && (eqb (code_of b) 29 || eqb (letter_of (code_of b)) b)

byte_tests : all_below byte_test 91 ≡ true
unfolding byte_test code_of letter_of
byte_tests = refl

byte_test_lem : (b : ℕ) → byte_test b ≡ true
unfolding byte_test
byte_test_lem b =
    elim (dec_le b 90) [
      | yes l ↦ below byte_test 91 byte_tests b (omega arith)
      | no n ↦ let h : code_of b ≡ 29 = code_none b (λ e. omega arith) (λ e. omega arith) (λ e. omega arith) (over 65 b 90 (omega arith)) (over 48 b 57 (omega arith)) in
          simp h
    ]

-- the letter of a code is that code's letter
code_test : ℕ → Bool
code_test c = eqb c 29 || eqb (code_of (letter_of c)) c

code_tests : all_below code_test 40 ≡ true
unfolding code_test code_of letter_of
code_tests = refl

either : (a b : Bool) → a || b ≡ true → (a ≡ true → ⊥) → b ≡ true
either true b e n = absurd (n refl)
either false b e n = e

module _ (b : ℕ) where
  unfolded : (ltb (code_of b) 40 ≡ true) × (eqb (code_of b) 29 || eqb (letter_of (code_of b)) b ≡ true)
  unfolding byte_test
  unfolded = (and-eq-true_iff _ _).0 (byte_test_lem b)

  pub code_small : code_of b < 40
  code_small = ltb-true _ _ unfolded.0

  pub letter_code : (code_of b ≡ 29 → ⊥) → letter_of (code_of b) ≡ b
  letter_code n = eqb-true _ _ (either _ _ unfolded.1 (λ e. n (eqb-true _ _ e)))

pub code_letter : (c : ℕ) → c < 40 → (c ≡ 29 → ⊥) → code_of (letter_of c) ≡ c
unfolding code_test
code_letter c l n = eqb-true _ _ (either _ _ (below code_test 40 code_tests c l) (λ e. n (eqb-true _ _ e)))

-- only a space has code 0, and code 0 has only the space
pub code_space : (b : ℕ) → (code_of b ≡ 29 → ⊥) → code_of b ≡ 0 → b ≡ 32
unfolding letter_of
code_space b n e = sym (letter_code b n) ∙ ap letter_of e

pub letter_space : (c : ℕ) → c < 40 → (c ≡ 29 → ⊥) → letter_of c ≡ 32 → c ≡ 0
unfolding code_of
letter_space c l n e = sym (code_letter c l n) ∙ ap code_of e
