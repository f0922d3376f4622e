-- Decimal digits: how many there are, that their bound does not matter where it is enough, one more digit, and that they tell the
-- number.
use Prim.Native.Nat.{ℕ, zero, suc, ◌+◌, ◌*◌, ◌-◌, ◌/◌, ◌%◌, ◌^◌, ◌≤◌, ◌<◌}
use mathlib.Core.Path.{◌≡◌, refl, sym, ap, ◌∙◌}
use mathlib.Core.Bool.{Bool, true, false}
use mathlib.Core.List.{List, [], ◌∷◌, ◌++◌}
use native.Mathlib.Omega.{arith}
use native.Mathlib.Nat.{pow-suc}
use lib.ListN.{length, length-append}
use lib.Dec.{ltb}
use borrow.Author.Tests.{lt-ltb, le-ltb, ltb-true, ltb-false}
use Rattle.listing.specs.Lines.{digits_from, decimal}

-- a number below ten is one digit
digits_one : (k n : ℕ) → n < 10 → digits_from (suc k) n ≡ (48 + n) ∷ []
unfolding digits_from
digits_one k n h = rw (lt-ltb n 10 h) refl

-- any other has the digits of its tenth part, and one more
digits_more : (k n : ℕ) → 10 ≤ n → digits_from (suc k) n ≡ digits_from k (n / 10) ++ ((48 + n % 10) ∷ [])
unfolding digits_from
digits_more k n h = rw (le-ltb n 10 h) refl

-- there is a digit, and no more of them than the bound
one_to : (k n : ℕ) → length (digits_from k (n / 10)) ≤ k → (1 ≤ length (digits_from (suc k) n)) × (length (digits_from (suc k) n) ≤ suc k)
one_to k n h = go (ltb n 10) refl
  where
    go : (t : Bool) → ltb n 10 ≡ t → (1 ≤ length (digits_from (suc k) n)) × (length (digits_from (suc k) n) ≤ suc k)
    go true e = rw (digits_one k n (ltb-true n 10 e)) (omega arith)
    go false e = rw (digits_more k n (ltb-false n 10 e), length-append) (omega arith)

length_digits : (k n : ℕ) → length (digits_from k n) ≤ k
unfolding digits_from
length_digits zero n = omega arith
length_digits (suc k) n = (one_to k n (length_digits k (n / 10))).1

-- the digits do not depend on a bound that is enough
pub same_digits : (k m n : ℕ) → n < 10 ^ suc k → n < 10 ^ suc m → digits_from (suc k) n ≡ digits_from (suc m) n
same_digits zero m n h l = digits_one zero n h ∙ sym (digits_one m n h)
same_digits (suc k) zero n h l = digits_one (suc k) n l ∙ sym (digits_one zero n l)
same_digits (suc k) (suc m) n h l = go (ltb n 10) refl (same_digits k m (n / 10) (omega (arith, pow-suc 10 (suc k))) (omega (arith, pow-suc 10 (suc m))))
  where
    go : (t : Bool) → ltb n 10 ≡ t → digits_from (suc k) (n / 10) ≡ digits_from (suc m) (n / 10) → digits_from (suc (suc k)) n ≡ digits_from (suc (suc m)) n
    go true e d = digits_one (suc k) n (ltb-true n 10 e) ∙ sym (digits_one (suc m) n (ltb-true n 10 e))
    go false e d = rw (digits_more (suc k) n (ltb-false n 10 e), digits_more (suc m) n (ltb-false n 10 e), d) refl

-- so a number has 1 to 20 digits
pub length_decimal : (n : ℕ) → (1 ≤ length (decimal n)) × (length (decimal n) ≤ 20)
unfolding decimal
length_decimal n = one_to 19 n (length_digits 19 (n / 10))

-- one digit, and one more digit of a number below 2^64, which 20 digits are enough for
pub decimal_one : (n : ℕ) → n < 10 → decimal n ≡ (48 + n) ∷ []
unfolding decimal
decimal_one n h = digits_one 19 n h

pub decimal_more : (n : ℕ) → 10 ≤ n → n < 2 ^ 64 → decimal n ≡ decimal (n / 10) ++ ((48 + n % 10) ∷ [])
unfolding decimal
decimal_more n h l = digits_more 19 n h ∙ ap (λ d. d ++ ((48 + n % 10) ∷ [])) (same_digits 18 19 (n / 10) (omega arith) (omega arith))

-- so its tenth part has at most 19
pub length_tenth : (n : ℕ) → 10 ≤ n → n < 2 ^ 64 → length (decimal (n / 10)) ≤ 19
length_tenth n h l = omega (arith, (length_decimal n).1, simp length-append at (ap length (decimal_more n h l)))

---- the digits tell the number

-- bytes that are decimal digits
abbrev pub Digits : List ℕ → Type 0
Digits [] = Unit {0}
Digits (c ∷ l) = ((48 ≤ c) × (c ≤ 57)) × Digits l

digits_then : (l : List ℕ) (c : ℕ) → Digits l → 48 ≤ c → c ≤ 57 → Digits (l ++ (c ∷ []))
digits_then [] c d h i = ((h, i), tt)
digits_then (b ∷ l) c d h i = (d.0, digits_then l c d.1 h i)

digits_are : (k n : ℕ) → Digits (digits_from k n)
unfolding digits_from
digits_are zero n = tt
digits_are (suc k) n = go (ltb n 10) refl (digits_are k (n / 10))
  where
    go : (t : Bool) → ltb n 10 ≡ t → Digits (digits_from k (n / 10)) → Digits (digits_from (suc k) n)
    go true e d = let l = ltb-true n 10 e in rw (digits_one k n l) ((omega arith, omega arith), tt)
    go false e d = rw (digits_more k n (ltb-false n 10 e)) (digits_then (digits_from k (n / 10)) (48 + n % 10) d (omega arith) (omega arith))

pub decimal_digits : (n : ℕ) → Digits (decimal n)
unfolding decimal
decimal_digits n = digits_are 20 n

-- the number that digits stand for, behind those of another
abbrev value : ℕ → List ℕ → ℕ
value n [] = n
value n (c ∷ l) = value (10 * n + (c - 48)) l

value_then : (n : ℕ) (l : List ℕ) (c : ℕ) → value n (l ++ (c ∷ [])) ≡ 10 * value n l + (c - 48)
value_then n [] c = refl
value_then n (b ∷ l) c = value_then (10 * n + (b - 48)) l c

value_back : (k n : ℕ) → n < 10 ^ suc k → value 0 (digits_from (suc k) n) ≡ n
value_back zero n h = rw (digits_one zero n h) (omega arith)
value_back (suc k) n h = go (ltb n 10) refl (value_back k (n / 10) (omega (arith, pow-suc 10 (suc k))))
  where
    go : (t : Bool) → ltb n 10 ≡ t → value 0 (digits_from (suc k) (n / 10)) ≡ n / 10 → value 0 (digits_from (suc (suc k)) n) ≡ n
    go true e d = rw (digits_one (suc k) n (ltb-true n 10 e)) (omega arith)
    go false e d = rw (digits_more (suc k) n (ltb-false n 10 e), value_then 0 (digits_from (suc k) (n / 10)) (48 + n % 10), d) (omega arith)

pub same_decimal : (n m : ℕ) → n < 2 ^ 64 → m < 2 ^ 64 → decimal n ≡ decimal m → n ≡ m
unfolding decimal
same_decimal n m h l e = sym (value_back 19 n (omega arith)) ∙ ap (value 0) e ∙ value_back 19 m (omega arith)
