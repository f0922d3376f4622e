-- Every type is of exactly one kind: one test, computed over all 128 types.
use Prim.Native.Nat.{ℕ, zero, suc, ◌≤◌, ◌<◌}
use mathlib.Core.Path.{◌≡◌, refl, sym, ap, ◌∙◌}
use mathlib.Core.Bool.{Bool, true, false, cond, not, ◌&&◌, and-eq-true_iff, false≢true}
use lib.ListN.{get_or-eq_default}
use native.Mathlib.Numerals.{lt_of_le_of_ne}
use native.Mathlib.Omega.{arith}
use lib.Dec.{eqb, ltb}
use borrow.Author.Tests.{ltb-true, ltb-false, eqb-true, eqb-false, eq-eqb, ne_eqb}
use Rattle.kinds.specs.FirstWord.{type_of}
use Rattle.plates.specs.Kinds.{kinds, is_kind}
use Rattle.plates.specs.Hops.{kind_of}

-- a test holds of all numbers below n
abbrev below : ℕ → (ℕ → Bool) → Bool
below zero f = true
below (suc n) f = f n && below n f

below_each : (n : ℕ) (f : ℕ → Bool) → below n f ≡ true → (t : ℕ) → t < n → f t ≡ true
below_each zero f h t l = absurd (omega arith)
below_each (suc n) f h t l =
    let p = (and-eq-true_iff (f n) (below n f)).0 h in
    go (eqb t n) refl p.0 (λ less. below_each n f p.1 t less)
  where
    go : (b : Bool) → eqb t n ≡ b → f n ≡ true → (t < n → f t ≡ true) → f t ≡ true
    go true e p r = rw (eqb-true t n e) p
    go false e p r = r (lt_of_le_of_ne (omega arith) (eqb-false t n e))

abbrev same : Bool → Bool → Bool
same a b = cond a b (not b)

same_true : (a b : Bool) → same a b ≡ true → a ≡ b
same_true true true e = refl
same_true true false e = absurd (false≢true e)
same_true false true e = absurd (false≢true e)
same_true false false e = refl

-- of each type: it is of its kind and of no other, and its kind is one of six
abbrev agrees : ℕ → Bool
agrees t = below 6 (λ k. same (is_kind k t) (eqb (kind_of t) k)) && ltb (kind_of t) 6

each_agrees : (t : ℕ) → t < 128 → agrees t ≡ true
each_agrees = below_each 128 agrees refl

pub kind_small : (t : ℕ) → t < 128 → kind_of t < 6
kind_small t l = ltb-true (kind_of t) 6 ((and-eq-true_iff (below 6 (λ k. same (is_kind k t) (eqb (kind_of t) k))) (ltb (kind_of t) 6)).0 (each_agrees t l)).1

-- there are no more kinds
kind_none : (k t : ℕ) → 6 ≤ k → is_kind k t ≡ false
kind_none k t h = ap (λ f. f t) (get_or-eq_default kinds (λ t. false) h)

pub kind_is : (t k : ℕ) → t < 128 → is_kind k t ≡ eqb (kind_of t) k
kind_is t k l = go (ltb k 6) refl
  where
    go : (b : Bool) → ltb k 6 ≡ b → is_kind k t ≡ eqb (kind_of t) k
    go true e =
        let all = ((and-eq-true_iff (below 6 (λ k. same (is_kind k t) (eqb (kind_of t) k))) (ltb (kind_of t) 6)).0 (each_agrees t l)).0 in
        same_true (is_kind k t) (eqb (kind_of t) k) (below_each 6 (λ k. same (is_kind k t) (eqb (kind_of t) k)) all k (ltb-true k 6 e))
    go false e =
        let h = ltb-false k 6 e in
        let s = kind_small t l in
        kind_none k t h ∙ sym (ne_eqb (kind_of t) k (λ z. omega arith))

-- so it is of kind number k exactly where that is its kind's
pub kind_there : (t : ℕ) → t < 128 → is_kind (kind_of t) t ≡ true
kind_there t l = kind_is t (kind_of t) l ∙ eq-eqb (kind_of t) (kind_of t) refl

pub kind_only : (t k : ℕ) → t < 128 → is_kind k t ≡ true → k ≡ kind_of t
kind_only t k l h = sym (eqb-true (kind_of t) k (sym (kind_is t k l) ∙ h))

-- the type of a word
pub type_small : (w : ℕ) → type_of w < 128
type_small w = omega arith
