-- The words of a stored name: the codes of a word are those that it was made of.
use Prim.Native.Nat.{ℕ, ◌*◌, ◌-◌, ◌<◌, ◌≤◌, ◌/◌, ◌%◌}
use mathlib.Core.Path.{◌≡◌, sym, ap, ◌∙◌}
use mathlib.Core.Bool.{Bool, true, not, ◌&&◌, and-eq-true_iff}
use mathlib.Core.List.{List, ◌∷◌}
use native.Mathlib.Omega.{arith}
use lib.Dec.{leb, eqb}
use borrow.Author.Tests.{leb-true, le-leb, ne_eqb, eqb-false, not-true}
use Rattle.names.specs.declared.Codes.{Codes}
use Rattle.names.specs.Names.{word_of, letters_of, codes_ok, word_ok, name_ok}
use Rattle.names.proofs.Texts.{IsCode, AreCodes}

pub letters_word : (x y z : ℕ) → y < 40 → z < 40 → letters_of (word_of x y z) ≡ record { a = x; b = y; c = z }
letters_word x y z hy hz =
    let p : word_of x y z / 1600 ≡ x = omega arith in
    let q : word_of x y z / 40 % 40 ≡ y = omega arith in
    let r : word_of x y z % 40 ≡ z = omega arith in
    λ i. record { a = p i; b = q i; c = r i }

-- the codes of a word: the first letter's, and the two of what is left after it
pub letters_left : (w x y z : ℕ) → x ≡ w / 1600 → y ≡ (w - x * 1600) / 40 → z ≡ (w - x * 1600) % 40 → record { a = x; b = y; c = z } ≡ letters_of w
letters_left w x y z p q r =
    let whole : word_of x y z ≡ w = omega arith in
    let left : w - x * 1600 < 1600 = omega arith in
    sym (letters_word x y z (omega arith) (omega arith)) ∙ ap letters_of whole

-- a word of three letters' codes is part of a stored name
pub word_ok_lem : (x y z : ℕ) → IsCode x → IsCode y → IsCode z → word_ok (word_of x y z) ≡ true
unfolding word_ok
word_ok_lem x y z p q r =
    let small : word_of x y z ≤ 63999 = omega arith in
    simp (le-leb _ _ small)
    (ap codes_ok (letters_word x y z q.0 r.0) ∙ simp (ne_eqb _ _ p.1, ne_eqb _ _ q.1, ne_eqb _ _ r.1))

-- a word of at most 63999 is judged by its codes
pub by_codes : {w : ℕ} {l : Codes} {t : Bool} → w ≤ 63999 → l ≡ letters_of w → codes_ok l ≡ t → t ≡ word_ok w
unfolding word_ok
by_codes small e ok = simp (le-leb _ _ small) (sym ok ∙ ap codes_ok e)

-- a word that is part of a stored name is small, and its codes are letters'
module _ (w : ℕ) (ok : word_ok w ≡ true) where
  pub word_small : w ≤ 63999
  unfolding word_ok
  word_small = leb-true _ _ ((and-eq-true_iff _ (codes_ok (letters_of w))).0 ok).0

  no_29 : codes_ok (letters_of w) ≡ true
  unfolding word_ok
  no_29 = ((and-eq-true_iff (leb w 63999) _).0 ok).1

  pub word_codes : (rest : List ℕ) → AreCodes rest → AreCodes (w / 1600 ∷ w / 40 % 40 ∷ w % 40 ∷ rest)
  word_codes rest r =
      let small = word_small in
      let p = (and-eq-true_iff (not (eqb (w / 1600) 29)) (not (eqb (w / 40 % 40) 29) && not (eqb (w % 40) 29))).0 no_29 in
      let q = (and-eq-true_iff (not (eqb (w / 40 % 40) 29)) (not (eqb (w % 40) 29))).0 p.1 in (
        (omega arith, eqb-false _ _ (not-true _ p.0)),
        ((omega arith, eqb-false _ _ (not-true _ q.0)), ((omega arith, eqb-false _ _ (not-true _ q.1)), r)),
      )

pub both_ok : (a b : ℕ) → name_ok a b ≡ true → (word_ok a ≡ true) × (word_ok b ≡ true)
unfolding name_ok
both_ok a b ok = (and-eq-true_iff _ _).0 ok
