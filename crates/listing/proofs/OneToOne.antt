-- The characters of a text can be read back from their escaped form: one step reads the first of them and leaves the others'
-- (`first_back`), so two texts of the same form are the same.
use Prim.Native.Nat.{ℕ, suc, ◌+◌, ◌*◌, ◌-◌, ◌/◌, ◌%◌, ◌<◌}
use mathlib.Core.Path.{◌≡◌, refl, sym, ap, ◌∙◌}
use mathlib.Core.Bool.{Bool, true, false, cond}
use mathlib.Core.List.{List, [], ◌∷◌, ◌++◌}
use native.Mathlib.Omega.{arith}
use lib.Dec.{eqb, ltb}
use lib.ListN.{length, get_or, drop}
use borrow.Author.Tests.{lt-ltb, le-ltb, ltb-true, ltb-false, eqb-true, eqb-false}
use Rattle.words.specs.Words.{Below}
use Rattle.listing.specs.Lines.{last_field}
use Rattle.listing.specs.Texts.{hexadecimal, prints, escape, escaped}
use Rattle.listing.proofs.Escapes.{escape_backslash, escape_printed, escape_other, length_escaped}

---- one character

-- what a hexadecimal digit stands for
abbrev digit : ℕ → ℕ
digit b = cond (ltb b 58) (b - 48) (b - 87)

digit_back : (d : ℕ) → d < 16 → digit (hexadecimal d) ≡ d
digit_back d h = go (ltb d 10) refl
  where
    go : (t : Bool) → ltb d 10 ≡ t → digit (cond t (48 + d) (87 + d)) ≡ d
    go true e = let l = ltb-true d 10 e in rw (lt-ltb (48 + d) 58 (omega arith)) (omega arith)
    go false e = let l = ltb-false d 10 e in rw (le-ltb (87 + d) 58 (omega arith)) (omega arith)

-- the first character of an escaped form, and what follows it
abbrev read_by : Bool → Bool → List ℕ → ℕ × List ℕ
read_by false b l = (get_or l 0 0, drop 1 l)
read_by true true l = (92, drop 2 l)
read_by true false l = (16 * digit (get_or l 2 0) + digit (get_or l 3 0), drop 4 l)

abbrev read : List ℕ → ℕ × List ℕ
read l = read_by (eqb (get_or l 0 0) 92) (eqb (get_or l 1 0) 92) l

first_back : (c : ℕ) (rest : List ℕ) → c < 256 → read (escape c ++ rest) ≡ (c, rest)
first_back c rest h = go (eqb c 92) (prints c) refl refl
  where
    go : (a b : Bool) → eqb c 92 ≡ a → prints c ≡ b → read (escape c ++ rest) ≡ (c, rest)
    go true b e f =
        let z = eqb-true c 92 e in
        rw (escape_backslash c z, z) refl
    go false true e f = rw (escape_printed c (eqb-false c 92 e) f, e) refl
    go false false e f =
        rw (escape_other c (eqb-false c 92 e) f, digit_back (c / 16) (omega arith), digit_back (c % 16) (omega arith))
        (ap (λ x. (x, rest)) (omega arith))

---- all of them

pub same_escaped : (a b : List ℕ) → Below 256 a → Below 256 b → escaped a ≡ escaped b → a ≡ b
same_escaped [] [] p q e = refl
same_escaped [] (y ∷ b) p q e = let n = (length_escaped (y ∷ b)).0 in let m = ap length e in absurd (omega arith)
same_escaped (x ∷ a) [] p q e = let n = (length_escaped (x ∷ a)).0 in let m = ap length e in absurd (omega arith)
same_escaped (x ∷ a) (y ∷ b) p q e =
    let z = sym (first_back x (escaped a) (p 0)) ∙ ap read e ∙ first_back y (escaped b) (q 0) in
    let rest = same_escaped a b (λ i. p (suc i)) (λ i. q (suc i)) (ap (λ w. w.1) z) in
    rw (ap (λ w. w.0) z, rest) refl

-- and so with the space before it
pub one_to_one : (a b : List ℕ) → Below 256 a → Below 256 b → last_field (escaped a) ≡ last_field (escaped b) → a ≡ b
one_to_one a b p q e = same_escaped a b p q (back (escaped a) (escaped b) e)
  where
    back : (x y : List ℕ) → last_field x ≡ last_field y → x ≡ y
    back [] [] e = refl
    back [] (c ∷ y) e = let m = ap length e in absurd (omega arith)
    back (c ∷ x) [] e = let m = ap length e in absurd (omega arith)
    back (c ∷ x) (d ∷ y) e = ap (drop 1) e
