-- What the tests of a call say of its numbers, and back.
use Prim.Native.Nat.{ℕ, ◌+◌, ◌%◌, ◌≤◌}
use mathlib.Core.Path.{◌≡◌, refl, sym, ap, ◌∙◌}
use mathlib.Core.Bool.{Bool, true, false, ◌&&◌}
use mathlib.Core.List.{[], ◌∷◌}
use native.Mathlib.Omega.{arith}
use lib.Dec.{eqb, leb}
use lib.IntN.{ℤ, pos, negsuc}
use borrow.Author.Tests.{leb-true, le-leb, lt-leb, eqb-true, eq-eqb, eqb-false}
use mir.Syntax.{w32}
use mir.Val.{of_z}
use Rattle.words.specs.Words.{unsigned}
use Rattle.limits.specs.Limits.{dim_ok}
use Rattle.kinds.proofs.Types.{Each}
use Rattle.fields.specs.Faults.{each_at_most, fields_ok}
use Rattle.fields.specs.declared.Fields.{Fields}
use Rattle.fields.proofs.Bounds.{both, and-true, each_least, least_each}
use Rattle.text_fields.specs.declared.Text.{Text}
use Rattle.text_fields.specs.Faults.{byte_numbers, long_numbers, numbers_ok, flat_ok, lists_ok, odd_ok, text_arguments_ok}

---- the numbers

pub record Numbers (t : Text) : Type 0 where
  pub byte : Each (λ x. x ≤ 255) (byte_numbers t)
  pub long : Each (λ x. x ≤ 4294967295) (long_numbers t)

pub numbers : (t : Text) → numbers_ok t ≡ true → Numbers t
unfolding numbers_ok
numbers t e =
    let a = both (each_at_most 255 (byte_numbers t)) (each_at_most 4294967295 (long_numbers t)) e in
    record { byte = each_least 255 (byte_numbers t) a.0; long = each_least 4294967295 (long_numbers t) a.1 }

pub numbers_ok_lem : (t : Text) → Numbers t → numbers_ok t ≡ true
unfolding numbers_ok
numbers_ok_lem t n = and-true (least_each 255 (byte_numbers t) n.byte) (least_each 4294967295 (long_numbers t) n.long)

-- a number of 32 bits that is 0 has the long 0
of_unsigned : (z : ℤ) → of_z w32 z ≡ unsigned z
of_unsigned (pos n) = refl
of_unsigned (negsuc n) = omega arith

none_least : (n : ℕ) → eqb n 0 ≡ leb n 0
none_least n = go (eqb n 0) refl
  where
    go : (b : Bool) → eqb n 0 ≡ b → b ≡ leb n 0
    go true e = let z = eqb-true n 0 e in sym (le-leb n 0 (omega arith))
    go false e = let z = eqb-false n 0 e in sym (lt-leb n 0 (omega arith))

pub zero_long : (z : ℤ) → eqb (of_z w32 z) 0 ≡ each_at_most 0 (unsigned z ∷ [])
zero_long z = ap (λ n. eqb n 0) (of_unsigned z) ∙ none_least (unsigned z) ∙ go (leb (unsigned z) 0)
  where
    go : (b : Bool) → b ≡ (b && true)
    go true = refl
    go false = refl

---- the lists

pub record Lists (characters triples : ℕ) : Type 0 where
  pub few : characters ≤ 255
  pub whole : triples % 3 ≡ 0
  pub short : triples ≤ 765

pub lists : (characters triples : ℕ) → lists_ok characters triples ≡ true → Lists characters triples
unfolding lists_ok
lists characters triples e =
    let a = both (leb characters 255) _ e in
    let b = both (eqb (triples % 3) 0) (leb triples 765) a.1 in
    record { few = leb-true characters 255 a.0; whole = eqb-true (triples % 3) 0 b.0; short = leb-true triples 765 b.1 }

pub lists_ok_lem : (characters triples : ℕ) → Lists characters triples → lists_ok characters triples ≡ true
unfolding lists_ok
lists_ok_lem characters triples l =
    and-true (le-leb characters 255 l.few) (and-true (eq-eqb (triples % 3) 0 l.whole) (le-leb triples 765 l.short))

---- the call

pub record Called (dim : ℕ) (f : Fields) (t : Text) (characters triples tail : ℕ) : Type 0 where
  pub dims : dim_ok dim ≡ true
  pub kind : f.kind ≡ 17
  pub fields : fields_ok f ≡ true
  pub numbers : Numbers t
  pub flat : flat_ok dim t ≡ true
  pub lists : Lists characters triples
  pub odd : odd_ok t (characters + triples) ≡ true
  pub even : tail % 2 ≡ 0

pub called : {dim : ℕ} {f : Fields} {t : Text} {characters triples tail : ℕ} → text_arguments_ok dim f t characters triples tail ≡ true → Called dim f t characters triples tail
unfolding text_arguments_ok
called {dim} {f} {t} {characters} {triples} {tail} e =
    let a = both (dim_ok dim) _ e in
    let b = both (eqb f.kind 17) _ a.1 in
    let c = both (fields_ok f) _ b.1 in
    let d = both (numbers_ok t) _ c.1 in
    let g = both (flat_ok dim t) _ d.1 in
    let h = both (lists_ok characters triples) _ g.1 in
    let i = both (odd_ok t (characters + triples)) _ h.1 in
    record {
      dims = a.0;
      kind = eqb-true f.kind 17 b.0;
      fields = c.0;
      numbers = numbers t d.0;
      flat = g.0;
      lists = lists characters triples h.0;
      odd = i.0;
      even = eqb-true (tail % 2) 0 i.1;
    }

pub called_ok : {dim : ℕ} {f : Fields} {t : Text} {characters triples tail : ℕ} → Called dim f t characters triples tail → text_arguments_ok dim f t characters triples tail ≡ true
unfolding text_arguments_ok
called_ok {dim} {f} {t} {characters} {triples} {tail} c =
    and-true c.dims
    (and-true (eq-eqb f.kind 17 c.kind)
    (and-true c.fields
    (and-true (numbers_ok_lem t c.numbers)
    (and-true c.flat (and-true (lists_ok_lem characters triples c.lists) (and-true c.odd (eq-eqb (tail % 2) 0 c.even)))))))
