-- One curve behind those that are used: none of an element that is none, no room, or its numbers and floats in their slices.
use Prim.Native.Nat.{ℕ, suc, ◌+◌, ◌-◌, ◌*◌, ◌≤◌, ◌<◌}
use mathlib.Core.Path.{◌≡◌, refl, sym, ap, ap₂, ◌∙◌}
use mathlib.Core.List.{List, [], ◌∷◌, ◌++◌, append-nil}
use native.Mathlib.Omega.{arith}
use lib.IntN.{ℤ, pos}
use lib.ListN.{length, set, length-set}
use lib.Seq.{sets}
use lib.Ieee.{Float}
use borrow.Author.Tests.{le-leb, lt-leb}
use Rattle.curve_views.specs.declared.Curve.TheVariants as curves
use Rattle.curve_numbers.specs.Numbers.{curve_numbers, curve_floats, numbers_of, floats_of, put_numbers, put_floats}
use Rattle.order.specs.Fitting.{ElementPut}
use Rattle.order.proofs.Fitting.{nothing_put}
use Rattle.dgn_curves.specs.Curves.{Entry, entry_of, entry_by, entry_numbers, entry_floats, both, in_both}
use Rattle.dgn_curves.proofs.Slices.{lays_both}
use Rattle.std.specs.Prelude.{Err, None, Ok, Result, Some}
use Rattle.curve_views.specs.declared.Curve.{Curve}
use Rattle.refusals.specs.declared.Refusal.{Refusal}
use Rattle.refusals.specs.Refusals.{refused_with}

-- the numbers and floats of an entry
entry_longs : (c : Curve) (place deleted : ℕ) → entry_numbers (entry_of c place deleted) ≡ pos place ∷ pos deleted ∷ curve_numbers c
entry_longs (curves.Ellipse primary secondary turn origin) place deleted = refl
entry_longs (curves.Arc start sweep primary secondary turn origin) place deleted = refl

entry_reals : (c : Curve) (place deleted : ℕ) → entry_floats (entry_of c place deleted) ≡ curve_floats c
entry_reals (curves.Ellipse primary secondary turn origin) place deleted = refl
entry_reals (curves.Arc start sweep primary secondary turn origin) place deleted = refl

-- an answer that is no refusal gives one
record One (r : Result Curve Refusal) (place deleted : ℕ) : Type 0 where
  entry : Entry
  is : entry_by r place deleted ≡ entry ∷ []
  numbers : entry_numbers entry ≡ pos place ∷ pos deleted ∷ numbers_of r
  floats : entry_floats entry ≡ floats_of r

one : (r : Result Curve Refusal) (place deleted : ℕ) → ((n p : ℕ) → r ≡ refused_with n p → ⊥) → One r place deleted
one (Ok c) place deleted o = record { entry = entry_of c place deleted; is = refl; numbers = entry_longs c place deleted; floats = entry_reals c place deleted }
one (Err refusal) place deleted o = absurd (o refusal.number refusal.place refl)

module _ (r : Result Curve Refusal) (place deleted : ℕ) (numbers : List ℤ) (floats : List Float) (used : ℕ) where
  pub put_none : (x : Refusal) → r ≡ Err x → ElementPut in_both (entry_by r place deleted) (both numbers floats) used (Some used) (both numbers floats)
  put_none x q = rw q (nothing_put in_both lays_both (both numbers floats) used)

  module _ (c : Curve) (is : r ≡ Ok c) where
    pub put_full : in_both.room (both numbers floats) - used < 1 → ElementPut in_both (entry_by r place deleted) (both numbers floats) used None (both numbers floats)
    put_full h = let no = lt-leb 1 (in_both.room (both numbers floats) - used) h in rw is (record { is = rw no refl; given = rw no refl })

    -- the two numbers before the curve's own, and these
    behind : (s : List ℤ) (at : ℕ) (a b : ℤ) (l : List ℤ) → sets (set (set s at a) (at + 1) b) (at + 2) l ≡ sets s at (a ∷ b ∷ l)
    behind s at a b l =
        let i : at + 1 ≡ suc at = omega arith in
        let k : at + 2 ≡ suc (suc at) = omega arith in
        rw (i, k) refl

    pub put_one : 9 ≤ length numbers - 9 * used → 5 ≤ length floats - 5 * used → (first second : ℤ) (numbers' : List ℤ) (floats' : List Float) → first ≡ pos place → second ≡ pos deleted →
        numbers' ≡ put_numbers (set (set numbers (9 * used) first) (9 * used + 1) second) (9 * used + 2) floats (5 * used) (Ok c) →
        floats' ≡ put_floats (set (set numbers (9 * used) first) (9 * used + 1) second) (9 * used + 2) floats (5 * used) (Ok c) →
        ElementPut in_both (entry_by r place deleted) (both numbers floats) used (Some (used + 1)) (both numbers' floats')
    unfolding put_numbers put_floats
    put_one h l first second numbers' floats' f g p q =
        let e = entry_of c place deleted in
        let s = set (set numbers (9 * used) first) (9 * used + 1) second in
        let long : length (set (set numbers (9 * used) first) (9 * used + 1) second) ≡ length numbers = simp length-set in
        let a = le-leb (9 * used + 2 + 7) (length s) (omega arith) in
        let b = le-leb (5 * used + 5) (length floats) (omega arith) in
        let yes = le-leb 1 (in_both.room (both numbers floats) - used) (omega arith) in
        let put : numbers' ≡ sets s (9 * used + 2) (curve_numbers c) = p ∙ rw (a, b) refl in
        let beside : floats' ≡ sets floats (5 * used) (curve_floats c) = q ∙ rw (a, b) refl in
        let all : first ∷ second ∷ curve_numbers c ≡ entry_numbers e ++ [] = rw (f, g) (sym (entry_longs c place deleted) ∙ sym (append-nil (entry_numbers e))) in
        let most : curve_floats c ≡ entry_floats e ++ [] = sym (entry_reals c place deleted) ∙ sym (append-nil (entry_floats e)) in
        let there : numbers' ≡ sets numbers (9 * used) (entry_numbers e ++ []) =
        put ∙ behind numbers (9 * used) first second (curve_numbers c) ∙ ap (sets numbers (9 * used)) all in
        rw is (record { is = rw yes refl; given = rw yes (ap₂ both there (beside ∙ ap (sets floats (5 * used)) most)) })
