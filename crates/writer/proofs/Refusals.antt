-- A writer is refused with the number of its first fault, which is one of its own numbers, at 0, and leaves its buffer as it was.
use Prim.Native.Nat.{ℕ}
use mathlib.Core.Path.{◌≡◌, refl, sym, ◌∙◌, subst}
use mathlib.Core.Bool.{Bool, true, false, cond}
use mathlib.Core.List.{List, [], ◌∷◌}
use lib.ListN.{length}
use lib.Dec.{eqb}
use lib.IntN.{ℤ}
use borrow.Author.Tests.{eqb-false, ne_eqb}
use Rattle.std.specs.Prelude.{Ok, Result}
use Rattle.kinds.specs.Kinds.{one_of}
use Rattle.headers.proofs.Checks.{first_in}
use Rattle.fields.specs.Words.{size_of, element_words}
use Rattle.fields.specs.Faults.{write_checks, write_fault}
use Rattle.fields.specs.declared.Fields.{Fields}
use Rattle.refusals.specs.Refusals.{refused_with}
use Rattle.refusals.specs.declared.Refusal.{Refusal}
use Rattle.refusals.proofs.Laws.{number_is, place_is, refused_not_given}
use Rattle.writer.specs.Writing.{written_by, WritesBy, Writes}

-- the numbers of the writer, in their order
abbrev numbers : List ℕ
numbers = 1 ∷ 7 ∷ 8 ∷ 11 ∷ 15 ∷ []

fault_number : (dim : ℕ) (f : Fields) (points : List ℤ) (tail : List ℕ) (room : ℕ) → (write_fault dim f points tail room ≡ 0 → ⊥) → one_of numbers (write_fault dim f points tail room) ≡ true
unfolding write_fault
fault_number dim f points tail room h = first_in (one_of numbers) (write_checks dim f points tail room) refl h

-- by the number of the fault
by_fault : (k size n p : ℕ) → written_by k size ≡ refused_with n p → (k ≡ n) × (k ≡ 0 → ⊥) × (p ≡ 0)
by_fault k size n p q = go (eqb k 0) refl q
  where
    go : (b : Bool) → eqb k 0 ≡ b → cond b (Ok size) (refused_with k 0) ≡ refused_with n p → (k ≡ n) × (k ≡ 0 → ⊥) × (p ≡ 0)
    go true e q = absurd (refused_not_given q)
    go false e q = (number_is q, eqb-false k 0 e, sym (place_is q))

-- a writer that is refused: its fault is the number that it answers, at 0, and the buffer is as it was
pub refused_by : (k size : ℕ) (ws out : List ℕ) (r : Result ℕ Refusal) (last : List ℕ) (n p : ℕ) → WritesBy k size ws out r last → r ≡ refused_with n p →
    (k ≡ n) × (k ≡ 0 → ⊥) × (p ≡ 0) × (last ≡ out)
refused_by k size ws out r last n p w q =
    let x = by_fault k size n p (sym w.answer ∙ q) in
    (x.0, x.1, x.2, rw (ne_eqb k 0 x.1) at w.bytes)

pub write_refused : (dim : ℕ) (f : Fields) (points : List ℤ) (tail out : List ℕ) (r : Result ℕ Refusal) (last : List ℕ) (n p : ℕ) →
    Writes dim f points tail out r last → r ≡ refused_with n p → (one_of (1 ∷ 7 ∷ 8 ∷ 11 ∷ 15 ∷ []) n ≡ true) × (p ≡ 0) × (last ≡ out)
write_refused dim f points tail out r last n p w q =
    let x = refused_by (write_fault dim f points tail (length out)) (size_of dim f points tail) (element_words dim f points tail) out r last n p w q in
    (subst (λ m. one_of numbers m ≡ true) x.0 (fault_number dim f points tail (length out) x.1), x.2, x.3)
