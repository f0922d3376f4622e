-- The writer of texts is refused with one of its own numbers, at 0, and leaves its buffer as it was.
use Prim.Native.Nat.{ℕ}
use mathlib.Core.Path.{◌≡◌, refl, subst}
use mathlib.Core.Bool.{true}
use mathlib.Core.List.{List, [], ◌∷◌}
use lib.ListN.{length}
use Rattle.std.specs.Prelude.{Result}
use Rattle.kinds.specs.Kinds.{one_of}
use Rattle.headers.proofs.Checks.{first_in}
use Rattle.fields.specs.declared.Fields.{Fields}
use Rattle.writer.proofs.Refusals.{refused_by}
use Rattle.text_fields.specs.Words.{text_size, text_words}
use Rattle.text_fields.specs.Faults.{text_checks, text_fault}
use Rattle.text_fields.specs.declared.Text.{Text}
use Rattle.refusals.specs.Refusals.{refused_with}
use Rattle.refusals.specs.declared.Refusal.{Refusal}
use Rattle.text_writer.specs.Writing.{WritesText}

-- its numbers, in their order
abbrev numbers : List ℕ
numbers = 1 ∷ 20 ∷ 8 ∷ 11 ∷ 15 ∷ []

fault_number : (dim : ℕ) (f : Fields) (t : Text) (characters triples tail : List ℕ) (room : ℕ) → (text_fault dim f t characters triples tail room ≡ 0 → ⊥) →
    one_of numbers (text_fault dim f t characters triples tail room) ≡ true
unfolding text_fault
fault_number dim f t characters triples tail room h = first_in (one_of numbers) (text_checks dim f t characters triples tail room) refl h

pub write_text_refused : (dim : ℕ) (f : Fields) (t : Text) (characters triples tail out : List ℕ) (r : Result ℕ Refusal) (last : List ℕ) (n p : ℕ) →
    WritesText dim f t characters triples tail out r last → r ≡ refused_with n p → (one_of (1 ∷ 20 ∷ 8 ∷ 11 ∷ 15 ∷ []) n ≡ true) × (p ≡ 0) × (last ≡ out)
write_text_refused dim f t characters triples tail out r last n p w q =
    let x =
    refused_by (text_fault dim f t characters triples tail (length out)) (text_size dim characters triples tail) (text_words dim f t characters triples tail) out r last n p w q in
    (subst (λ m. one_of numbers m ≡ true) x.0 (fault_number dim f t characters triples tail (length out) x.1), x.2, x.3)
