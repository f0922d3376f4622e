-- The number of each refusal is one of the table's, so every answer of dgn_write_text can be taken apart again.
use Prim.Native.Nat.{ℕ}
use mathlib.Core.Path.{◌≡◌, refl}
use mathlib.Core.Bool.{Bool, true, false, cond, ◌&&◌}
use mathlib.Core.List.{List}
use native.Mathlib.Omega.{arith}
use lib.Dec.{leb}
use lib.IntN.{ℤ}
use borrow.Author.Tests.{leb-true}
use Rattle.headers.proofs.Checks.{first_in}
use Rattle.fields.specs.declared.Fields.{Fields}
use Rattle.text_fields.specs.declared.Text.{Text}
use Rattle.text_fields.specs.Faults.{text_checks, text_fault}
use Rattle.writer.specs.Writing.{written_by}
use Rattle.answers.specs.Answers.{SmallReply}
use Rattle.write_answers.specs.Writing.{fields_given, fields_of, write_reply}
use Rattle.write_answers.proofs.Writing.{Table, by_table}
use Rattle.dgn_text_writer.specs.Writing.{text_given, text_in, given_fault}

pub fault_table : (dim : ℕ) (f : Fields) (t : Text) (characters triples tail : List ℕ) (room : ℕ) → Table (text_fault dim f t characters triples tail room)
unfolding text_fault
fault_table dim f t characters triples tail room h = leb-true _ 22 (first_in (λ k. leb k 22) (text_checks dim f t characters triples tail room) refl h)

module _ (dim : ℕ) (f l : List ℤ) (characters triples tail : List ℕ) (room : ℕ) where
  -- the first fault, by the two slices of numbers
  pub fault_given : text_given l ≡ true → fields_given f ≡ true →
      given_fault dim f l characters triples tail room ≡ text_fault dim (fields_of f) (text_in l characters triples) characters triples tail room
  unfolding given_fault
  fault_given a b = rw (a, b) refl

  pub no_text : text_given l ≡ false → given_fault dim f l characters triples tail room ≡ 1
  unfolding given_fault
  no_text a = rw a refl

  pub no_fields : text_given l ≡ true → fields_given f ≡ false → given_fault dim f l characters triples tail room ≡ 1
  unfolding given_fault
  no_fields a b = rw (a, b) refl

  given_table : Table (given_fault dim f l characters triples tail room)
  unfolding given_fault
  given_table = go (text_given l && fields_given f)
    where
      go : (b : Bool) → Table (cond b (text_fault dim (fields_of f) (text_in l characters triples) characters triples tail room) 1)
      go true = fault_table dim (fields_of f) (text_in l characters triples) characters triples tail room
      go false = λ h. omega arith

  pub write_text_small : (size : ℕ) → SmallReply (write_reply (written_by (given_fault dim f l characters triples tail room) size))
  write_text_small size = by_table (given_fault dim f l characters triples tail room) size given_table
