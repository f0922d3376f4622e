-- The number of each refusal is one of the table's, so every answer of dgn_write can be taken apart again.
use Prim.Native.Nat.{ℕ}
use mathlib.Core.Path.{◌≡◌, refl}
use mathlib.Core.Bool.{Bool, true, false, cond}
use mathlib.Core.List.{List}
use native.Mathlib.Omega.{arith}
use lib.Dec.{leb}
use lib.IntN.{ℤ}
use borrow.Author.Tests.{leb-true}
use Rattle.headers.proofs.Checks.{first_in}
use Rattle.fields.specs.Faults.{write_checks, write_fault}
use Rattle.fields.specs.declared.Fields.{Fields}
use Rattle.writer.specs.Writing.{written_by}
use Rattle.answers.specs.Answers.{SmallReply}
use Rattle.write_answers.specs.Writing.{fields_given, fields_of, write_reply}
use Rattle.write_answers.proofs.Writing.{Table, by_table}
use Rattle.dgn_writer.specs.Writing.{given_fault}

pub fault_table : (dim : ℕ) (f : Fields) (points : List ℤ) (tail : List ℕ) (room : ℕ) → Table (write_fault dim f points tail room)
unfolding write_fault
fault_table dim f points tail room h = leb-true _ 22 (first_in (λ k. leb k 22) (write_checks dim f points tail room) refl h)

module _ (dim : ℕ) (f points : List ℤ) (tail : List ℕ) (room : ℕ) where
  -- the first fault, by the slice of fields
  pub fault_given : fields_given f ≡ true → given_fault dim f points tail room ≡ write_fault dim (fields_of f) points tail room
  unfolding given_fault
  fault_given e = rw e refl

  pub fault_none : fields_given f ≡ false → given_fault dim f points tail room ≡ 1
  unfolding given_fault
  fault_none e = rw e refl

  given_table : Table (given_fault dim f points tail room)
  unfolding given_fault
  given_table = go (fields_given f)
    where
      go : (b : Bool) → Table (cond b (write_fault dim (fields_of f) points tail room) 1)
      go true = fault_table dim (fields_of f) points tail room
      go false = λ h. omega arith

  pub write_small : (size : ℕ) → SmallReply (write_reply (written_by (given_fault dim f points tail room) size))
  write_small size = by_table (given_fault dim f points tail room) size given_table
