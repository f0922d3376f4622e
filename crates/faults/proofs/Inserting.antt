-- What the steps of an insert's judgment say of its refusal: the header, the place, the piece and the room, in this order.
use Prim.Native.Nat.{ℕ}
use mathlib.Core.Path.{◌≡◌, refl, sym}
use mathlib.Core.Bool.{true, false, ◌||◌}
use mathlib.Core.List.{List}
use lib.ListN.{length}
use lib.Dec.{eqb}
use Rattle.words.specs.Words.{words}
use Rattle.places.specs.declared.Above.{Above}
use Rattle.edits.specs.Allowed.{Fault?, fine, fault, or_else, piece_refusal}
use Rattle.edits.specs.Records.{is_fine}
use Rattle.faults.specs.Faults.{stands_under}
use Rattle.faults.specs.Inserting.{components_of, room_under, insert_refusal, answer_of}
use Rattle.std.specs.Prelude.{Err, None, Ok, Result, Some, is_ok}
use Rattle.faults.specs.declared.Components.{Components}
use Rattle.places.specs.declared.Spotted.{Spotted}
use Rattle.refusals.specs.Refusals.{refused_with}
use Rattle.refusals.specs.declared.Refusal.{Refusal}
use Rattle.refusals.proofs.Laws.{refused_not_given, given_not_refused}

---- the first of two refusals

first : (f g : Fault?) (refusal : Refusal) → answer_of f ≡ Err refusal → Err refusal ≡ answer_of (or_else f g)
first fine g refusal e = absurd (refused_not_given e)
first (fault n p) g refusal e = sym e

rest : (f g : Fault?) → answer_of f ≡ Ok tt → answer_of g ≡ answer_of (or_else f g)
rest fine g e = refl
rest (fault n p) g e = absurd (given_not_refused e)

-- an answer is given where there is no refusal
pub given_fine : (f : Fault?) → is_ok (answer_of f) ≡ is_fine f
given_fine fine = refl
given_fine (fault n p) = refl

---- the steps

module _ (dim : ℕ) (s : List ℕ) (marker : ℕ) (found : Result Spotted Refusal) (header : Above) (p : ℕ) (x : List ℕ) where
  pub insert_absent : components_of (words s) marker header ≡ None → refused_with 13 0 ≡ answer_of (insert_refusal dim s marker found header p x)
  unfolding insert_refusal
  insert_absent e = rw e

  module _ (list : Components) (is : components_of (words s) marker header ≡ Some list) where
    pub insert_elsewhere : (stands_under found header || eqb list.end p) ≡ false → refused_with 13 0 ≡ answer_of (insert_refusal dim s marker found header p x)
    unfolding insert_refusal
    insert_elsewhere g = rw (is, g)

    module _ (gap : (stands_under found header || eqb list.end p) ≡ true) where
      pub insert_piece : (refusal : Refusal) → answer_of (piece_refusal dim list.depth list.under x) ≡ Err refusal →
          Err refusal ≡ answer_of (insert_refusal dim s marker found header p x)
      unfolding insert_refusal
      insert_piece refusal e = rw (is, gap) (first (piece_refusal dim list.depth list.under x) (room_under s header (length x)) refusal e)

      pub insert_room : answer_of (piece_refusal dim list.depth list.under x) ≡ Ok tt →
          answer_of (room_under s header (length x)) ≡ answer_of (insert_refusal dim s marker found header p x)
      unfolding insert_refusal
      insert_room e = rw (is, gap) (rest (piece_refusal dim list.depth list.under x) (room_under s header (length x)) e)
