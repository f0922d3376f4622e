-- An element has one plate or none; so calls one after another give the plates of all cells.
use Prim.Native.Nat.{ℕ, ◌*◌, ◌≤◌}
use mathlib.Core.Path.{◌≡◌, refl, ap, ap₂, ◌∙◌}
use mathlib.Core.Bool.{and-eq-true_iff}
use mathlib.Core.List.{List}
use native.Mathlib.Omega.{arith}
use lib.ListN.{length, get_or, take}
use lib.Dec.{leb}
use borrow.Author.Tests.{leb-true}
use Rattle.words.specs.Words.{words, word_at}
use Rattle.kinds.specs.FirstWord.{deleted_of}
use Rattle.files.specs.Spots.{Spot}
use Rattle.plates.specs.Plates.{plate_of}
use Rattle.answers.proofs.Besides.{front_read}
use Rattle.order.specs.Fitting.{all_of}
use Rattle.order.proofs.Took.{all_append, Takes, all_taken}
use Rattle.dgn_plates.specs.Plates.{entry_by, plate_entry, all_numbers, in_plates, plates_part}
use Rattle.dgn_plates.specs.Answers.{plates_reply}
use Rattle.dgn_plates.specs.Calls.{plates_call, AllPlates}
use Rattle.dgn_plates.proofs.Slices.{numbers_long, numbers_append}
use Rattle.std.specs.Prelude.{Err, Ok, Result}
use Rattle.plates.specs.declared.Plate.{Plate}
use Rattle.refusals.specs.declared.Refusal.{Refusal}

entry_few : (c : Result Plate Refusal) (place deleted : ℕ) → length (entry_by c place deleted) ≤ 1
entry_few (Ok plate) place deleted = omega arith
entry_few (Err refusal) place deleted = omega arith

module _ (dim : ℕ) (s : List ℕ) where
  few : (x : Spot) → length (plate_entry dim s x) ≤ 1
  few x = entry_few (plate_of dim s x.place) x.place (deleted_of (word_at (words s) x.place))

  takes_plates : Takes (plates_call dim s) in_plates (λ x. x.numbers) (λ x. x.out) (plate_entry dim s) all_numbers 1 (λ n. n)
  takes_plates = record {
    next = λ k y. refl;
    reads = λ y t xs fits put number.
        let es = all_of (plate_entry dim s) xs in
        let n = numbers_long (all_of (plate_entry dim s) xs) in
        let a : 11 * get_or y.out 1 0 ≡ length (all_numbers (all_of (plate_entry dim s) xs)) = omega arith in
        ap₂ take a put ∙ front_read (all_numbers es) t (omega arith);
    enough = λ x h.
        let both = (and-eq-true_iff (leb 11 (length x.numbers)) (leb 2 (length x.out))).0 h in
        let n = leb-true 11 (length x.numbers) both.0 in
        (omega arith, leb-true 2 (length x.out) both.1);
    joins = record {
      append = λ xs ys. ap all_numbers (all_append (plate_entry dim s) xs ys) ∙ numbers_append (all_of (plate_entry dim s) xs) (all_of (plate_entry dim s) ys);
      empty = refl;
      unit = λ g. refl;
    };
  }

pub all_plates : AllPlates
unfolding plates_reply plates_part
all_plates dim s e d m j calls got last c =
    all_taken (plates_call dim s) in_plates (λ x. x.numbers) (λ x. x.out) dim s e d m j (plate_entry dim s) (plate_entry dim s) all_numbers 1 (λ n. n) (takes_plates dim s)
    (λ x f. refl) (λ x f. few dim s x) (λ k x n y h a. a.replied) (λ k x n y h a. a.given) calls got last c
