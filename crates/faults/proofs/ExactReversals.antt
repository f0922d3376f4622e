-- On an accepted used file, whose marker is its last word, a record's reversal that is judged by the descent is that of
-- edits' definitions over the list of the file's elements.
use Prim.Native.Nat.{ℕ}
use mathlib.Core.Path.{◌≡◌, refl, sym, ap, ◌∙◌}
use mathlib.Core.Bool.{Bool, true, false, cond, ◌&&◌, and-true}
use mathlib.Core.List.{List}
use mathlib.Core.Option.{Option, none, some}
use lib.ListN.{length}
use lib.Dec.{eqb}
use Rattle.words.specs.Words.{words, Below, word_at}
use Rattle.names.specs.Names.{name_ok}
use Rattle.files.specs.Spots.{Spot, spots_of, spot_in}
use Rattle.places.specs.declared.Above.{Above}
use Rattle.places.specs.Descent.{locate_of}
use Rattle.edits.specs.Bits.{flags_ok}
use Rattle.edits.specs.Allowed.{fine, fault, unless, is_some, same_header, is_under, remove_fault, restore_fault, edit_fault}
use Rattle.edits.specs.Records.{Rec, flag, renamed, inserted, removed, is_fine, reversal, reversible}
use Rattle.opening.specs.Opening.{header_of}
use Rattle.opening.proofs.Opening.{AcceptedUsed}
use Rattle.flags.specs.Extents.{places_in}
use Rattle.flags.proofs.Walked.{found_starts, found_places}
use Rattle.faults.specs.Faults.{rename_number, stands_under}
use Rattle.faults.proofs.ExactMarks.{numbered, at_is, under_is, rename_is}
use Rattle.faults.specs.Inserting.{insert_refusal}
use Rattle.faults.proofs.ExactInserts.{insert_is}
use Rattle.faults.specs.Reversing.{flags_fit, reverses_at}
use Rattle.std.specs.Prelude.{Err, Ok, Result}
use Rattle.places.specs.declared.Spotted.{Spotted}
use Rattle.refusals.specs.declared.Refusal.{Refusal}

-- the record of a kind (1 flag, 2 rename, 3 insert, else remove)
abbrev pub record_by : ℕ → Option ℕ → ℕ → List ℕ → Rec
record_by kind h p x =
    cond (eqb kind 1) (flag p x)
    (cond (eqb kind 2) (renamed p (word_at x 0) (word_at x 1))
    (cond (eqb kind 3) (inserted h p) (removed h p x)))

---- each kind

-- a number is none exactly where it is 0
numbered_fine : (n : ℕ) → eqb n 0 ≡ is_fine (numbered n)
numbered_fine n = go (eqb n 0)
  where
    go : (b : Bool) → b ≡ is_fine (cond b fine (fault n 0))
    go true = refl
    go false = refl

-- an element directly under a header is an element
under_starts : (o : Option Spot) (h : Option ℕ) → is_under o h ≡ (is_under o h && is_fine (unless (is_some o) 13))
under_starts none h = refl
under_starts (some x) h = sym (and-true (same_header x.header h))

is_fine_unless : (b : Bool) (n : ℕ) → b ≡ is_fine (unless b n)
is_fine_unless true n = refl
is_fine_unless false n = refl

---- in an accepted file

module _ (dim : ℕ) (s : List ℕ) (m : ℕ) (used : AcceptedUsed dim s m) (below : Below 256 s) where
  pub reversible_is : (kind : ℕ) (h : Above) (p : ℕ) (x : List ℕ) → reverses_at dim s m (locate_of (words s) p m) kind h p x ≡ reversible dim (words s) (record_by kind (header_of h) p x)
  unfolding reverses_at reversible reversal edit_fault restore_fault remove_fault
  reversible_is kind h p x = go (eqb kind 1) (eqb kind 2) (eqb kind 3)
    where
      flag_is : flags_fit (locate_of (words s) p m) (words s) p x ≡ reversible dim (words s) (record_by 1 (header_of h) p x)
      flag_is = found (locate_of (words s) p m) refl
        where
          found : (f : Result Spotted Refusal) → locate_of (words s) p m ≡ f → flags_fit f (words s) p x ≡ reversible dim (words s) (record_by 1 (header_of h) p x)
          found (Ok spot) e =
              rw (found_starts dim s m used below p spot.end spot.depth spot.above e, found_places dim s m used below p spot.end spot.depth spot.above e) (is_fine_unless (flags_ok (length (places_in (words s) p spot.end)) x) 19)
          found (Err refusal) e = rw (sym (at_is dim s m used p), e) refl

      renamed_is : eqb (rename_number (words s) (locate_of (words s) p m) p (name_ok (word_at x 0) (word_at x 1))) 0 ≡ reversible dim (words s) (record_by 2 (header_of h) p x)
      renamed_is = numbered_fine (rename_number (words s) (locate_of (words s) p m) p (name_ok (word_at x 0) (word_at x 1))) ∙ ap is_fine (rename_is dim s m used p (name_ok (word_at x 0) (word_at x 1)))

      inserted_is : stands_under (locate_of (words s) p m) h ≡ reversible dim (words s) (record_by 3 (header_of h) p x)
      inserted_is = under_is dim s m used p h ∙ under_starts (spot_in (spots_of dim (words s)) p) (header_of h)

      removed_is : is_fine (insert_refusal dim s m (locate_of (words s) p m) h p x) ≡ reversible dim (words s) (record_by 4 (header_of h) p x)
      removed_is = ap is_fine (insert_is dim s m used below h p x)

      go : (a b c : Bool) →
          cond a (flags_fit (locate_of (words s) p m) (words s) p x)
          (cond b (eqb (rename_number (words s) (locate_of (words s) p m) p (name_ok (word_at x 0) (word_at x 1))) 0)
          (cond c (stands_under (locate_of (words s) p m) h) (is_fine (insert_refusal dim s m (locate_of (words s) p m) h p x))))
          ≡ reversible dim (words s)
          (cond a (record_by 1 (header_of h) p x) (cond b (record_by 2 (header_of h) p x) (cond c (record_by 3 (header_of h) p x) (record_by 4 (header_of h) p x))))
      go true b c = flag_is
      go false true c = renamed_is
      go false false true = inserted_is
      go false false false = removed_is
