-- On an accepted used file, whose marker is its last word, an insert's refusal that is found by the descent is that of
-- edits' definitions over the list of the file's elements.
use Prim.Native.Nat.{ℕ, ◌-◌}
use mathlib.Core.Path.{◌≡◌, refl, sym, ap, ◌∙◌}
use mathlib.Core.Bool.{Bool, true, false}
use mathlib.Core.List.{List}
use mathlib.Core.Option.{Option, none, some}
use native.Mathlib.Omega.{arith}
use lib.ListN.{length}
use lib.Dec.{eqb}
use borrow.Author.Tests.{eqb-true, eqb-false, eq-eqb, ne_eqb}
use Rattle.words.specs.Words.{words, Below}
use Rattle.headers.specs.Header.{type_at}
use Rattle.kinds.specs.Kinds.{is_header}
use Rattle.files.specs.Spots.{Spot, spots_of, spot_in}
use Rattle.places.specs.declared.Above.{Above}
use Rattle.places.specs.declared.Above.TheVariants.{Top, Under}
use Rattle.places.specs.Places.{found_by}
use Rattle.places.specs.Descent.{locate_of}
use Rattle.edits.specs.Allowed.{gap_ok, piece_fault, insert_fault}
use Rattle.totals.proofs.Rooms.{room_is}
use Rattle.opening.specs.Opening.{header_of}
use Rattle.opening.proofs.Opening.{AcceptedUsed}
use Rattle.opening.proofs.Accepted.{standing, found_is}
use Rattle.faults.proofs.ExactMarks.{under_is}
use Rattle.faults.specs.Inserting.{components_by, insert_in, insert_refusal}

module _ (dim : ℕ) (s : List ℕ) (m : ℕ) (used : AcceptedUsed dim s m) (below : Below 256 s) where
  -- the list at the top ends at the marker
  marker_is : (p : ℕ) → eqb m p ≡ eqb p (length (words s) - 1)
  marker_is p = go (eqb m p) refl
    where
      go : (b : Bool) → eqb m p ≡ b → b ≡ eqb p (length (words s) - 1)
      go true q = let h = eqb-true m p q in let l = used.last in sym (eq-eqb p (length (words s) - 1) (omega arith))
      go false q = let h = eqb-false m p q in let l = used.last in sym (ne_eqb p (length (words s) - 1) (λ z. h (omega arith)))

  top_is : (p : ℕ) (x : List ℕ) → insert_refusal dim s m (locate_of (words s) p m) Top p x ≡ insert_fault dim (spots_of dim (words s)) (words s) none p x
  unfolding insert_refusal insert_fault gap_ok piece_fault
  top_is p x = rw (under_is dim s m used p Top, marker_is p)

  header_is : (h p : ℕ) (x : List ℕ) → insert_refusal dim s m (locate_of (words s) p m) (Under h) p x ≡ insert_fault dim (spots_of dim (words s)) (words s) (some h) p x
  unfolding insert_refusal insert_fault gap_ok piece_fault
  header_is h p x =
      ap (λ f. insert_in (components_by f (type_at (words s) h)) dim s (locate_of (words s) p m) (Under h) p x) (found_is dim s m used h)
      ∙ go (spot_in (spots_of dim (words s)) h) refl (is_header (type_at (words s) h)) refl
    where
      go : (o : Option Spot) → spot_in (spots_of dim (words s)) h ≡ o → (b : Bool) → is_header (type_at (words s) h) ≡ b →
          insert_in (components_by (found_by o) (type_at (words s) h)) dim s (locate_of (words s) p m) (Under h) p x ≡ insert_fault dim (spots_of dim (words s)) (words s) (some h) p x
      go none i b t = rw i
      go (some y) i false t = rw (i, t)
      go (some y) i true t = rw (t, i, under_is dim s m used p (Under h), room_is dim (length x) h s y (standing dim s m used below) i)

  pub insert_is : (h : Above) (p : ℕ) (x : List ℕ) → insert_refusal dim s m (locate_of (words s) p m) h p x ≡ insert_fault dim (spots_of dim (words s)) (words s) (header_of h) p x
  insert_is Top p x = top_is p x
  insert_is (Under h) p x = header_is h p x
