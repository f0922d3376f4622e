-- On an accepted used file, whose marker is its last word, the refusals that are found by the descent are those of
-- edits' definitions over the list of the file's elements.
use Prim.Native.Nat.{ℕ}
use mathlib.Core.Path.{◌≡◌, refl, ap, ◌∙◌}
use mathlib.Core.Bool.{Bool, true, false, cond}
use mathlib.Core.List.{List, [], ◌∷◌}
use mathlib.Core.Option.{Option, none, some}
use lib.Dec.{eqb}
use Rattle.words.specs.Words.{words, word_at}
use Rattle.headers.specs.Checks.{check, first_fault}
use Rattle.files.specs.Spots.{Spot, spots_of, spot_in}
use Rattle.places.specs.declared.Above.{Above}
use Rattle.places.specs.declared.Above.TheVariants.{Top, Under}
use Rattle.places.specs.Places.{above_of, found_by}
use Rattle.places.specs.Descent.{locate_of}
use Rattle.edits.specs.Allowed.{Fault?, fine, fault, or_else, unless, is_some, starts_at, flag_differs, same_header, is_under, mark_fault, rename_fault, remove_fault}
use Rattle.headers.specs.Header.{type_at}
use Rattle.kinds.specs.Kinds.{is_cell}
use Rattle.opening.specs.Opening.{header_of}
use Rattle.opening.proofs.Opening.{AcceptedUsed}
use Rattle.opening.proofs.Accepted.{found_is}
use Rattle.faults.specs.Faults.{is_at, mark_number, rename_number, same_above, stands_under}

---- the numbers

-- the refusal at place 0 that a number stands for; 0 stands for none
abbrev pub numbered : ℕ → Fault?
numbered n = cond (eqb n 0) fine (fault n 0)

two_checks : (a b : Bool) → numbered (first_fault (check a 13 ∷ check b 14 ∷ [])) ≡ or_else (unless a 13) (unless b 14)
two_checks true true = refl
two_checks true false = refl
two_checks false b = refl

three_checks : (a b c : Bool) → numbered (first_fault (check a 13 ∷ check b 18 ∷ check c 12 ∷ [])) ≡ or_else (unless a 13) (or_else (unless b 18) (unless c 12))
three_checks true true true = refl
three_checks true true false = refl
three_checks true false c = refl
three_checks false b c = refl

---- what is found

found_at : (o : Option Spot) → is_at (found_by o) ≡ is_some o
found_at none = refl
found_at (some x) = refl

same_above_lem : (o : Option ℕ) (h : Above) → same_above (above_of o) h ≡ same_header o (header_of h)
same_above_lem none Top = refl
same_above_lem none (Under b) = refl
same_above_lem (some a) Top = refl
same_above_lem (some a) (Under b) = refl

found_under : (o : Option Spot) (h : Above) → stands_under (found_by o) h ≡ is_under o (header_of h)
found_under none h = refl
found_under (some x) h = same_above_lem x.header h

---- in an accepted file

module _ (dim : ℕ) (s : List ℕ) (m : ℕ) (used : AcceptedUsed dim s m) where
  pub at_is : (p : ℕ) → is_at (locate_of (words s) p m) ≡ starts_at (spots_of dim (words s)) p
  at_is p = ap is_at (found_is dim s m used p) ∙ found_at (spot_in (spots_of dim (words s)) p)

  pub under_is : (p : ℕ) (h : Above) → stands_under (locate_of (words s) p m) h ≡ is_under (spot_in (spots_of dim (words s)) p) (header_of h)
  under_is p h = ap (λ f. stands_under f h) (found_is dim s m used p) ∙ found_under (spot_in (spots_of dim (words s)) p) h

  pub mark_is : (p : ℕ) (deleted : Bool) → numbered (mark_number (words s) (locate_of (words s) p m) p deleted) ≡ mark_fault (spots_of dim (words s)) (words s) p deleted
  unfolding mark_number mark_fault
  mark_is p deleted = rw (at_is p) (two_checks (starts_at (spots_of dim (words s)) p) (flag_differs deleted (word_at (words s) p)))

  pub rename_is : (p : ℕ) (named : Bool) → numbered (rename_number (words s) (locate_of (words s) p m) p named) ≡ rename_fault (spots_of dim (words s)) (words s) p named
  unfolding rename_number rename_fault
  rename_is p named = rw (at_is p) (three_checks (starts_at (spots_of dim (words s)) p) (is_cell (type_at (words s) p)) named)

  pub remove_is : (p : ℕ) → unless (is_at (locate_of (words s) p m)) 13 ≡ remove_fault (spots_of dim (words s)) p
  unfolding remove_fault
  remove_is p = rw (at_is p) refl
