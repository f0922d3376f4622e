-- The place of a refused call of a session is at most 524,288, the words of the longest file.
use Prim.Native.Nat.{ℕ, ◌%◌, ◌≤◌, ◌<◌}
use mathlib.Core.Path.{◌≡◌, refl}
use mathlib.Core.Logic.{inl, inr}
use mathlib.Core.Bool.{Bool, true, false, and-eq-true_iff, ◌&&◌}
use mathlib.Core.List.{List, [], ◌∷◌, ◌++◌}
use mathlib.Core.Option.{Option, none, some}
use native.Mathlib.Omega.{arith}
use lib.ListN.{length}
use lib.Dec.{eqb, leb, ltb}
use borrow.Author.Tests.{leb-true, ltb-true}
use Rattle.refusals.specs.Refusals.{refused_with}
use Rattle.words.specs.Words.{words}
use Rattle.words.specs.OneOf.{OneOf}
use Rattle.words.proofs.Laws.{length_words}
use Rattle.limits.specs.Limits.{size_ok}
use Rattle.files.specs.Refused.{RefusedBy}
use Rattle.files.specs.Spots.{Spot, spots_of}
use Rattle.places.proofs.Places.{spot_inside}
use Rattle.edits.specs.Edits.{insert, keep_if, around, down_to}
use Rattle.edits.specs.Allowed.{fine, fault, or_else, unless, gap_ok}
use Rattle.edits.specs.Calls.{Session, Call, mark_call, rename_call, insert_call, remove_call, undo_call, words_of, session_fault, open_fault, step}
use Rattle.edits.specs.Causes as causes
use Rattle.edits.specs.Causes.{EditCause, Outgrown, InsertCause}
use Rattle.edits.specs.Demand.{used_bytes}
use Rattle.edits.specs.Refusals.{own_numbers, PieceRefused, RefusedSo}
use Rattle.edits.proofs.Causes.{edit_refused, insert_refused, undo_refused}
use Rattle.edits.proofs.Faults.{or_else_fine, unless_fine}
use Rattle.edits.proofs.Numbers.{every_refusal, piece_place, call_number}
use Rattle.edits.proofs.Tested.{ready_tested, used_call}
use Rattle.totals.proofs.Paths.{gap_header}
use Rattle.opening.proofs.Beside.{bare_ready}
use Rattle.opening.proofs.Opening.{open_accepted}
use Rattle.answers.specs.Answers.{Small}
use Rattle.answers.proofs.Elements.{call_words}
use Rattle.answers.proofs.Refusals.{file_small}

-- a length that may be lent
size_most : (n : ℕ) → size_ok n ≡ true → n ≤ 1048576
size_most n e = leb-true n 1048576 ((and-eq-true_iff (eqb (n % 2) 0) (leb n 1048576)).0 e).1

by_place : (dim : ℕ) (s : List ℕ) (own : List ℕ) (n p : ℕ) → RefusedBy dim s own n p → p ≤ 524288
by_place dim s own n p (inl e) = (file_small dim s n p e).2
by_place dim s own n p (inr o) = let z = o.1 in omega arith

-- a session that does not open
session_place : (dim : ℕ) (s : Session) (n p : ℕ) → session_fault dim s ≡ fault n p → p ≤ 524288
session_place dim s n p e = go (every_refusal dim s undo_call n p ((undo_refused dim s n p).1 (causes.opening e)))
  where
    go : RefusedSo dim s undo_call n p → p ≤ 524288
    go (inl x) = by_place dim (used_bytes s) (own_numbers undo_call) n p x
    go (inr x) = absurd x

---- an insert

-- a header around a place is before it
around_before : (xs : List Spot) (h q : ℕ) → OneOf (around xs h) q → q < h
around_before [] h q o = absurd o
around_before (x ∷ xs) h q o = go (ltb x.place h && ltb h x.end) refl (around_before xs h q) o
  where
    go : (b : Bool) → (ltb x.place h && ltb h x.end) ≡ b → (OneOf (around xs h) q → q < h) → OneOf (keep_if b x.place (around xs h)) q → q < h
    go true t rest (inl e) = let l = ltb-true x.place h ((and-eq-true_iff (ltb x.place h) (ltb h x.end)).0 t).0 in omega arith
    go true t rest (inr o) = rest o
    go false t rest o = rest o

outgrown_one : (n : ℕ) (ws qs : List ℕ) (p : ℕ) → Outgrown n ws qs p → OneOf qs p
outgrown_one n ws [] p x = absurd x
outgrown_one n ws (q ∷ qs) p (inl x) = inl x.1
outgrown_one n ws (q ∷ qs) p (inr x) = inr (outgrown_one n ws qs p x.1)

one_before : (qs : List ℕ) (h q : ℕ) → ((r : ℕ) → OneOf qs r → r < h) → OneOf (qs ++ (h ∷ [])) q → q ≤ h
one_before [] h q l (inl e) = omega arith
one_before [] h q l (inr o) = absurd o
one_before (r ∷ qs) h q l (inl e) = let z = l r (inl refl) in omega arith
one_before (r ∷ qs) h q l (inr o) = one_before qs h q (λ a b. l a (inr b)) o

-- the headers down to one that a piece may go in under are in the file
down_place : (dim : ℕ) (s : Session) (h : Option ℕ) (at q : ℕ) → session_fault dim s ≡ fine → gap_ok (spots_of dim (words_of s)) (words_of s) h at ≡ true →
    OneOf (down_to (spots_of dim (words_of s)) h) q → q ≤ 524288
down_place dim s none at q ready g o = absurd o
down_place dim s (some h) at q ready g o =
    let xs = spots_of dim (words_of s) in
    let a = open_accepted dim s.file s.used s.journal s.jused (bare_ready dim s ready) in
    let x = (gap_header (spots_of dim (words_of s)) (words_of s) h at g).0 in
    let i = spot_inside dim (used_bytes s) a.elements a.deepest _ a.judged h x.0 x.1 in
    let l = one_before (around xs h) h q (around_before xs h) o in
    let most = call_words dim (used_bytes s) (used_call (ready_tested dim s ready)) in
    omega arith

module _ (dim : ℕ) (s : Session) (h : Option ℕ) (at : ℕ) (piece : List ℕ) (n p : ℕ) where
  own_place : open_fault dim s (insert_call h at piece) ≡ fine → InsertCause dim (words_of s) h at (words piece) n p → p ≤ 524288
  unfolding open_fault
  own_place o (causes.no_such g a b) = omega arith
  own_place o (causes.piece g k) =
      let lent = size_most (length piece) (unless_fine (size_ok (length piece)) 1 (or_else_fine (unless (size_ok (length piece)) 1) (session_fault dim s) o).0) in
      let x = piece_place dim (spots_of dim (words_of s)) (words_of s) h (words piece) n p k in
      let l = length_words piece in
      omega arith
  own_place o (causes.total g k u a) =
      down_place dim s h at p (or_else_fine (unless (size_ok (length piece)) 1) (session_fault dim s) o).1 g
      (outgrown_one (length (words piece)) (words_of s) (down_to (spots_of dim (words_of s)) h) p u)

  open_place : open_fault dim s (insert_call h at piece) ≡ fault n p → p ≤ 524288
  unfolding open_fault
  open_place = go (size_ok (length piece))
    where
      go : (b : Bool) → or_else (unless b 1) (session_fault dim s) ≡ fault n p → p ≤ 524288
      go true e = session_place dim s n p e
      go false e = let z : 0 ≡ p = cc in omega arith

  insert_place : EditCause dim s (insert_call h at piece) (insert h at (words piece)) n p → p ≤ 524288
  insert_place (causes.opening o) = open_place o
  insert_place (causes.own o k) = own_place o ((insert_refused dim (words_of s) h at (words piece) n p).0 k)
  insert_place (causes.file_room o k l a b) = omega arith
  insert_place (causes.index_room o k i a b) = omega arith
  insert_place (causes.journal_room o k l i m a b) = omega arith

---- every call

plain_place : (dim : ℕ) (s : Session) (c : Call) (n p : ℕ) → (PieceRefused dim (words_of s) c n p → ⊥) → (step dim s c).answer ≡ refused_with n p → p ≤ 524288
plain_place dim s c n p whole e = go (every_refusal dim s c n p e)
  where
    go : RefusedSo dim s c n p → p ≤ 524288
    go (inl x) = by_place dim (used_bytes s) (own_numbers c) n p x
    go (inr x) = absurd (whole x)

pub call_place : (dim : ℕ) (s : Session) (c : Call) (n p : ℕ) → (step dim s c).answer ≡ refused_with n p → p ≤ 524288
call_place dim s (mark_call q d) n p e = plain_place dim s (mark_call q d) n p (λ x. x) e
call_place dim s (rename_call q text) n p e = plain_place dim s (rename_call q text) n p (λ x. x) e
call_place dim s (insert_call h at piece) n p e =
    insert_place dim s h at piece n p ((edit_refused dim s (insert_call h at piece) (insert h at (words piece)) n p refl).0 e)
call_place dim s (remove_call q) n p e = plain_place dim s (remove_call q) n p (λ x. x) e
call_place dim s undo_call n p e = plain_place dim s undo_call n p (λ x. x) e

-- and its number is one of the table's
pub edit_small : (dim : ℕ) (s : Session) (c : Call) (n p : ℕ) → (step dim s c).answer ≡ refused_with n p → Small n p
edit_small dim s c n p e = let h = call_number dim s c n p e in (h.0, omega (arith, h.1), call_place dim s c n p e)
