-- No refusal of opening a session and no own refusal of an edit has the number 16.
use Prim.Native.Nat.{ℕ, ◌+◌, ◌-◌}
use mathlib.Core.Path.{◌≡◌, refl}
use mathlib.Core.Logic.{◌≢◌, inl, inr}
use mathlib.Core.Bool.{Bool, true, false, cond}
use mathlib.Core.List.{List, [], ◌∷◌}
use mathlib.Core.Option.{Option}
use native.Mathlib.Omega.{arith}
use lib.ListN.{length}
use lib.Dec.{eqb, leb}
use Rattle.words.specs.Words.{word_at}
use Rattle.kinds.specs.Kinds.{is_cell}
use Rattle.headers.specs.Header.{type_at, extent_at}
use Rattle.limits.specs.Limits.{call_ok}
use Rattle.files.specs.Judge.{top_of, judge_of}
use Rattle.files.specs.Spots.{Spot, spots_of}
use Rattle.grammar.specs.FirstFault.{ElementNumber, Refusal}
use Rattle.grammar.proofs.FirstFault.{refusal_place}
use Rattle.edits.specs.Edits.{mark, insert, remove, down_to}
use Rattle.edits.specs.Allowed.{Fault?, fine, fault, or_else, unless, starts_at, flag_differs, gap_ok, mark_fault, rename_fault, piece_fault, room_fault, insert_fault, remove_fault, edit_fault}
use Rattle.edits.specs.Calls.{Session, Call, piece_ok, words_of, session_ok, file_fault, session_fault, open_fault}
use Rattle.edits.specs.Demand.{used_bytes}
use Rattle.edits.proofs.Numbers.{piece_place}
use Rattle.edits.proofs.Tested.{tested, used_call}
use Rattle.std.specs.Prelude.{Err, Ok, Result}
use Rattle.files.specs.declared.Judgement.{Judgement}
use Rattle.refusals.specs.declared.Refusal.{Refusal as Refused}

abbrev pub Other : Fault? → Type 0
Other fine = Unit {0}
Other (fault n p) = n ≢ 16

unless_other : (b : Bool) (n : ℕ) → n ≢ 16 → Other (unless b n)
unless_other true n e = tt
unless_other false n e = e

or_other : (f g : Fault?) → Other f → Other g → Other (or_else f g)
or_other fine g a b = b
or_other (fault n p) g a b = a

---- opening

element_other : {n : ℕ} → ElementNumber n → n ≢ 16
element_other (inl x) = λ e. omega arith
element_other (inr (inl x)) = λ e. omega arith
element_other (inr (inr x)) = λ e. omega arith

refusal_other : {size n p : ℕ} → Refusal size n p → n ≢ 16
refusal_other (inl x) = λ e. omega arith
refusal_other (inr (inl x)) = λ e. omega arith
refusal_other (inr (inr x)) = element_other x.0

module _ (dim : ℕ) (s : Session) where
  file_other : call_ok dim (used_bytes s) ≡ true → (v : Result Judgement Refused) → top_of dim (words_of s) ≡ v → (last : ℕ) → Other (file_fault v last)
  unfolding judge_of
  file_other ok (Ok judged) t last = unless_other (eqb judged.next last) 1 (λ e. omega arith)
  file_other ok (Err refusal) t last = refusal_other (refusal_place dim (used_bytes s) refusal.number refusal.place (rw (ok, t) refl))

  session_other : Other (session_fault dim s)
  unfolding session_fault
  session_other = go (session_ok dim s) refl
    where
      go : (b : Bool) → session_ok dim s ≡ b → Other (or_else (unless b 1) (file_fault (top_of dim (words_of s)) (length (words_of s) - 1)))
      go true e = file_other (used_call (tested dim s e)) (top_of dim (words_of s)) refl (length (words_of s) - 1)
      go false e = λ e. omega arith

  pub open_other : (c : Call) → Other (open_fault dim s c)
  unfolding open_fault
  open_other c = or_other (unless (piece_ok c) 1) (session_fault dim s) (unless_other (piece_ok c) 1 (λ e. omega arith)) session_other

---- the own refusals of the edits

pub rename_other : (xs : List Spot) (ws : List ℕ) (p : ℕ) (named : Bool) → Other (rename_fault xs ws p named)
unfolding rename_fault
rename_other xs ws p named =
    or_other (unless (starts_at xs p) 13) (or_else (unless (is_cell (type_at ws p)) 18) (unless named 12)) (unless_other (starts_at xs p) 13 (λ e. omega arith))
    (or_other (unless (is_cell (type_at ws p)) 18) (unless named 12) (unless_other (is_cell (type_at ws p)) 18 (λ e. omega arith)) (unless_other named 12 (λ e. omega arith)))

room_other : (n : ℕ) (ws qs : List ℕ) → Other (room_fault n ws qs)
room_other n ws [] = tt
room_other n ws (q ∷ qs) = go (leb (extent_at ws q + n) 65535) (room_other n ws qs)
  where
    go : (b : Bool) → Other (room_fault n ws qs) → Other (cond b (room_fault n ws qs) (fault 8 q))
    go true r = r
    go false r = λ e. omega arith

module _ (dim : ℕ) (ws : List ℕ) where
  pub mark_other : (p : ℕ) (d : Bool) → Other (edit_fault dim ws (mark p d))
  unfolding edit_fault mark_fault
  mark_other p d =
      let there = starts_at (spots_of dim ws) p in
      let differs = flag_differs d (word_at ws p) in
      or_other (unless there 13) (unless differs 14) (unless_other there 13 (λ e. omega arith)) (unless_other differs 14 (λ e. omega arith))

  pub remove_other : (p : ℕ) → Other (edit_fault dim ws (remove p))
  unfolding edit_fault remove_fault
  remove_other p = unless_other (starts_at (spots_of dim ws) p) 13 (λ e. omega arith)

  piece_other : (h : Option ℕ) (x : List ℕ) (f : Fault?) → piece_fault dim (spots_of dim ws) ws h x ≡ f → Other f
  piece_other h x fine e = tt
  piece_other h x (fault n p) e = element_other (piece_place dim (spots_of dim ws) ws h x n p e).0

  pub insert_other : (h : Option ℕ) (p : ℕ) (x : List ℕ) → Other (edit_fault dim ws (insert h p x))
  unfolding edit_fault insert_fault
  insert_other h p x =
      let xs = spots_of dim ws in
      let own = piece_fault dim (spots_of dim ws) ws h x in
      let grown = room_fault (length x) ws (down_to (spots_of dim ws) h) in
      or_other (unless (gap_ok xs ws h p) 13) (or_else own grown) (unless_other (gap_ok xs ws h p) 13 (λ e. omega arith))
      (or_other own grown (piece_other h x own refl) (room_other (length x) ws (down_to xs h)))
