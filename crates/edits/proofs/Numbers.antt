-- Every refusal of a call of a session is the file's own, one of the call's numbers at place 0, or of an insert the piece's
-- own or 8 at a header of the path; so its number is one of the table's.
use Prim.Native.Nat.{ℕ, ◌+◌, ◌-◌, ◌*◌, ◌≤◌, ◌<◌, max}
use mathlib.Core.Path.{◌≡◌, refl, subst, subst₂}
use mathlib.Core.Logic.{inl, inr}
use mathlib.Core.Bool.{Bool, true, false, cond, not, ◌&&◌, ◌||◌, false≢true, and-eq-true_iff}
use mathlib.Core.List.{List, [], ◌∷◌}
use mathlib.Core.Option.{Option, none, some}
use native.Mathlib.Omega.{arith}
use lib.ListN.{length, length-append}
use lib.Dec.{eqb, leb}
use borrow.Author.Tests.{eqb-true, eqb-false, le-leb, leb-true}
use Rattle.std.specs.Prelude.{Err, Ok, Result}
use Rattle.refusals.specs.Refusals.{refused_with}
use Rattle.refusals.proofs.Laws.{number_is, place_is}
use Rattle.refusals.specs.declared.Refusal.{Refusal}
use Rattle.words.specs.Words.{words, word_at}
use Rattle.names.specs.Names.{packed}
use Rattle.headers.specs.Header.{extent_at, type_at}
use Rattle.kinds.specs.Kinds.{is_cell}
use Rattle.limits.specs.Limits.{call_ok}
use Rattle.files.specs.Judge.{element_of, top_of, judge_of}
use Rattle.words.specs.OneOf.{OneOf}
use Rattle.files.specs.Spots.{spots_of}
use Rattle.files.specs.declared.Judgement.{Judgement}
use Rattle.grammar.proofs.Numbers.{refusal_number}
use Rattle.grammar.specs.FirstFault.{ElementNumber}
use Rattle.grammar.proofs.FirstFault.{number_within, element_refusal}
use Rattle.grammar.proofs.Forest.{flat}
use Rattle.grammar.proofs.Sound.{element_sound}
use Rattle.grammar.proofs.Stands.{stands_fit}
use Rattle.edits.specs.Edits.{Edit, mark, insert, remove, apply, down_to}
use Rattle.edits.specs.Allowed.{Fault?, fine, fault, or_else, unless, starts_at, flag_differs, mark_fault, rename_fault, gap_ok, depth_under, type_under, whole_by, piece_fault, room_fault, insert_fault, remove_fault, edit_fault}
use Rattle.edits.specs.Records.{Newest, last_record, reversal, reversible}
use Rattle.edits.specs.Calls.{Session, size_of, Call, mark_call, rename_call, insert_call, remove_call, undo_call, words_of, journal_of, session_ok, piece_ok, file_fault, session_fault, open_fault}
use Rattle.edits.specs.Calls.{Outcome, refused, result_by, words_by, record_by, edit_made, room_for, edit_within, edited, undo_made, reversal_fault, undo_by, undone, name_of_text, text_ok, call_on, step}
use Rattle.edits.specs.Demand.{used_bytes}
use Rattle.edits.specs.Refusals.{own_numbers, PieceRefused, RefusedSo, EveryRefusal, PiecePlace}
use Rattle.edits.proofs.Tested.{tested, used_call}

---- one of a list, by a test

abbrev is_one_of : List ℕ → ℕ → Bool
is_one_of [] n = false
is_one_of (m ∷ ms) n = eqb n m || is_one_of ms n

one_of : (ms : List ℕ) (n : ℕ) → is_one_of ms n ≡ true → OneOf ms n
one_of [] n e = absurd (false≢true e)
one_of (m ∷ ms) n e = go (eqb n m) refl (one_of ms n) e
  where
    go : (b : Bool) → eqb n m ≡ b → (is_one_of ms n ≡ true → OneOf ms n) → (b || is_one_of ms n) ≡ true → OneOf (m ∷ ms) n
    go true q rest e = inl (eqb-true n m q)
    go false q rest e = inr (rest e)

---- refusals of a call c

abbrev So : ℕ → Session → Call → Fault? → Type 0
So dim s c fine = Unit {0}
So dim s c (fault n p) = RefusedSo dim s c n p

abbrev Answered : ℕ → Session → Call → Outcome → Type 0
Answered dim s c r = (n p : ℕ) → r.answer ≡ refused_with n p → RefusedSo dim s c n p

module _ (dim : ℕ) (s : Session) (c : Call) where
  own : (n : ℕ) → is_one_of (own_numbers c) n ≡ true → RefusedSo dim s c n 0
  own n e = inl (inr (one_of (own_numbers c) n e, refl))

  or_so : (f g : Fault?) → So dim s c f → So dim s c g → So dim s c (or_else f g)
  or_so fine g h k = k
  or_so (fault n p) g h k = h

  unless_so : (b : Bool) (n : ℕ) → is_one_of (own_numbers c) n ≡ true → So dim s c (unless b n)
  unless_so true n e = tt
  unless_so false n e = own n e

  answer_so : (n p : ℕ) → RefusedSo dim s c n p → Answered dim s c (refused s n p)
  answer_so n p h m q e = subst₂ (RefusedSo dim s c) (number_is e) (place_is e) h

  by_so : (f : Fault?) (r : Outcome) → So dim s c f → Answered dim s c r → Answered dim s c (result_by f s r)
  by_so fine r h k = k
  by_so (fault n p) r h k = answer_so n p h

  ---- 1 and the file's own

  first : is_one_of (own_numbers c) 1 ≡ true
  first = elim c as (λ k. is_one_of (own_numbers k) 1 ≡ true) [ mark_call p d ↦ refl | rename_call p t ↦ refl | insert_call h p x ↦ refl | remove_call p ↦ refl | undo_call ↦ refl ]

  file_so : call_ok dim (used_bytes s) ≡ true → (v : Result Judgement Refusal) → top_of dim (words_of s) ≡ v → (last : ℕ) → So dim s c (file_fault v last)
  unfolding judge_of
  file_so ok (Ok judged) t last = unless_so (eqb judged.next last) 1 first
  file_so ok (Err refusal) t last = inl (inl (rw (ok, t) refl))

  session_so : So dim s c (session_fault dim s)
  unfolding session_fault
  session_so = go (session_ok dim s) refl
    where
      go : (b : Bool) → session_ok dim s ≡ b → So dim s c (or_else (unless b 1) (file_fault (top_of dim (words_of s)) (length (words_of s) - 1)))
      go true e = file_so (used_call (tested dim s e)) (top_of dim (words_of s)) refl (length (words_of s) - 1)
      go false e = own 1 first

  open_so : So dim s c (open_fault dim s c)
  unfolding open_fault
  open_so = or_so (unless (piece_ok c) 1) (session_fault dim s) (unless_so (piece_ok c) 1 first) session_so

  ---- an edit: its own refusals, 15, 16

  made_so : (e : Edit) (f : Fault?) → So dim s c f → is_one_of (own_numbers c) 15 ≡ true → is_one_of (own_numbers c) 16 ≡ true → Answered dim s c (edited dim s e f)
  unfolding edited edit_made edit_within
  made_so e f h room full =
      let w = words_by dim s e in
      let r = record_by dim s e in
      let fits = room_for dim (length s.file) (size_of s.index) w in
      by_so (or_else f (edit_within dim s w r)) (edit_made dim s w r)
      (or_so f (edit_within dim s w r) h
      (or_so (unless fits 15) (unless (leb (s.jused + 2 * length r) (length s.journal)) 16)
      (unless_so fits 15 room) (unless_so (leb (s.jused + 2 * length r) (length s.journal)) 16 full)))
      (λ n p q. let z : ◌≡◌ {A = ℕ} 0 1 = cc in absurd (omega arith))

---- the own refusals of each edit

module _ (dim : ℕ) (s : Session) where
  mark_so : (p : ℕ) (d : Bool) → So dim s (mark_call p d) (edit_fault dim (words_of s) (mark p d))
  unfolding edit_fault mark_fault
  mark_so p d =
      let c = mark_call p d in
      let there = starts_at (spots_of dim (words_of s)) p in
      let differs = flag_differs d (word_at (words_of s) p) in
      or_so dim s c (unless there 13) (unless differs 14) (unless_so dim s c there 13 refl) (unless_so dim s c differs 14 refl)

  rename_so : (p : ℕ) (text : List ℕ) (named : Bool) → So dim s (rename_call p text) (rename_fault (spots_of dim (words_of s)) (words_of s) p named)
  unfolding rename_fault
  rename_so p text named =
      let c = rename_call p text in
      let there = starts_at (spots_of dim (words_of s)) p in
      let cell = is_cell (type_at (words_of s) p) in
      or_so dim s c (unless there 13) (or_else (unless cell 18) (unless named 12)) (unless_so dim s c there 13 refl)
      (or_so dim s c (unless cell 18) (unless named 12) (unless_so dim s c cell 18 refl) (unless_so dim s c named 12 refl))

  remove_so : (p : ℕ) → So dim s (remove_call p) (edit_fault dim (words_of s) (remove p))
  unfolding edit_fault remove_fault
  remove_so p = unless_so dim s (remove_call p) (starts_at (spots_of dim (words_of s)) p) 13 refl

  module _ (h : Option ℕ) (p : ℕ) (piece : List ℕ) where
    piece_so : (f : Fault?) → piece_fault dim (spots_of dim (words_of s)) (words_of s) h (words piece) ≡ f → So dim s (insert_call h p piece) f
    piece_so fine e = tt
    piece_so (fault n q) e = inr (inl e)

    -- 8 is at one of the headers
    grown_so : (n : ℕ) (qs : List ℕ) → ((q : ℕ) → OneOf qs q → OneOf (down_to (spots_of dim (words_of s)) h) q) → So dim s (insert_call h p piece) (room_fault n (words_of s) qs)
    grown_so n [] on = tt
    grown_so n (q ∷ qs) on = go (leb (extent_at (words_of s) q + n) 65535) (grown_so n qs (λ r m. on r (inr m)))
      where
        go : (b : Bool) → So dim s (insert_call h p piece) (room_fault n (words_of s) qs) → So dim s (insert_call h p piece) (cond b (room_fault n (words_of s) qs) (fault 8 q))
        go true k = k
        go false k = inr (inr (refl, on q (inl refl)))

    insert_so : So dim s (insert_call h p piece) (edit_fault dim (words_of s) (insert h p (words piece)))
    unfolding edit_fault insert_fault
    insert_so =
        let c = insert_call h p piece in
        let ws = words_of s in
        let xs = spots_of dim (words_of s) in
        let x = words piece in
        let own_piece = piece_fault dim (spots_of dim (words_of s)) (words_of s) h (words piece) in
        let grown = room_fault (length (words piece)) (words_of s) (down_to (spots_of dim (words_of s)) h) in
        or_so dim s c (unless (gap_ok xs ws h p) 13) (or_else own_piece grown) (unless_so dim s c (gap_ok xs ws h p) 13 refl)
        (or_so dim s c own_piece grown (piece_so own_piece refl) (grown_so (length x) (down_to xs h) (λ q m. m)))

---- every call

undo_so : (dim : ℕ) (s : Session) (ws : List ℕ) (l : Newest) → Answered dim s undo_call (undo_by dim s ws l)
unfolding undo_made
undo_so dim s ws none = answer_so dim s undo_call 19 0 (own dim s undo_call 19 refl)
undo_so dim s ws (some l) =
    let c = undo_call in
    let back = apply dim ws (reversal ws l.0) in
    let fits = room_for dim (length s.file) (size_of s.index) back in
    let may = reversible dim ws l.0 in
    by_so dim s c (reversal_fault dim ws (length s.file) (size_of s.index) l.0) (undo_made dim s back (2 * length l.1))
    (or_so dim s c (unless may 19) (unless fits 15) (unless_so dim s c may 19 refl) (unless_so dim s c fits 15 refl))
    (λ n p q. let z : ◌≡◌ {A = ℕ} 0 1 = cc in absurd (omega arith))

call_so : (dim : ℕ) (s : Session) (c : Call) → Answered dim s c (call_on dim s (words_of s) c)
unfolding undone
call_so dim s (mark_call p d) =
    let c = mark_call p d in
    made_so dim s c (mark p d) (edit_fault dim (words_of s) (mark p d)) (mark_so dim s p d) refl refl
call_so dim s (rename_call p text) =
    let c = rename_call p text in
    made_so dim s c (name_of_text (packed text) p) (rename_fault (spots_of dim (words_of s)) (words_of s) p (text_ok (packed text))) (rename_so dim s p text (text_ok (packed text))) refl refl
call_so dim s (insert_call h p piece) =
    let c = insert_call h p piece in
    let x = words piece in
    made_so dim s c (insert h p x) (edit_fault dim (words_of s) (insert h p x)) (insert_so dim s h p piece) refl refl
call_so dim s (remove_call p) =
    let c = remove_call p in
    made_so dim s c (remove p) (edit_fault dim (words_of s) (remove p)) (remove_so dim s p) refl refl
call_so dim s undo_call =
    let empty = not (eqb s.jused 0) in
    by_so dim s undo_call (unless empty 17) (undo_by dim s (words_of s) (last_record (journal_of s))) (unless_so dim s undo_call empty 17 refl) (undo_so dim s (words_of s) (last_record (journal_of s)))

pub every_refusal : EveryRefusal
unfolding step
every_refusal dim s c = by_so dim s c (open_fault dim s c) (call_on dim s (words_of s) c) (open_so dim s c) (call_so dim s c)

---- so the number is one of the table's

abbrev in_table : List ℕ → Bool
in_table [] = true
in_table (m ∷ ms) = (leb 1 m && leb m 21) && in_table ms

table_number : (ms : List ℕ) (n : ℕ) → in_table ms ≡ true → OneOf ms n → (1 ≤ n) × (n ≤ 21)
table_number [] n t o = absurd o
table_number (m ∷ ms) n t (inl e) =
    let p = (and-eq-true_iff (leb 1 m) (leb m 21)).0 ((and-eq-true_iff (leb 1 m && leb m 21) (in_table ms)).0 t).0 in
    let low = leb-true 1 m p.0 in
    let high = leb-true m 21 p.1 in
    (omega arith, omega arith)
table_number (m ∷ ms) n t (inr o) = table_number ms n ((and-eq-true_iff (leb 1 m && leb m 21) (in_table ms)).0 t).1 o

own_table : (c : Call) → in_table (own_numbers c) ≡ true
own_table (mark_call p d) = refl
own_table (rename_call p text) = refl
own_table (insert_call h p piece) = refl
own_table (remove_call p) = refl
own_table undo_call = refl

---- the number and the place of the piece's own

pub piece_place : PiecePlace
unfolding piece_fault element_of
piece_place dim xs ws h x n p = judged (element_of dim (depth_under xs h) (type_under ws h) x 0 (length x)) refl
  where
    -- words left over: 3 at the first of them
    whole : (next : ℕ) → next ≤ length x → (b : Bool) → eqb next (length x) ≡ b → cond b fine (fault 3 next) ≡ fault n p → ElementNumber n × (p < max (length x) 1)
    whole next l true t q = let z : ◌≡◌ {A = ℕ} 0 1 = cc in absurd (omega arith)
    whole next l false t q =
        let number : 3 ≡ n = cc in
        let place : next ≡ p = cc in
        let other = eqb-false next (length x) t in
        (inl (omega arith), omega arith)

    judged : (v : Result Judgement Refusal) → element_of dim (depth_under xs h) (type_under ws h) x 0 (length x) ≡ v → whole_by v (length x) ≡ fault n p → ElementNumber n × (p < max (length x) 1)
    judged (Ok one) t q =
        let r = element_sound dim x (2 * (length x - 0) + 1) (depth_under xs h) (type_under ws h) 0 (length x) one.next one.elements one.deepest one.direct (omega arith) (omega arith) t in
        let l = stands_fit r.stands (omega arith) in
        let long = length-append r.own (flat r.components) in
        let last = r.last in
        whole one.next (omega arith) (eqb one.next (length x)) refl q
    judged (Err refusal) t q =
        let number : refusal.number ≡ n = cc in
        let place : refusal.place ≡ p = cc in
        let f = element_refusal dim x (depth_under xs h) (type_under ws h) 0 (length x) (omega arith) (omega arith) refusal.number refusal.place t in
        (subst ElementNumber number f.0, omega arith)

piece_number : (dim : ℕ) (ws : List ℕ) (c : Call) (n p : ℕ) → PieceRefused dim ws c n p → (1 ≤ n) × (n ≤ 21)
piece_number dim ws (mark_call p d) n q x = absurd x
piece_number dim ws (rename_call p text) n q x = absurd x
piece_number dim ws (insert_call h p piece) n q (inl e) = let x = number_within (piece_place dim (spots_of dim ws) ws h (words piece) n q e).0 in (omega arith, omega arith)
piece_number dim ws (insert_call h p piece) n q (inr x) = let z = x.0 in (omega arith, omega arith)
piece_number dim ws (remove_call p) n q x = absurd x
piece_number dim ws undo_call n q x = absurd x

pub call_number : (dim : ℕ) (s : Session) (c : Call) (n p : ℕ) → (step dim s c).answer ≡ refused_with n p → (1 ≤ n) × (n ≤ 21)
call_number dim s c n p e = go (every_refusal dim s c n p e)
  where
    go : RefusedSo dim s c n p → (1 ≤ n) × (n ≤ 21)
    go (inl (inl j)) = let x = refusal_number dim (used_bytes s) n p j in (omega arith, omega arith)
    go (inl (inr o)) = table_number (own_numbers c) n (own_table c) o.0
    go (inr x) = piece_number dim (words_of s) c n p x
