-- A call of the C interface leaves all as it was, or is one of the library's calls and is made: so demand 3 holds of its calls.
use Prim.Native.Nat.{ℕ, ◌+◌, ◌*◌, ◌≤◌}
use mathlib.Core.Path.{◌≡◌, refl, sym, subst, ap, ◌∙◌}
use mathlib.Core.Logic.{◌≢◌}
use mathlib.Core.Bool.{Bool, true, false, not, cond}
use mathlib.Core.List.{List, [], ◌∷◌}
use mathlib.Core.Option.{Option, none as bare, some}
use native.Mathlib.Omega.{arith}
use lib.ListN.{length, get_or}
use lib.Dec.{eqb, leb}
use borrow.Author.Tests.{leb-true, eq-eqb, ne_eqb}
use Rattle.std.specs.Prelude.{Err, Ok, Result}
use Rattle.refusals.specs.Refusals.{refused_with}
use Rattle.refusals.specs.declared.Refusal.{Refusal}
use Rattle.refusals.proofs.Laws.{number_is, refused_not_given}
use Rattle.edits.specs.Calls.{Index, Session, Call, mark_call, Outcome, refused, step}
use Rattle.edits.specs.Book.{Run, noted, was_refused}
use Rattle.edits.specs.Demand.{PiecesBytes, run_of, Demand3}
use Rattle.edits.proofs.Refusals.{refusal_keeps}
use Rattle.edits.proofs.Numbers.{call_number}
use Rattle.edits.proofs.Every.{demand_three}
use Rattle.edits.specs.UsedLengths.{made_with}
use Rattle.edits.specs.declared.UsedLengths.{UsedLengths}
use Rattle.opening.specs.Steps.{SteppedAll}
use Rattle.sessions.specs.Runs as calls
use Rattle.sessions.specs.Runs.{leaves}
use Rattle.sessions.proofs.Runs.{called_run}
use Rattle.answers.specs.Answers.{returned, slice_left}
use Rattle.answers.proofs.Besides.{front_at}
use Rattle.edit_answers.specs.Editing.{iused_of, buffer_of, lengths_of, edit_reply, Left, MarkLeftAll}
use Rattle.edit_answers.proofs.Results.{as_many}
use Rattle.dgn_sessions.specs.Exports as exports
use Rattle.dgn_sessions.specs.Exports.{Export, dgn_mark, dgn_rename, dgn_insert, dgn_remove, dgn_undo, call_of, calls_of, Answers, index_in, lends, after, Called, EveryExport, Holds, KeptInOut, in_slice, CalledInSlice, EveryInSlice}

-- a call that is made returns 0, and the slice then gives the used lengths, with an index x its too
record Given (used jused : ℕ) (x : Option Index) (n : ℕ) (t : List ℕ) : Type 0 where
  pub zero : n ≡ 0
  pub used_is : get_or t 0 0 ≡ used
  pub jused_is : get_or t 1 0 ≡ jused
  pub index_is : index_in (buffer_of x) (some (get_or t 2 0)) ≡ x

given : (used jused : ℕ) (x : Option Index) (out : List ℕ) (n : ℕ) (t : List ℕ) → lengths_of x ≤ length out →
    n ≡ returned (edit_reply (made_with used jused) (iused_of x)) → t ≡ slice_left (edit_reply (made_with used jused) (iused_of x)) out → Given used jused x n t
given used jused bare out n t room is held = record {
  zero = is;
  used_is = rw held (front_at (used ∷ jused ∷ []) out 0 0 (omega arith) room);
  jused_is = rw held (front_at (used ∷ jused ∷ []) out 1 0 (omega arith) room);
  index_is = refl;
}
given used jused (some i) out n t room is held = record {
  zero = is;
  used_is = rw held (front_at (used ∷ jused ∷ i.iused ∷ []) out 0 0 (omega arith) room);
  jused_is = rw held (front_at (used ∷ jused ∷ i.iused ∷ []) out 1 0 (omega arith) room);
  index_is = ap (λ k. some (record { buffer = i.buffer; iused = k })) (rw held (front_at (used ∷ jused ∷ i.iused ∷ []) out 2 0 (omega arith) room));
}

-- what a call comes to, by the step q of the library's
data Ending (q : Outcome) (s : Session) (out : List ℕ) (n : ℕ) (file journal : List ℕ) (index : Option (List ℕ)) (t : List ℕ) : Type 0 where
  nothing : n ≢ 0 → file ≡ s.file → journal ≡ s.journal → index ≡ buffer_of s.index → t ≡ out → Ending q s out n file journal index t
  made : (used jused : ℕ) → made_with used jused ≡ q.answer → file ≡ q.after.file → journal ≡ q.after.journal → index ≡ buffer_of q.after.index →
      Given used jused q.after.index n t → Ending q s out n file journal index t

module _ (s : Session) (out : List ℕ) (n : ℕ) (file journal : List ℕ) (index : Option (List ℕ)) (t : List ℕ) where
  -- an outcome with a refusal's number above 0, that leaves the session where it is refused, and has as many used lengths after it
  outcome : (q : Outcome) → ((k p : ℕ) → q.answer ≡ refused_with k p → (1 ≤ k) × (q.after ≡ s)) → lengths_of q.after.index ≡ lengths_of s.index →
      Left q s out n file journal index t → Ending q s out n file journal index t
  outcome q keeps many l = go (leb (lengths_of s.index) (length out)) refl q.answer refl
    where
      go : (b : Bool) → leb (lengths_of s.index) (length out) ≡ b → (a : Result UsedLengths Refusal) → q.answer ≡ a → Ending q s out n file journal index t
      go false e a k =
          let is : n ≡ 1 = rw e at l.answer.is in
          nothing (λ z. omega arith) (rw e at l.file_is) (rw e at l.journal_is) (rw e at l.index_is) (rw e at l.answer.out)
      go true e (Ok lengths) k =
          let room = leb-true (lengths_of s.index) (length out) e in
          made lengths.used lengths.jused (sym k) (rw e at l.file_is) (rw e at l.journal_is) (rw e at l.index_is)
          (given lengths.used lengths.jused q.after.index out n t (omega arith) (rw (e, k) at l.answer.is) (rw (e, k) at l.answer.out))
      go true e (Err refusal) k =
          let is : n ≡ refusal.number + 256 * refusal.place = rw (e, k) at l.answer.is in
          let x = keeps refusal.number refusal.place k in
          let low = x.0 in
          nothing (λ z. omega arith)
          ((rw e at l.file_is) ∙ ap (λ r. r.file) x.1) ((rw e at l.journal_is) ∙ ap (λ r. r.journal) x.1)
          ((rw e at l.index_is) ∙ ap (λ r. buffer_of r.index) x.1) (rw (e, k) at l.answer.out)

  step_outcome : (d : ℕ) (c : Call) → Left (step d s c) s out n file journal index t → Ending (step d s c) s out n file journal index t
  step_outcome d c l = outcome (step d s c) (λ k p e. ((call_number d s c k p e).0, refusal_keeps d s c (ap was_refused e))) (as_many d s c) l

  -- a flag that is neither 0 nor 1
  no_flag : (q : Outcome) → Ending (refused s 1 0) s out n file journal index t → Ending q s out n file journal index t
  no_flag q (nothing a b c d e) = nothing a b c d e
  no_flag q (made u j e a b c d) = absurd (refused_not_given e)

  mark_outcome : (d place deleted : ℕ) → MarkLeftAll d s place deleted out n file journal index t → Ending (step d s (mark_call place (eqb deleted 1))) s out n file journal index t
  mark_outcome d place deleted = go (leb deleted 1)
    where
      go : (b : Bool) → Left (cond b (step d s (mark_call place (eqb deleted 1))) (refused s 1 0)) s out n file journal index t →
          Ending (step d s (mark_call place (eqb deleted 1))) s out n file journal index t
      go true l = step_outcome d (mark_call place (eqb deleted 1)) l
      go false l = no_flag _ (outcome (refused s 1 0) (λ k p e. (let z : 1 ≡ k = number_is e in omega arith, refl)) refl l)

  answer_outcome : (d : ℕ) (x : Export) → Answers d s x out n file journal index t → Ending (step d s (call_of x)) s out n file journal index t
  answer_outcome d (dgn_mark place deleted) l = mark_outcome d place deleted l
  answer_outcome d (dgn_rename place text) l = step_outcome d (call_of (dgn_rename place text)) l
  answer_outcome d (dgn_insert header place piece) l = step_outcome d (call_of (dgn_insert header place piece)) l
  answer_outcome d (dgn_remove place) l = step_outcome d (call_of (dgn_remove place)) l
  answer_outcome d dgn_undo l = step_outcome d (call_of dgn_undo) l

---- the calls that are made, as calls of the library

record Ran (dim : ℕ) (r last : Run) (xs : List Export) : Type 0 where
  pub made : List Call
  pub pieces : PiecesBytes (calls_of xs) → PiecesBytes made
  pub called : calls.Called dim r made last

-- an index is its buffer and its used length
index_whole : (x : Option Index) → index_in (buffer_of x) (iused_of x) ≡ x
index_whole bare = refl
index_whole (some i) = refl

module _ (dim d : ℕ) (r last : Run) (x : Export) (xs : List Export) (out : List ℕ) (n : ℕ) (file journal : List ℕ) (index : Option (List ℕ)) (t : List ℕ) (same : n ≡ 0 → d ≡ dim) where
  stays : n ≢ 0 → file ≡ r.session.file → journal ≡ r.session.journal → index ≡ buffer_of r.session.index → after r x n file journal index t ≡ r
  stays h f j k = rw (ne_eqb n 0 h, f, j, k, index_whole r.session.index) refl

  goes : (used jused : ℕ) (i : Option Index) → index ≡ buffer_of i → Given used jused i n t →
      ◌≡◌ {A = Run} (after r x n file journal index t)
      (record { session = leaves (made_with used jused) r.session file journal i; book = noted r.book (call_of x) false })
  goes used jused i k g = rw (eq-eqb n 0 g.zero, k, g.index_is, g.used_is, g.jused_is) refl

  ran_next : Ending (step d r.session (call_of x)) r.session out n file journal index t → Ran dim (after r x n file journal index t) last xs → Ran dim r last (x ∷ xs)
  ran_next (nothing h f j k e) a = record {
    made = a.made;
    pieces = λ p. a.pieces p.1;
    called = subst (λ q. calls.Called dim q a.made last) (stays h f j k) a.called;
  }
  ran_next (made used jused e f j k g) a =
      let i = (step d r.session (call_of x)).after.index in
      record {
        made = call_of x ∷ a.made;
        pieces = λ p. (p.0, a.pieces p.1);
        called =
            calls.next r (call_of x) a.made (made_with used jused) file journal i last
            (subst (λ k. SteppedAll k r.session (call_of x) (made_with used jused) file journal i) (same g.zero)
            (record { buffers = record { answer = e; file_is = f; journal_is = j }; index_is = refl }))
            (subst (λ q. calls.Called dim q a.made last) (goes used jused i k g) a.called);
      }

called_ran : (dim : ℕ) (r last : Run) (xs : List Export) → Called dim r xs last → Ran dim r last xs
called_ran dim r last [] (exports.none _) = record { made = []; pieces = λ p. p; called = calls.none r }
called_ran dim r last (x ∷ xs) (exports.next _ _ _ d out n file journal index t _ a same rest) =
    ran_next dim d r last x xs out n file journal index t same (answer_outcome r.session out n file journal index t d x a) (called_ran dim (after r x n file journal index t) last xs rest)

-- so what holds of every run of steps holds of the functions' calls
pub export_run : (P : Run → Type 0) (dim : ℕ) (s : Session) → ((cs : List Call) → PiecesBytes cs → P (run_of dim s cs)) → (xs : List Export) (last : Run) → PiecesBytes (calls_of xs) →
    Called dim (record { session = s; book = [] }) xs last → P last
export_run P dim s every xs last pieces called =
    let a = called_ran dim (record { session = s; book = [] }) last xs called in
    called_run P dim s every a.made last (a.pieces pieces) a.called

pub every_export : EveryExport
every_export dim s xs last opened pieces called = export_run (Demand3 dim s) dim s (λ cs p. demand_three dim s cs opened p) xs last pieces called

---- the used lengths in the slice

-- the used length of an index that is made of a slice's third number, and the other way
third : (b : Option (List ℕ)) (m : ℕ) (i : Index) → index_in b (some m) ≡ some i → m ≡ i.iused
third bare m i e = let z : ◌≡◌ {A = ℕ} 0 1 = cc in absurd (omega arith)
third (some b) m i e = let same : ◌≡◌ {A = Index} (record { buffer = b; iused = m }) i = cc in ap (λ k. k.iused) same

held : (x : Option Index) (m : ℕ) → ((i : Index) → x ≡ some i → m ≡ i.iused) → index_in (buffer_of x) (some m) ≡ x
held bare m h = refl
held (some i) m h = rw (h i refl) refl

module _ (s : Session) (q : Outcome) (out : List ℕ) (n : ℕ) (file journal : List ℕ) (index : Option (List ℕ)) (t : List ℕ) (h : Holds out s) where
  kept : Ending q s out n file journal index t → Holds t (lends n t s file journal index)
  kept (nothing z f j k e) =
      rw (ne_eqb n 0 z, e, k, index_whole s.index) (record { used = h.used; jused = h.jused; iused = h.iused })
  kept (made used jused e f j k g) = rw (eq-eqb n 0 g.zero) (record { used = refl; jused = refl; iused = λ i a. third index (get_or t 2 0) i a })

  -- so a call that keeps them there is lent the same
  in_slice_lem : Ending q s out n file journal index t → in_slice t file journal index ≡ lends n t s file journal index
  in_slice_lem (nothing z f j k e) = rw (ne_eqb n 0 z, e, k, index_whole s.index, held s.index (get_or out 2 0) h.iused, h.used, h.jused) refl
  in_slice_lem (made used jused e f j k g) = rw (eq-eqb n 0 g.zero) refl

pub kept_in_out : KeptInOut
kept_in_out dim s x out n file journal index t a h =
    kept s (step dim s (call_of x)) out n file journal index t h (answer_outcome s out n file journal index t dim x a)

slice_called : (dim : ℕ) {r : Run} {out : List ℕ} {xs : List Export} {last : Run} → Holds out r.session → CalledInSlice dim r out xs last → Called dim r xs last
slice_called dim h (exports.CalledInSlice.none r out) = exports.Called.none r
slice_called dim h (exports.CalledInSlice.next r out x xs d n file journal index t last a same rest) =
    let o = answer_outcome r.session out n file journal index t d x a in
    let q = step d r.session (call_of x) in
    let k = kept r.session q out n file journal index t h o in
    let e = in_slice_lem r.session q out n file journal index t h o in
    exports.Called.next r x xs d out n file journal index t last a same
    (subst (λ s. Called dim (record { session = s; book = noted r.book (call_of x) (not (eqb n 0)) }) xs last) e (slice_called dim (subst (Holds t) (sym e) k) rest))

pub every_in_slice : EveryInSlice
every_in_slice dim s out xs last opened pieces h called = every_export dim s xs last opened pieces (slice_called dim h called)
