-- A step that is made, of an edit or an undo: the words after it are an accepted file's, they are stored in the file's buffer, and a
-- lent index is the one of them built afresh, which fits.
use Prim.Native.Nat.{ℕ, ◌+◌, ◌-◌, ◌*◌, ◌≤◌}
use mathlib.Core.Path.{◌≡◌, refl, sym, ap, ◌∙◌, subst}
use mathlib.Core.Bool.{Bool, true, false, not, ◌&&◌, and-eq-true_iff}
use mathlib.Core.List.{List}
use mathlib.Core.Option.{Option, none, some}
use native.Mathlib.Omega.{arith}
use lib.ListN.{length, take, drop}
use lib.Dec.{eqb, leb}
use borrow.Author.Tests.{leb-true}
use Rattle.words.specs.Words.{words, word_at, long_at, Below}
use Rattle.words.proofs.Laws.{words_below}
use Rattle.names.specs.Names.{packed}
use Rattle.names.proofs.OneToOne.{pack_stored}
use Rattle.files.specs.Spots.{spots_of}
use Rattle.edits.specs.Edits.{Edit, mark, insert, remove, apply}
use Rattle.edits.specs.Allowed.{Fault?, fine, fault, or_else, unless, rename_fault, edit_fault}
use Rattle.edits.specs.Records.{Rec, flag, renamed, inserted, removed, Newest, Kind, flags, renames, inserts, removes, no_kind, keep, build, formed, kind_of, place_of, last_record, reversal, reversible}
use Rattle.edits.specs.Calls.{Session, size_of, index_fits, afresh, room_for, Call, mark_call, rename_call, insert_call, remove_call, undo_call, words_of, journal_of, session_fault, open_fault, piece_ok}
use Rattle.edits.specs.Calls.{stored, Outcome, result_by, words_by, record_by, edit_made, edit_within, edited, undo_made, words_back, reversal_fault, undo_by, undone, name_of_text, text_ok, call_on, step}
use Rattle.edits.specs.Demand.{PieceBytes}
use Rattle.edits.proofs.Accepted.{Accepted, Carried}
use Rattle.edits.proofs.Bounds.{below_take, below_drop}
use Rattle.edits.proofs.Faults.{or_else_fine, unless_fine}
use Rattle.edits.proofs.Refusals.{not_named}
use Rattle.edits.proofs.Sound.{sound}
use Rattle.edits.proofs.Tested.{ready_tested, used_parts, used_twice}
use Rattle.cell_edits.proofs.After.{reversal_fine}
use Rattle.opening.proofs.Accepted.{standing}
use Rattle.opening.proofs.Beside.{bare_ready}
use Rattle.opening.proofs.Opening.{lengths_true, open_accepted}
use Rattle.std.specs.Prelude.{Err, Ok, Result}
use Rattle.edits.specs.UsedLengths.{made_with}
use Rattle.refusals.proofs.Laws.{given_is}
use Rattle.names.specs.declared.Name.{Name}
use Rattle.refusals.specs.declared.Refusal.{Refusal}

pub record MadeStep (dim : ℕ) (x : Session) (q : Outcome) (u : ℕ) : Type 0 where
  pub ws : List ℕ
  pub kept : Accepted dim ws
  pub used_is : u ≡ 2 * length ws
  pub file_is : q.after.file ≡ stored x.file x.used ws
  pub index_is : q.after.index ≡ afresh dim ws (size_of x.index)
  pub fits : index_fits dim ws (size_of x.index) ≡ true
  pub room : 2 * length ws ≤ length x.file

-- what is made had no fault
made_by : (f : Fault?) (x : Session) (q : Outcome) (u j : ℕ) → (result_by f x q).answer ≡ made_with u j → f ≡ fine
made_by fine x q u j e = refl
made_by (fault n p) x q u j e = let z : ◌≡◌ {A = ℕ} 0 1 = cc in absurd (omega arith)

---- what a record that is read carries are words

pub newest : (q r : Rec) (before rest : List ℕ) → ◌≡◌ {A = Newest} (some (q, before)) (some (r, rest)) → q ≡ r
newest q r before rest e = let z : ◌≡◌ {A = Rec × List ℕ} (q, before) (r, rest) = cc in ap (λ (y : Rec × List ℕ). y.0) z

record_carried : (ws : List ℕ) (k : Kind) (h : Option ℕ) (p : ℕ) (x before : List ℕ) (b : Bool) (r : Rec) (rest : List ℕ) → Below 65536 x →
    keep b (build k h p x before) ≡ some (r, rest) → Carried (reversal ws r)
unfolding reversal
record_carried ws flags h p x before true r rest l e = let z : flag p x ≡ r = newest (flag p x) r before rest e in subst (λ y. Carried (reversal ws y)) z tt
record_carried ws renames h p x before true r rest l e =
    let z : renamed p (word_at x 0) (word_at x 1) ≡ r = newest (renamed p (word_at x 0) (word_at x 1)) r before rest e in subst (λ y. Carried (reversal ws y)) z (l 0, l 1)
record_carried ws inserts h p x before true r rest l e = let z : inserted h p ≡ r = newest (inserted h p) r before rest e in subst (λ y. Carried (reversal ws y)) z tt
record_carried ws removes h p x before true r rest l e = let z : removed h p x ≡ r = newest (removed h p x) r before rest e in subst (λ y. Carried (reversal ws y)) z l
record_carried ws no_kind h p x before true r rest l e = let z : ◌≡◌ {A = ℕ} 0 1 = cc in absurd (omega arith)
record_carried ws k h p x before false r rest l e = let z : ◌≡◌ {A = ℕ} 0 1 = cc in absurd (omega arith)

keep_both : (a b : Bool) (l : Newest) → keep a (keep b l) ≡ keep (a && b) l
keep_both true b l = refl
keep_both false b l = refl

last_carried : (ws js : List ℕ) (r : Rec) (rest : List ℕ) → Below 65536 js → last_record js ≡ some (r, rest) → Carried (reversal ws r)
unfolding last_record
last_carried ws js r rest l e =
    let t = length js - 6 in
    let n = word_at js (length js - 6 + 5) in
    let k = kind_of (word_at js (length js - 6)) in
    let h = place_of (long_at js (length js - 6 + 1)) in
    let x = take (word_at js (length js - 6 + 5)) (drop (length js - 6 - word_at js (length js - 6 + 5)) js) in
    record_carried ws k h (long_at js (t + 3)) x (take (t - n) js) (leb 6 (length js) && (leb n t && formed k h n)) r rest
    (below_take 65536 n (drop (t - n) js) (omega arith) (below_drop 65536 (t - n) js l))
    (sym (keep_both (leb 6 (length js)) (leb n t && formed k h n) (build k h (long_at js (t + 3)) x (take (t - n) js))) ∙ e)

---- the edit and the undo of an open session

module _ (dim : ℕ) (x : Session) (below : Below 256 x.file) (ready : session_fault dim x ≡ fine) where
  pub stands : Accepted dim (words_of x)
  stands =
      standing dim (take x.used x.file) _ (open_accepted dim x.file x.used x.journal x.jused (bare_ready dim x ready))
      (below_take 256 x.used x.file (omega arith) below)

  few : length (words_of x) ≤ 524288
  few =
      let t = ready_tested dim x ready in
      let l = lengths_true (length x.file) x.used t.file in
      let n = used_twice x.file x.used (used_parts (length x.file) x.used t.file) in
      omega arith

  -- the words w after an edit that nothing refuses
  kept_by : (e : Edit) → edit_fault dim (words_of x) e ≡ fine → Carried e → Accepted dim (apply dim (words_of x) e)
  kept_by e f c = (sound dim (words_of x) e stands few f c).kept

  edit_made_lem : (e : Edit) (own : Fault?) (u j : ℕ) → (own ≡ fine → (edit_fault dim (words_of x) e ≡ fine) × Carried e) → (edited dim x e own).answer ≡ made_with u j →
      MadeStep dim x (edited dim x e own) u
  unfolding edited edit_within edit_made
  edit_made_lem e own u j allowed q =
      let w = words_by dim x e in
      let r = record_by dim x e in
      let f = made_by (or_else own (edit_within dim x w r)) x (edit_made dim x w r) u j q in
      let p = or_else_fine own (edit_within dim x w r) f in
      let a = allowed p.0 in
      let t = or_else_fine (unless (room_for dim (length x.file) (size_of x.index) w) 15) (unless (leb (x.jused + 2 * length r) (length x.journal)) 16) p.1 in
      let both = (and-eq-true_iff (index_fits dim w (size_of x.index)) (leb (2 * length w) (length x.file))).0
      (unless_fine (room_for dim (length x.file) (size_of x.index) w) 15 t.0) in
      let answer : (edit_made dim x w r).answer ≡ made_with u j = ap (λ g. (result_by g x (edit_made dim x w r)).answer) (sym f) ∙ q in
      let used : 2 * length w ≡ u = ap (λ l. l.used) (given_is answer) in
      subst (λ g. MadeStep dim x (result_by g x (edit_made dim x w r)) u) (sym f)
      (record {
        ws = w;
        kept = kept_by e a.0 a.1;
        used_is = sym used;
        file_is = refl;
        index_is = refl;
        fits = both.0;
        room = leb-true (2 * length w) (length x.file) both.1;
      })

  undo_made_lem : Below 256 x.journal → (u j : ℕ) → (undone dim x).answer ≡ made_with u j → MadeStep dim x (undone dim x) u
  unfolding undone undo_made
  undo_made_lem journal u j q =
      let s = unless (not (eqb x.jused 0)) 17 in
      let by = undo_by dim x (words_of x) (last_record (journal_of x)) in
      let f = made_by s x by u j q in
      subst (λ g. MadeStep dim x (result_by g x by) u) (sym f) (go (last_record (journal_of x)) refl (ap (λ g. (result_by g x by).answer) (sym f) ∙ q))
    where
      go : (l : Newest) → last_record (journal_of x) ≡ l → (undo_by dim x (words_of x) l).answer ≡ made_with u j → MadeStep dim x (undo_by dim x (words_of x) l) u
      go none e q = let z : ◌≡◌ {A = ℕ} 0 1 = cc in absurd (omega arith)
      go (some l) e q =
          let w = words_back dim (words_of x) l.0 in
          let back = undo_made dim x w (2 * length l.1) in
          let g = reversal_fault dim (words_of x) (length x.file) (size_of x.index) l.0 in
          let f = made_by g x back u j q in
          let p = or_else_fine (unless (reversible dim (words_of x) l.0) 19) (unless (room_for dim (length x.file) (size_of x.index) w) 15) f in
          let both = (and-eq-true_iff (index_fits dim w (size_of x.index)) (leb (2 * length w) (length x.file))).0
          (unless_fine (room_for dim (length x.file) (size_of x.index) w) 15 p.1) in
          let answer : back.answer ≡ made_with u j = ap (λ g. (result_by g x back).answer) (sym f) ∙ q in
          let used : 2 * length w ≡ u = ap (λ l. l.used) (given_is answer) in
          let carried = last_carried (words_of x) (journal_of x) l.0 l.1 (words_below (take x.jused x.journal) (below_take 256 x.jused x.journal (omega arith) journal)) e in
          subst (λ g. MadeStep dim x (result_by g x back) u) (sym f)
          (record {
            ws = w;
            kept = kept_by (reversal (words_of x) l.0) (reversal_fine dim (words_of x) l.0 (unless_fine (reversible dim (words_of x) l.0) 19 p.0)) carried;
            used_is = sym used;
            file_is = refl;
            index_is = refl;
            fits = both.0;
            room = leb-true (2 * length w) (length x.file) both.1;
          })

  -- a text that packs to two words is a name
  pub text_allowed : (p : ℕ) (text : List ℕ) (q : Result Name Refusal) → packed text ≡ q → rename_fault (spots_of dim (words_of x)) (words_of x) p (text_ok q) ≡ fine →
      (edit_fault dim (words_of x) (name_of_text q p) ≡ fine) × Carried (name_of_text q p)
  unfolding edit_fault
  text_allowed p text (Ok name2) e f =
      let o = pack_stored text name2.first name2.second e in
      (ap (rename_fault (spots_of dim (words_of x)) (words_of x) p) o.ok ∙ f, (o.first, o.second))
  text_allowed p text (Err refusal) e f = absurd (not_named (spots_of dim (words_of x)) (words_of x) p f)

  call_made : (c : Call) → Below 256 x.journal → PieceBytes c → (u j : ℕ) → (call_on dim x (words_of x) c).answer ≡ made_with u j → MadeStep dim x (call_on dim x (words_of x) c) u
  call_made (mark_call p d) jb b u j q = edit_made_lem (mark p d) (edit_fault dim (words_of x) (mark p d)) u j (λ f. (f, tt)) q
  call_made (rename_call p text) jb b u j q =
      edit_made_lem (name_of_text (packed text) p) (rename_fault (spots_of dim (words_of x)) (words_of x) p (text_ok (packed text))) u j (text_allowed p text (packed text) refl) q
  call_made (insert_call h p piece) jb b u j q =
      edit_made_lem (insert h p (words piece)) (edit_fault dim (words_of x) (insert h p (words piece))) u j (λ f. (f, words_below piece b)) q
  call_made (remove_call p) jb b u j q = edit_made_lem (remove p) (edit_fault dim (words_of x) (remove p)) u j (λ f. (f, tt)) q
  call_made undo_call jb b u j q = undo_made_lem jb u j q

pub step_made : (dim : ℕ) (x : Session) (c : Call) → Below 256 x.file → Below 256 x.journal → PieceBytes c → (u j : ℕ) → (step dim x c).answer ≡ made_with u j →
    MadeStep dim x (step dim x c) u
unfolding step open_fault
step_made dim x c below jb b u j q =
    let f = made_by (open_fault dim x c) x (call_on dim x (words_of x) c) u j q in
    let p = or_else_fine (unless (piece_ok c) 1) (session_fault dim x) f in
    subst (λ g. MadeStep dim x (result_by g x (call_on dim x (words_of x) c)) u) (sym f)
    (call_made dim x below p.1 c jb b u j (ap (λ g. (result_by g x (call_on dim x (words_of x) c)).answer) (sym f) ∙ q))
