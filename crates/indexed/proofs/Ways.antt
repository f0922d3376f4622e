-- A call with an index, by the call without one. The two open alike. Where the index will fit, an edit answers and leaves the same
-- (`Beside`); where it will not, the edit was lent the used part of the journal alone, so that nothing is left of it but its own
-- refusal, 15 or 16. What is made is completed by the index of the words that are then there.
use Prim.Native.Nat.{ℕ, ◌+◌, ◌-◌, ◌*◌, ◌/◌, ◌%◌, ◌≤◌}
use mathlib.Core.Path.{◌≡◌, refl, sym, ap, ◌∙◌}
use mathlib.Core.Bool.{Bool, true, false, cond, not, ◌&&◌, false≢true, and-eq-true_iff}
use mathlib.Core.List.{List, ◌++◌, append-nil}
use mathlib.Core.Option.{Option, none, some}
use native.Mathlib.Omega.{arith}
use lib.ListN.{length, take, drop, length-take, take-append-drop}
use lib.Seq.{take-length, drop-length, length-take-le}
use lib.Dec.{leb}
use borrow.Author.Tests.{le-leb, lt-leb, eq-eqb, ne_eqb}
use Rattle.words.specs.Words.{words, Below}
use Rattle.limits.specs.Limits.{used_ok}
use Rattle.files.specs.Judge.{top_of}
use Rattle.entries.specs.Entries.{entries_ok}
use Rattle.cells.specs.Cells.{cells_of, cells_between}
use Rattle.cells.specs.Index.{index_of, index_bytes}
use Rattle.cell_edits.specs.After.{number_after}
use Rattle.cell_edits.proofs.After.{cells_between_lem, fits_after}
use Rattle.indexing.specs.Indexing.{cells_to, room_to}
use Rattle.edits.specs.Edits.{Edit, apply}
use Rattle.edits.specs.Allowed.{Fault?, fine, fault, or_else, unless, edit_fault}
use Rattle.edits.specs.Calls.{Index, Session, index_fits, Call, used_words, piece_ok, session_ok, file_fault, session_fault, open_fault, stored, Outcome, refused, result_by, words_by, record_by, edit_made, edit_within, edited, call_on, step}
use Rattle.edits.specs.Book.{was_refused}
use Rattle.edits.specs.Demand.{PieceBytes}
use Rattle.edits.proofs.Allowed as edits
use Rattle.edits.proofs.Buffers.{used_holds, holds_stored}
use Rattle.edits.proofs.Faults.{or_else_fine}
use Rattle.edits.proofs.Journal.{record_long}
use Rattle.edits.specs.Records.{record_of}
use Rattle.edits.proofs.Refusals.{refusal_keeps}
use Rattle.edits.proofs.Tested.{tested}
use Rattle.edits.proofs.Tests.{both_and}
use Rattle.opening.specs.Opening.{session_with, session_of}
use Rattle.opening.specs.Steps.{Leaves, LeavesAll, Stepped}
use Rattle.opening.proofs.Beside.{Beside, edit_beside}
use Rattle.opening.proofs.Steps.{left}
use Rattle.opening.proofs.Opening.{lengths_true}
use Rattle.indexed.specs.Indexed.{index_lent, session_indexed, SteppedWith}
use Rattle.indexed.specs.Parts.{lent_ok, told_number, Finishable, Finished}
use Rattle.indexed.proofs.Others.{Other, open_other}
use Rattle.indexed.proofs.Made.{MadeStep, stands, step_made}
use Rattle.std.specs.Prelude.{Err, Ok, Result}
use Rattle.edits.specs.UsedLengths.{made_with}
use Rattle.edits.specs.declared.UsedLengths.{UsedLengths}
use Rattle.indexed.specs.declared.AllLengths.{AllLengths}
use Rattle.refusals.specs.Refusals.{refused_with}
use Rattle.refusals.specs.declared.Refusal.{Refusal}

-- an edit's answer where the index is full
abbrev pub told_by : Bool → Result UsedLengths Refusal → Result UsedLengths Refusal
told_by full (Ok lengths) = Ok lengths
told_by full (Err refusal) = refused_with (told_number full refusal.number) refusal.place

pub told_none : (r : Result UsedLengths Refusal) → told_by false r ≡ r
told_none (Ok lengths) = refl
told_none (Err refusal) = refl

other_told : (n : ℕ) → (n ≡ 16 → ⊥) → told_number true n ≡ n
other_told n e = rw (ne_eqb n 16 e) refl

-- what is left by a result that answers and leaves the same
by_same : {p q : Outcome} {r : Result UsedLengths Refusal} {file journal : List ℕ} → q.answer ≡ p.answer → q.after.file ≡ p.after.file → q.after.journal ≡ p.after.journal →
    Leaves p r file journal → Leaves q r file journal
by_same a f j t = record { answer = t.answer ∙ sym a; file_is = t.file_is ∙ sym f; journal_is = t.journal_is ∙ sym j }

-- what a refusal answers and leaves
refused_leaves : {s : Session} {r : Result UsedLengths Refusal} {file journal : List ℕ} (n p : ℕ) → Leaves (refused s n p) r file journal → (r ≡ refused_with n p) × (file ≡ s.file) × (journal ≡ s.journal)
refused_leaves n p t = (t.answer, t.file_is, t.journal_is)

module _ (dim : ℕ) (file : List ℕ) (used : ℕ) (journal : List ℕ) (jused : ℕ) (buffer : List ℕ) (iused : ℕ) where
  abbrev i : Index
  i = record { buffer = buffer; iused = iused }

  abbrev s : Session
  s = session_indexed file used journal jused buffer iused

  abbrev ws : List ℕ
  ws = used_words file used

  ---- wrong lengths

  pub lengths_wrong : lent_ok (length file) used (length journal) jused (length buffer) iused ≡ false → (c : Call) → SteppedWith dim file used journal jused buffer iused c (refused_with 1 0) file journal buffer
  unfolding step open_fault session_fault
  lengths_wrong e c = go (session_ok dim s) refl (piece_ok c)
    where
      go : (b : Bool) → session_ok dim s ≡ b → (a : Bool) →
          LeavesAll (result_by (or_else (unless a 1) (or_else (unless (session_ok dim s) 1) (file_fault (top_of dim ws) (length ws - 1)))) s (call_on dim s ws c)) (refused_with 1 0) file journal (index_lent buffer iused)
      go true q a =
          let t = tested dim s q in
          absurd (false≢true (sym e ∙ (and-eq-true_iff _ _).1 (t.file, (and-eq-true_iff _ _).1 (t.journal, t.index))))
      go false q true = rw q (record { buffers = record { answer = refl; file_is = refl; journal_is = refl }; index_is = refl })
      go false q false = record { buffers = record { answer = refl; file_is = refl; journal_is = refl }; index_is = refl }

  module _ (ok : lent_ok (length file) used (length journal) jused (length buffer) iused ≡ true) (below : Below 256 file) where
    pub tests : (used_ok (length file) used ≡ true) × (used_ok (length journal) jused ≡ true) × (entries_ok (length buffer) iused ≡ true)
    tests =
        let a = (and-eq-true_iff (used_ok (length file) used) (used_ok (length journal) jused && entries_ok (length buffer) iused)).0 ok in
        let b = (and-eq-true_iff (used_ok (length journal) jused) (entries_ok (length buffer) iused)).0 a.1 in
        (a.0, b.0, b.1)

    pub used_in : used ≤ length file
    used_in = (lengths_true (length file) used tests.0).within

    pub jused_in : jused ≤ length journal
    jused_in = (lengths_true (length journal) jused tests.1).within

    -- a journal that is lent in part opens as the whole does
    opens_cut : (room : ℕ) → used_ok (length (take room journal)) jused ≡ true → (c : Call) → open_fault dim s c ≡ open_fault dim (session_of file used (take room journal) jused) c
    unfolding open_fault session_fault session_ok
    opens_cut room e c = rw (tests.0, tests.1, tests.2, e) refl

    ---- an edit

    module _ (c : Call) (e : Edit) (own : Fault?) (n : ℕ) (full : Bool)
        (asks : (j : List ℕ) (x : Option Index) → call_on dim (session_with file used j jused x) ws c ≡ edited dim (session_with file used j jused x) e own)
        (own_fine : session_fault dim s ≡ fine → own ≡ fine → edit_fault dim ws e ≡ fine) (other : Other own)
        (number : session_fault dim s ≡ fine → edit_fault dim ws e ≡ fine → n ≡ number_after dim ws e) (is : full ≡ not (leb (8 * n) (length buffer))) where
      fits_told : session_fault dim s ≡ fine → own ≡ fine → index_fits dim (apply dim ws e) (some (length buffer)) ≡ not full
      fits_told ready f =
          let g = own_fine ready f in
          fits_after dim ws e (length buffer) (stands dim s below ready) g ∙ ap (λ m. leb (8 * m) (length buffer)) (sym (number ready g)) ∙ twice (leb (8 * n) (length buffer)) ∙ ap not (sym is)
        where
          twice : (b : Bool) → b ≡ not (not b)
          twice true = refl
          twice false = refl

      open_parts : open_fault dim s c ≡ fine → session_fault dim s ≡ fine
      unfolding open_fault
      open_parts f = (or_else_fine (unless (piece_ok c) 1) (session_fault dim s) f).1

      -- the index will fit: the whole journal was lent
      module _ (room : full ≡ false) (r : Result UsedLengths Refusal) (file' journal' : List ℕ) where
        fitting : (f : Fault?) → open_fault dim s c ≡ f → (o : Fault?) → own ≡ o →
            Leaves (result_by f (session_of file used journal jused) (call_on dim (session_of file used journal jused) ws c)) r file' journal' →
            Leaves (result_by f s (call_on dim s ws c)) r file' journal'
        fitting (fault m p) g o h t = by_same refl refl refl t
        fitting fine g (fault m p) h t =
            rw (asks journal (some i), edits.edit_own dim s e own m p h)
            (by_same refl refl refl (rw (asks journal none, edits.edit_own dim (session_of file used journal jused) e own m p h) at t))
        fitting fine g fine h t =
            let b = edit_beside file used journal jused i dim e own (fits_told (open_parts g) h ∙ ap not room) in
            rw (asks journal (some i)) (by_same b.answer b.file_is b.journal_is (rw (asks journal none) at t))

        pub edit_fitting : Stepped dim (session_of file used journal jused) c r file' journal' → Stepped dim s c r file' journal'
        unfolding step
        edit_fitting t =
            let same = opens_cut (length journal) (ap (λ l. used_ok (length l) jused) (take-length journal) ∙ tests.1) c in
            let whole = ap (λ l. open_fault dim (session_of file used l jused) c) (take-length journal) in
            fitting (open_fault dim s c) refl own refl (rw (sym (same ∙ whole)) at t)

      -- it will not: the used part was lent
      module _ (room : full ≡ true) (r : Result UsedLengths Refusal) (file' part : List ℕ) where
        abbrev cut : Session
        cut = session_of file used (take jused journal) jused

        cut_long : length (take jused journal) ≡ jused
        cut_long = length-take-le jused journal jused_in

        back : take jused journal ++ drop jused journal ≡ journal
        back = take-append-drop jused journal

        -- as a refusal of the whole session
        refused_all : (m p : ℕ) → (m ≡ 16 → ⊥) → Leaves (refused cut m p) r file' part → Leaves (refused s m p) (told_by true r) file' (part ++ drop jused journal)
        refused_all m p o t =
            rw (t.answer, t.file_is, t.journal_is, other_told m o, back) (record { answer = refl; file_is = refl; journal_is = refl })

        -- no record fits
        crowded : (b : Bool) → Leaves (result_by (or_else (unless b 15) (fault 16 0)) cut (edit_made dim cut (words_by dim cut e) (record_by dim cut e))) r file' part →
            Leaves (refused s 15 0) (told_by true r) file' (part ++ drop jused journal)
        crowded true t = rw (t.answer, t.file_is, t.journal_is, back) (record { answer = refl; file_is = refl; journal_is = refl })
        crowded false t = rw (t.answer, t.file_is, t.journal_is, back) (record { answer = refl; file_is = refl; journal_is = refl })

        no_record : leb (jused + 2 * length (record_by dim cut e)) (length (take jused journal)) ≡ false
        no_record =
            let l = cut_long in
            let six = record_long (record_of dim ws e) in
            lt-leb (jused + 2 * length (record_by dim cut e)) (length (take jused journal)) (omega arith)

        crowding : (f : Fault?) → open_fault dim s c ≡ f → (o : Fault?) → own ≡ o → Other f → Other o → Leaves (result_by f cut (call_on dim cut ws c)) r file' part →
            Leaves (result_by f s (call_on dim s ws c)) (told_by true r) file' (part ++ drop jused journal)
        unfolding edited edit_within
        crowding (fault m p) g o h x y t = refused_all m p x t
        crowding fine g (fault m p) h x y t =
            rw (asks journal (some i), edits.edit_own dim s e own m p h) (refused_all m p y (rw (asks (take jused journal) none, edits.edit_own dim cut e own m p h) at t))
        crowding fine g fine h x y t =
            rw (asks journal (some i), edits.edit_crowded dim s e own h (fits_told (open_parts g) h ∙ ap not room))
            (crowded (leb (2 * length (words_by dim cut e)) (length file)) (rw (asks (take jused journal) none, h, no_record) at t))

        pub edit_crowding : Stepped dim cut c r file' part → Stepped dim s c (told_by true r) file' (part ++ drop jused journal)
        unfolding step
        edit_crowding t =
            crowding (open_fault dim s c) refl own refl (open_other dim s c) other (rw (sym (opens_cut jused cut_ok c)) at t)
          where
            cut_ok : used_ok (length (take jused journal)) jused ≡ true
            cut_ok =
                let u = lengths_true (length journal) jused tests.1 in
                rw cut_long (both_and (both_and (eq-eqb (jused % 2) 0 u.used_even) (le-leb jused 1048576 (omega arith))) (both_and (eq-eqb (jused % 2) 0 u.used_even) (le-leb jused jused (omega arith))))

      -- either
      pub edit_stepped : (room : ℕ) → room ≡ cond full jused (length journal) → (r : Result UsedLengths Refusal) (file' part : List ℕ) → Stepped dim (session_of file used (take room journal) jused) c r file' part →
          Stepped dim s c (told_by full r) file' (part ++ drop room journal)
      edit_stepped room q r file' part t = go full refl
        where
          go : (b : Bool) → full ≡ b → Stepped dim s c (told_by full r) file' (part ++ drop room journal)
          go true h =
              let z : room ≡ jused = q ∙ ap (λ b. cond b jused (length journal)) h in
              rw (h, z) (edit_crowding h r file' part (rw z at t))
          go false h =
              let z : room ≡ length journal = q ∙ ap (λ b. cond b jused (length journal)) h in
              rw (h, z, told_none r, drop-length journal, append-nil part) (edit_fitting h r file' part (rw (z, take-length journal) at t))

    ---- what is made is completed

    module _ (c : Call) (piece : PieceBytes c) where
      -- what is made is within the file's buffer
      pub finishable : (j : List ℕ) (x : Option Index) → Below 256 j → (r : Result UsedLengths Refusal) (file' journal' : List ℕ) → Stepped dim (session_with file used j jused x) c r file' journal' → Finishable r (length file')
      finishable j x jb (Err refusal) file' journal' t = tt
      finishable j x jb (Ok lengths) file' journal' t =
          let m = step_made dim (session_with file used j jused x) c below jb piece lengths.used lengths.jused (sym t.answer) in
          let h = holds_stored (used_holds file used below tests.0) m.ws m.kept.below m.room in
          let l : length file' ≡ length file = ap length (t.file_is ∙ m.file_is) ∙ h.whole in
          let u' = m.used_is in
          let w = m.room in
          omega arith

      module _ (jb : Below 256 journal) where
        -- the index of the file as it is now
        built : (u v : ℕ) (file' journal' : List ℕ) (r' : Result AllLengths Refusal) (index' : List ℕ) (full : Bool) → (t : Stepped dim s c (made_with u v) file' journal') → Finished (made_with u v) full file' buffer r' index' →
            MadeStep dim s (step dim s c) u → SteppedWith dim file used journal jused buffer iused c r' file' journal' index'
        unfolding index_of index_bytes
        built u v file' journal' r' index' full t f m =
            let h = holds_stored (used_holds file used below tests.0) m.ws m.kept.below m.room in
            let is : file' ≡ stored file used m.ws = t.file_is ∙ m.file_is in
            let l : length file' ≡ length file = ap length is ∙ h.whole in
            let most = (lengths_true (length file) used tests.0).small in
            let u' = m.used_is in
            let words' : words (take u file') ≡ m.ws = ap (λ k. words (take k file')) u' ∙ ap (λ y. words (take (2 * length m.ws) y)) is ∙ h.words in
            let to : u / 2 - 1 ≡ length m.ws - 1 = omega arith in
            let cells : cells_to (take u file') (u / 2 - 1) ≡ cells_of dim m.ws =
            ap (λ y. cells_between y 0 (u / 2 - 1)) words' ∙ ap (cells_between m.ws 0) to ∙ sym (cells_between_lem dim m.ws m.kept) in
            let k = length-take u file' in
            let room : room_to (take u file') (u / 2 - 1) buffer ≡ true =
            rw cells (both_and (le-leb (length (take u file')) 1048576 (omega arith)) m.fits) in
            rw (f.is, f.bytes, room, cells) (record { buffers = t; index_is = sym m.index_is })

        pub complete : (full : Bool) (r : Result UsedLengths Refusal) (file' journal' : List ℕ) (r' : Result AllLengths Refusal) (index' : List ℕ) → Stepped dim s c (told_by full r) file' journal' → Finished r full file' buffer r' index' →
            SteppedWith dim file used journal jused buffer iused c r' file' journal' index'
        complete full (Err refusal) file' journal' r' index' t f =
            rw (f.is, f.bytes)
            (record { buffers = t; index_is = sym (ap (λ (x : Session). x.index) (refusal_keeps dim s c (ap was_refused (sym t.answer)))) })
        complete full (Ok lengths) file' journal' r' index' t f =
            built lengths.used lengths.jused file' journal' r' index' full t f (step_made dim s c below jb piece lengths.used lengths.jused (sym t.answer))
