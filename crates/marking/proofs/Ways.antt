-- The ways out of a mark and a rename, by what the code finds and leaves: a number that is not 0 is the refusal; else 16 by
-- the journal's length; else the record stands behind the journal and the file is changed.
use Prim.Native.Nat.{ℕ, ◌+◌, ◌-◌, ◌*◌, ◌%◌, ◌≤◌, ◌<◌}
use mathlib.Core.Path.{◌≡◌, refl, sym, ap, ◌∙◌}
use mathlib.Core.Bool.{Bool, true, false}
use mathlib.Core.List.{List, ◌++◌, append-nil}
use native.Mathlib.Omega.{arith}
use lib.ListN.{length, take, drop, length-take, length-drop, drop_of_length-le}
use lib.Seq.{take_all, drop-drop}
use borrow.Author.Tests.{ne_eqb}
use Rattle.words.specs.Words.{words, bytes, over, Below, word_at}
use Rattle.words.proofs.Laws.{words_below}
use Rattle.names.specs.Names.{packed}
use Rattle.files.specs.Spots.{spots_of}
use Rattle.places.specs.Descent.{locate_of}
use Rattle.edits.specs.Bits.{flag_size}
use Rattle.edits.specs.Edits.{mark, rename, flags_at}
use Rattle.headers.specs.Header.{name_place}
use Rattle.edits.specs.Allowed.{fine, fault, rename_fault, edit_fault}
use Rattle.edits.specs.Records.{flag, old_flags, record_of, record_words}
use Rattle.edits.specs.Calls.{Session, mark_call, rename_call, used_words, session_fault, pushed, words_by, record_by}
use Rattle.edits.proofs.Packed.{length_packed}
use Rattle.edits.proofs.Flags.{length_flags}
use Rattle.journals.specs.Journals.{six_put, record_pushed}
use Rattle.opening.specs.Opening.{session_of}
use Rattle.faults.specs.Faults.{end_of, mark_number, rename_number}
use Rattle.faults.proofs.ExactMarks.{numbered, mark_is, rename_is}
use Rattle.faults.proofs.Ends.{Located, mark_there}
use Rattle.changes.specs.CellNames.{name_put, cell_name}
use Rattle.flags.specs.Extents.{places_in, all_put, old_put}
use Rattle.flags.proofs.Packing.{old_over}
use Rattle.changes.proofs.Made as made
use Rattle.opening.specs.Steps.{Leaves, Stepped, last_place, Open}
use Rattle.opening.proofs.Steps.{edit_step, edit_refused, edit_journal, edit_done}
use Rattle.opening.proofs.OpenSession.{used_within, jused_within, open_used, used_below, used_even, jused_even}
use Rattle.opening.proofs.Pushed.{Laid, renamed_laid, record_long, record_pushed_lem, flag_long, flag_pushed}
use Rattle.marking.specs.Marking.{cell_renamed}
use Rattle.std.specs.Prelude.{Err, Ok, Result}
use Rattle.edits.specs.UsedLengths.{made_with}
use Rattle.edits.specs.declared.UsedLengths.{UsedLengths}
use Rattle.names.specs.declared.Name.{Name}
use Rattle.places.specs.Spotted.{spotted_with}
use Rattle.places.specs.declared.Spotted.{Spotted}
use Rattle.refusals.specs.Refusals.{refused_with}
use Rattle.refusals.specs.declared.Refusal.{Refusal}

-- a number as a refusal
numbered_fault : (n : ℕ) → (n ≡ 0 → ⊥) → numbered n ≡ fault n 0
numbered_fault n h = rw (ne_eqb n 0 h) refl

numbered_none : (n : ℕ) → n ≡ 0 → numbered n ≡ fine
numbered_none n h = rw h refl

-- a buffer's part from its byte n on, lent and come back as t
abbrev rest : List ℕ → ℕ → List ℕ
rest s n = take (length s - n) (drop n s)

abbrev with_rest : List ℕ → ℕ → List ℕ → List ℕ
with_rest s n t = take n s ++ (t ++ drop (length s - n) (drop n s))

length_rest : (s : List ℕ) (n : ℕ) → length (rest s n) ≡ length s - n
length_rest s n = simp (length-take, length-drop) (omega arith)

-- bytes over its front
over_behind : (s : List ℕ) (n : ℕ) (x : List ℕ) → with_rest s n (over (rest s n) 0 x) ≡ over s n x
unfolding over
over_behind s n x =
    let l = length-drop n s in
    let e : n + (0 + length x) ≡ n + length x = omega arith in
    rw (take_all (length s - n) (drop n s) (omega arith), drop_of_length-le (drop n s) {i = length s - n} (omega arith), append-nil (x ++ drop (0 + length x) (drop n s)))
    (ap (λ l. take n s ++ (x ++ l)) (drop-drop (0 + length x) n s ∙ ap (λ k. drop k s) e))

-- what a text asks by what it packs to
module _ (dim : ℕ) (s : Session) (p : ℕ) (text : List ℕ) {r : Result UsedLengths Refusal} {file journal : List ℕ} (ready : session_fault dim s ≡ fine) where
  pub text_named : (name : Name) → packed text ≡ Ok name → Leaves (cell_renamed dim s p true name.first name.second) r file journal → Stepped dim s (rename_call p text) r file journal
  text_named name e = edit_step dim s _ _ _ refl ready (rw e refl)

  pub text_unnamed : (refusal : Refusal) → packed text ≡ Err refusal → Leaves (cell_renamed dim s p false 0 0) r file journal → Stepped dim s (rename_call p text) r file journal
  text_unnamed refusal e = edit_step dim s _ _ _ refl ready (rw e refl)

module _ (dim : ℕ) (file : List ℕ) (used : ℕ) (journal : List ℕ) (jused p : ℕ) (found : Result Spotted Refusal) (o : Open dim file used journal jused p found) (below : Below 256 file) where
  abbrev s : Session
  s = session_of file used journal jused

  abbrev ws : List ℕ
  ws = used_words file used

  abbrev m : ℕ
  m = last_place file used

  ---- mark

  module _ (deleted : Bool) (n : ℕ) (is : n ≡ mark_number (words (take used file)) found p deleted) where
    mark_own : numbered n ≡ edit_fault dim ws (mark p deleted)
    unfolding edit_fault
    mark_own = ap numbered (is ∙ ap (λ f. mark_number ws f p deleted) o.found_is) ∙ mark_is dim (take used file) m (open_used o) p deleted

    pub mark_refused : (n ≡ 0 → ⊥) → Stepped dim s (mark_call p deleted) (refused_with n 0) file journal
    mark_refused h =
        edit_step dim s _ _ _ refl o.ready refl (edit_refused dim s (mark p deleted) (edit_fault dim ws (mark p deleted)) n 0 (sym mark_own ∙ numbered_fault n h))

    -- nothing refuses it: the extent that was found ends at `end`, and its flags take `size` words
    module _ (none : n ≡ 0) (end size : ℕ) (ends : end ≡ end_of found) (sized : size ≡ flag_size (length (places_in ws p end))) where
      mark_fine : edit_fault dim ws (mark p deleted) ≡ fine
      mark_fine = sym mark_own ∙ numbered_none n none

      mark_fits : 2 * length (words_by dim s (mark p deleted)) ≤ length file
      mark_fits = let l = made.mark_length dim file used m below (used_even o) (used_within o) (open_used o) p deleted in let w = (used_within o) in omega arith

      there : Located found end
      there = mark_there ws p deleted found (sym none ∙ is) end ends

      located : locate_of ws p m ≡ spotted_with end there.depth there.above
      located = sym o.found_is ∙ there.found_is

      abbrev old : List ℕ
      old = old_flags (places_in ws p end) ws

      old_size : length old ≡ size
      old_size = length_packed (flags_at (places_in ws p end) ws) ∙ ap flag_size (length_flags (places_in ws p end) ws) ∙ sym sized

      mark_record : record_of dim ws (mark p deleted) ≡ flag p old
      mark_record = made.mark_record dim file used m below (used_even o) (used_within o) (open_used o) p end there.depth there.above located deleted

      mark_long : 2 * length (record_by dim s (mark p deleted)) ≡ 2 * size + 12
      mark_long = ap (λ r. 2 * length (record_words r)) mark_record ∙ flag_long p old ∙ ap (λ k. 2 * k + 12) old_size

      pub mark_full : length journal - jused < 2 * size + 12 → Stepped dim s (mark_call p deleted) (refused_with 16 0) file journal
      mark_full h =
          let l = mark_long in
          let j = (jused_within o) in
          edit_step dim s _ _ _ refl o.ready refl (edit_journal dim s (mark p deleted) (edit_fault dim ws (mark p deleted)) mark_fine refl mark_fits (omega arith))

      module _ (room : 2 * size + 12 ≤ length journal - jused) where
        -- the old flags and the six words behind the journal
        mark_pushed : (out journal' : List ℕ) → out ≡ old_put p end (take used file) (rest journal jused) →
            journal' ≡ six_put (with_rest journal jused out) (jused + 2 * size) 1 4294967295 p size → journal' ≡ pushed journal jused (record_by dim s (mark p deleted))
        mark_pushed out journal' f j =
            let k = old_size in
            let d = length_rest journal jused in
            let w = (jused_within o) in
            j ∙ ap (λ t. six_put (with_rest journal jused t) (jused + 2 * size) 1 4294967295 p size) (f ∙ old_over p end (take used file) (rest journal jused) (omega arith))
            ∙ ap (λ t. six_put t (jused + 2 * size) 1 4294967295 p size) (over_behind journal jused (bytes old))
            ∙ ap (λ c. six_put (over journal jused (bytes old)) (jused + 2 * c) 1 4294967295 p c) (sym k)
            ∙ flag_pushed p old journal jused (omega arith)
            ∙ ap (λ r. pushed journal jused (record_words r)) (sym mark_record)

        pub mark_done : (part out journal' : List ℕ) → part ≡ all_put deleted p end (take used file) → out ≡ old_put p end (take used file) (rest journal jused) →
            journal' ≡ six_put (with_rest journal jused out) (jused + 2 * size) 1 4294967295 p size →
            Stepped dim s (mark_call p deleted) (made_with used (jused + 2 * size + 12)) (part ++ drop used file) journal'
        mark_done part out journal' f g j =
            let l = mark_long in
            let w = (jused_within o) in
            edit_step dim s _ _ _ refl o.ready refl (edit_done dim s (mark p deleted) (edit_fault dim ws (mark p deleted)) mark_fine refl mark_fits (omega arith)
            used (jused + 2 * size + 12) (part ++ drop used file) journal' (sym (made.mark_length dim file used m below (used_even o) (used_within o) (open_used o) p deleted)) (omega arith)
            (ap (λ x. x ++ drop used file) f
            ∙ made.mark_made dim file used m below (used_even o) (used_within o) (open_used o) p end there.depth there.above located deleted)
            (mark_pushed out journal' g j))

  ---- rename

  module _ (named : Bool) (a b n : ℕ) (is : n ≡ rename_number (words (take used file)) found p named) where
    rename_own : numbered n ≡ rename_fault (spots_of dim ws) ws p named
    rename_own = ap numbered (is ∙ ap (λ f. rename_number ws f p named) o.found_is) ∙ rename_is dim (take used file) m (open_used o) p named

    pub rename_refused : (n ≡ 0 → ⊥) → Leaves (cell_renamed dim s p named a b) (refused_with n 0) file journal
    rename_refused h = edit_refused dim s (rename p a b) (rename_fault (spots_of dim ws) ws p named) n 0 (sym rename_own ∙ numbered_fault n h)

    module _ (none : n ≡ 0) where
      rename_fine : rename_fault (spots_of dim ws) ws p named ≡ fine
      rename_fine = sym rename_own ∙ numbered_none n none

      rename_long' : 2 * length (words_by dim s (rename p a b)) ≡ used
      rename_long' = made.rename_length dim file used m below (used_even o) (used_within o) (open_used o) p a b

      rename_fits : 2 * length (words_by dim s (rename p a b)) ≤ length file
      rename_fits = let l = rename_long' in let w = (used_within o) in omega arith

      old_laid : Laid (record_of dim ws (rename p a b)) 2 4294967295 p (cell_name ws p)
      unfolding record_of cell_name
      old_laid =
          let w = words_below (take used file) (used_below o below) in
          renamed_laid p (word_at ws (name_place ws p)) (word_at ws (name_place ws p + 1)) (w (name_place ws p)) (w (name_place ws p + 1))

      old_four : length (cell_name ws p) ≡ 4
      unfolding cell_name
      old_four = refl

      old_even : length (cell_name ws p) % 2 ≡ 0
      unfolding cell_name
      old_even = refl

      rename_record : 2 * length (record_by dim s (rename p a b)) ≡ 16
      rename_record =
          let l = record_long (record_of dim ws (rename p a b)) 2 4294967295 p (cell_name ws p) old_even old_laid in
          let k = old_four in
          omega arith

      pub rename_full : length journal - jused < 16 → Leaves (cell_renamed dim s p named a b) (refused_with 16 0) file journal
      rename_full h =
          let l = rename_record in
          let j = (jused_within o) in
          edit_journal dim s (rename p a b) (rename_fault (spots_of dim ws) ws p named) rename_fine refl rename_fits (omega arith)

      pub rename_done : 16 ≤ length journal - jused → a < 65536 → b < 65536 → (part old journal' : List ℕ) → part ≡ name_put p a b (take used file) → old ≡ cell_name ws p →
          journal' ≡ record_pushed journal jused 2 4294967295 p old → Leaves (cell_renamed dim s p named a b) (made_with used (jused + 16)) (part ++ drop used file) journal'
      rename_done h x y part old journal' f q j =
          let l = rename_record in
          let k = old_four in
          let w = (jused_within o) in
          edit_done dim s (rename p a b) (rename_fault (spots_of dim ws) ws p named) rename_fine refl rename_fits (omega arith)
          used (jused + 16) (part ++ drop used file) journal' (sym rename_long') (omega arith)
          (ap (λ x. x ++ drop used file) f ∙ made.rename_made dim file used m below (used_even o) (used_within o) (open_used o) p a b x y)
          (j ∙ ap (record_pushed journal jused 2 4294967295 p) q ∙ record_pushed_lem (record_of dim ws (rename p a b)) 2 4294967295 p (cell_name ws p) old_even old_laid journal jused (jused_even o) (omega arith))
