-- The ways out of an insert and a remove, by what the code finds and leaves: its own refusal; else 15 and 16 by lengths; else
-- the record is pushed and the file changed.
use Prim.Native.Nat.{ℕ, ◌+◌, ◌-◌, ◌*◌, ◌/◌, ◌%◌, ◌≤◌, ◌<◌}
use mathlib.Core.Path.{◌≡◌, refl, sym, ap, ◌∙◌, subst}
use mathlib.Core.Bool.{true, and-eq-true_iff}
use mathlib.Core.List.{List, []}
use mathlib.Core.Option.{Option, none, some}
use native.Mathlib.Omega.{arith}
use lib.ListN.{length, take, drop, length-take, length-drop}
use lib.Dec.{eqb, leb}
use borrow.Author.Tests.{eqb-true}
use Rattle.words.specs.Words.{words, Below}
use Rattle.words.proofs.Laws.{words_below}
use Rattle.limits.specs.Limits.{size_ok}
use Rattle.places.specs.declared.Above.{Above}
use Rattle.files.specs.Spots.{Spot, spots_of, spot_in}
use Rattle.places.specs.Places.{found_by}
use Rattle.places.specs.Descent.{locate_of}
use Rattle.edits.specs.Edits.{Edit, insert, remove}
use Rattle.edits.specs.Allowed.{Fault?, fine, fault, unless, edit_fault}
use Rattle.edits.specs.Records.{record_of}
use Rattle.edits.specs.Calls.{Session, Call, insert_call, remove_call, used_words, words_by, record_by}
use Rattle.edits.proofs.Accepted.{SmallHeader, Small}
use Rattle.buffers.proofs.Laws.{part_words}
use Rattle.journals.specs.Journals.{record_pushed}
use Rattle.opening.specs.Opening.{session_of, header_of}
use Rattle.faults.specs.Faults.{is_at}
use Rattle.faults.proofs.ExactMarks.{remove_is}
use Rattle.faults.specs.Inserting.{insert_refusal, answer_of}
use Rattle.faults.proofs.ExactInserts.{insert_is}
use Rattle.changes.specs.Changes.{piece_in, extent_out}
use Rattle.changes.proofs.Made as made
use Rattle.opening.specs.Steps.{Stepped, last_place, Open, number_of}
use Rattle.opening.proofs.Steps.{edit_step, edit_refused, edit_room, edit_journal, edit_done}
use Rattle.opening.proofs.Accepted.{found_is}
use Rattle.opening.proofs.OpenSession.{used_within, jused_within, open_used, used_below, used_even, jused_even, sound_here}
use Rattle.opening.proofs.Pushed.{Laid, inserted_laid, removed_laid, record_long, record_pushed_lem}
use Rattle.std.specs.Prelude.{Err, Ok, Result}
use Rattle.edits.specs.UsedLengths.{made_with}
use Rattle.places.specs.Spotted.{spotted_with}
use Rattle.places.specs.declared.Spotted.{Spotted}
use Rattle.refusals.specs.Refusals.{refusal_of, refused_with}
use Rattle.refusals.specs.declared.Refusal.{Refusal}
use Rattle.refusals.proofs.Laws.{refused_not_given, given_not_refused, refusal_is}

-- what an insert was answered, as a refusal or none
pub refused_as : (f : Fault?) (refusal : Refusal) → answer_of f ≡ Err refusal → f ≡ fault refusal.number refusal.place
refused_as fine refusal e = absurd (refused_not_given e)
refused_as (fault n q) refusal e = ap (λ (r : Refusal). fault r.number r.place) (refusal_is e)

pub fine_of : (f : Fault?) → answer_of f ≡ Ok tt → f ≡ fine
fine_of fine e = refl
fine_of (fault n q) e = absurd (given_not_refused e)

-- what is found of no element is 13
absent : (x : Option Spot) (refusal : Refusal) → found_by x ≡ Err refusal → refusal ≡ refusal_of 13 0
absent none refusal e = sym (refusal_is e)
absent (some x) refusal e = absurd (refused_not_given e)

module _ (dim : ℕ) (file : List ℕ) (used : ℕ) (journal : List ℕ) (jused p : ℕ) (found : Result Spotted Refusal) (o : Open dim file used journal jused p found) (below : Below 256 file) where
  abbrev s : Session
  s = session_of file used journal jused

  abbrev ws : List ℕ
  ws = used_words file used

  abbrev m : ℕ
  m = last_place file used

  ---- insert

  module _ (marker : ℕ) (last : marker ≡ last_place file used) (h : Above) (piece : List ℕ) (piece_below : Below 256 piece) (lent : size_ok (length piece) ≡ true) where
    abbrev put : Edit
    put = insert (header_of h) p (words piece)

    abbrev call : Call
    call = insert_call (header_of h) p piece

    insert_own : insert_refusal dim (take used file) marker found h p (words piece) ≡ edit_fault dim ws (insert (header_of h) p (words piece))
    unfolding edit_fault
    insert_own = rw (last, o.found_is) (insert_is dim (take used file) m (open_used o) (used_below o below) h p (words piece))

    pub insert_refused : (n q : ℕ) → insert_refusal dim (take used file) marker found h p (words piece) ≡ fault n q → Stepped dim s call (refused_with n q) file journal
    insert_refused n q e = edit_step dim s _ _ _ lent o.ready refl (edit_refused dim s put (edit_fault dim ws put) n q (sym insert_own ∙ e))

    module _ (none : insert_refusal dim (take used file) marker found h p (words piece) ≡ fine) where
      insert_fine : edit_fault dim ws put ≡ fine
      insert_fine = sym insert_own ∙ none

      piece_even : length piece % 2 ≡ 0
      piece_even = eqb-true _ _ ((and-eq-true_iff (eqb (length piece % 2) 0) (leb (length piece) 1048576)).0 lent).0

      insert_long : 2 * length (words_by dim s put) ≡ used + length piece
      insert_long = made.insert_length dim file used m below (used_even o) (used_within o) (open_used o) (header_of h) p piece piece_even

      insert_laid : Laid (record_of dim ws put) 3 (number_of h) p []
      unfolding record_of
      insert_laid = inserted_laid h p (sound_here o below put insert_fine (words_below piece piece_below)).small.0

      insert_record : 2 * length (record_by dim s put) ≡ 12
      insert_record = record_long (record_of dim ws put) 3 (number_of h) p [] refl insert_laid

      pub insert_room : length file - used < length piece → Stepped dim s call (refused_with 15 0) file journal
      insert_room l =
          let n = insert_long in
          let w = (used_within o) in
          edit_step dim s _ _ _ lent o.ready refl (edit_room dim s put (edit_fault dim ws put) insert_fine (omega arith))

      module _ (fits : length piece ≤ length file - used) where
        insert_fits : 2 * length (words_by dim s put) ≤ length file
        insert_fits = let n = insert_long in let w = (used_within o) in omega arith

        pub insert_full : length journal - jused < 12 → Stepped dim s call (refused_with 16 0) file journal
        insert_full l =
            let n = insert_record in
            let w = (jused_within o) in
            edit_step dim s _ _ _ lent o.ready refl (edit_journal dim s put (edit_fault dim ws put) insert_fine refl insert_fits (omega arith))

        pub insert_done : 12 ≤ length journal - jused → (header : ℕ) (file' journal' : List ℕ) → file' ≡ piece_in file used h p piece →
            header ≡ number_of h → journal' ≡ record_pushed journal jused 3 header p [] → Stepped dim s call (made_with (used + length piece) (jused + 12)) file' journal'
        unfolding edit_fault
        insert_done l header file' journal' f q j =
            let n = insert_record in
            let w = (jused_within o) in
            let u = (used_within o) in
            edit_step dim s _ _ _ lent o.ready refl (edit_done dim s put (edit_fault dim ws put) insert_fine refl insert_fits (omega arith)
            (used + length piece) (jused + 12) file' journal' (sym insert_long) (omega arith)
            (f ∙ made.insert_made dim file used m below (used_even o) (used_within o) (open_used o) h p piece piece_even insert_fine (omega arith))
            (j ∙ ap (λ n. record_pushed journal jused 3 n p []) q ∙ record_pushed_lem (record_of dim ws put) 3 (number_of h) p [] refl insert_laid journal jused (jused_even o) (omega arith)))

  ---- remove

  remove_own : unless (is_at found) 13 ≡ edit_fault dim ws (remove p)
  unfolding edit_fault
  remove_own = ap (λ f. unless (is_at f) 13) o.found_is ∙ remove_is dim (take used file) m (open_used o) p

  -- no element starts there
  pub remove_absent : (refusal : Refusal) → found ≡ Err refusal → Stepped dim s (remove_call p) (Err refusal) file journal
  remove_absent refusal e =
      rw (absent (spot_in (spots_of dim ws) p) refusal (sym (found_is dim (take used file) m (open_used o) p) ∙ sym o.found_is ∙ e))
      (edit_step dim s _ _ _ refl o.ready refl (edit_refused dim s (remove p) (edit_fault dim ws (remove p)) 13 0 (sym remove_own ∙ rw e refl)))

  module _ (end depth : ℕ) (above : Above) (is : found ≡ spotted_with end depth above) where
    located : locate_of ws p m ≡ spotted_with end depth above
    located = sym o.found_is ∙ is

    remove_fine : edit_fault dim ws (remove p) ≡ fine
    remove_fine = sym remove_own ∙ rw is refl

    pub remove_inside : (p < end) × (2 * end ≤ used)
    remove_inside = made.remove_within dim file used m below (used_even o) (used_within o) (open_used o) p end depth above located

    remove_long : 2 * length (words_by dim s (remove p)) ≡ used - 2 * (end - p)
    remove_long = made.remove_length dim file used m below (used_even o) (used_within o) (open_used o) p end depth above located

    remove_fits : 2 * length (words_by dim s (remove p)) ≤ length file
    remove_fits = let n = remove_long in let w = (used_within o) in omega arith

    -- the payload: the extent's bytes in the file
    abbrev payload : List ℕ
    payload = take (2 * end - 2 * p) (drop (2 * p) file)

    payload_words : words payload ≡ take (end - p) (drop p ws)
    payload_words =
        let i = remove_inside.0 in
        let half : 2 * p / 2 ≡ p = omega arith in
        part_words file used (2 * p) (2 * end) (end - p) (omega arith) (omega arith) remove_inside.1 ∙ ap (λ k. take (end - p) (drop k ws)) half

    payload_long : length payload ≡ 2 * (end - p)
    payload_long =
        let i = remove_inside.0 in
        let k = remove_inside.1 in
        let w = (used_within o) in
        simp (length-take, length-drop) (omega arith)

    payload_even : length payload % 2 ≡ 0
    payload_even = let l = payload_long in omega arith

    remove_laid : Laid (record_of dim ws (remove p)) 4 (number_of above) p payload
    remove_laid =
        let r = made.remove_record dim file used m below (used_even o) (used_within o) (open_used o) p end depth above located in
        let small : SmallHeader (header_of above) = (subst Small r (sound_here o below (remove p) remove_fine tt).small).0 in
        subst (λ q. Laid q 4 (number_of above) p payload) (sym r) (removed_laid above p payload (take (end - p) (drop p ws)) small payload_words)

    remove_record : 2 * length (record_by dim s (remove p)) ≡ 2 * (end - p) + 12
    remove_record =
        let l = payload_long in
        record_long (record_of dim ws (remove p)) 4 (number_of above) p payload payload_even remove_laid ∙ (omega arith)

    pub remove_full : length journal - jused < 2 * (end - p) + 12 → Stepped dim s (remove_call p) (refused_with 16 0) file journal
    remove_full l =
        let n = remove_record in
        let w = (jused_within o) in
        edit_step dim s _ _ _ refl o.ready refl (edit_journal dim s (remove p) (edit_fault dim ws (remove p)) remove_fine refl remove_fits (omega arith))

    pub remove_done : 2 * (end - p) + 12 ≤ length journal - jused → (header : ℕ) (file' journal' : List ℕ) → file' ≡ extent_out file used above p (end - p) →
        header ≡ number_of above → journal' ≡ record_pushed journal jused 4 header p payload →
        Stepped dim s (remove_call p) (made_with (used - 2 * (end - p)) (jused + 2 * (end - p) + 12)) file' journal'
    remove_done l header file' journal' f q j =
        let n = remove_record in
        let k = payload_long in
        let w = (jused_within o) in
        edit_step dim s _ _ _ refl o.ready refl (edit_done dim s (remove p) (edit_fault dim ws (remove p)) remove_fine refl remove_fits (omega arith)
        (used - 2 * (end - p)) (jused + 2 * (end - p) + 12) file' journal' (sym remove_long) (omega arith)
        (f ∙ made.remove_made dim file used m below (used_even o) (used_within o) (open_used o) p end depth above located)
        (j ∙ ap (λ n. record_pushed journal jused 4 n p payload) q ∙ record_pushed_lem (record_of dim ws (remove p)) 4 (number_of above) p payload payload_even remove_laid journal jused (jused_even o) (omega arith)))
