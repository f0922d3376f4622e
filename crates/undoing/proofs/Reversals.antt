-- The reversal of each kind of record, by what the code finds and leaves; and undo's ways out by the record that was read.
use Prim.Native.Nat.{ℕ, ◌+◌, ◌-◌, ◌*◌, ◌/◌, ◌%◌, ◌≤◌, ◌<◌}
use mathlib.Core.Path.{◌≡◌, refl, sym, ap, ◌∙◌, subst}
use mathlib.Core.Bool.{Bool, true, false, false≢true}
use mathlib.Core.List.{List, [], ◌++◌}
use mathlib.Core.Option.{some}
use native.Mathlib.Omega.{arith}
use lib.ListN.{length, take, drop, length-take, length-drop}
use Rattle.words.specs.Words.{words, Below, word_at}
use Rattle.files.specs.Spots.{spots_of}
use Rattle.places.specs.declared.Above.{Above}
use Rattle.places.specs.declared.Above.TheVariants.{Top}
use Rattle.edits.specs.Edits.{insert, apply}
use Rattle.edits.specs.Allowed.{Fault?, fine, fault, insert_fault, edit_fault}
use Rattle.edits.specs.Records.{Rec, flag, renamed, inserted, removed, place_of, last_record, is_fine, reversal, reversible}
use Rattle.edits.specs.Calls.{Session, used_words, session_fault, stored}
use Rattle.edits.proofs.Bounds.{below_take}
use Rattle.buffers.proofs.Laws.{part_words}
use Rattle.journals.specs.Journals.{RecordWithin, LastRead}
use Rattle.journals.proofs.Records.{before_length}
use Rattle.opening.specs.Opening.{session_of, header_of}
use Rattle.opening.proofs.Opening.{AcceptedUsed}
use Rattle.edits.specs.Bits.{word_flags}
use Rattle.flags.specs.Extents.{places_in, flags_put}
use Rattle.faults.specs.Faults.{end_of, same_above, stands_under}
use Rattle.faults.proofs.Ends.{Located, flags_there}
use Rattle.faults.specs.Reversing.{reverses_at}
use Rattle.faults.proofs.ExactReversals.{record_by, reversible_is}
use Rattle.changes.specs.CellNames.{name_put, name_bytes}
use Rattle.changes.specs.Changes.{piece_in, extent_out}
use Rattle.changes.proofs.Made as made
use Rattle.opening.specs.Steps.{Leaves, last_place, above_at}
use Rattle.opening.proofs.Pushed.{header_above, name_words}
use Rattle.undoing.specs.Undoing.{OpenFile, back_number, Reversed, undo_told}
use Rattle.undoing.proofs.Ways.{number_zero, back_refused, back_room, back_done, undo_bad, undo_reversed, accepted_used}
use Rattle.std.specs.Prelude.{Err, None, Ok, Option, Result}
use Rattle.edits.specs.UsedLengths.{made_with}
use Rattle.edits.specs.declared.UsedLengths.{UsedLengths}
use Rattle.journals.specs.LastAnswers.{last_flag, last_inserted, last_removed, last_renamed}
use Rattle.journals.specs.declared.Last.{Last}
use Rattle.places.specs.Spotted.{spotted_with}
use Rattle.places.specs.declared.Spotted.{Spotted}
use Rattle.refusals.specs.Refusals.{refused_with}
use Rattle.refusals.specs.declared.Refusal.{Refusal}

fine_of : (f : Fault?) → is_fine f ≡ true → f ≡ fine
fine_of fine e = refl
fine_of (fault n p) e = absurd (false≢true e)

-- where no element was found none stands under a header
none_under : (f : Result Spotted Refusal) (h : Above) → ((spot : Spotted) → f ≡ Ok spot → ⊥) → stands_under f h ≡ false
none_under (Ok spot) h none = absurd (none spot refl)
none_under (Err refusal) h none = refl

module _ (dim : ℕ) (file : List ℕ) (used p : ℕ) (found : Result Spotted Refusal) (o : OpenFile dim file used p found) (below : Below 256 file) (full : Bool) (before : ℕ) where
  abbrev ws : List ℕ
  ws = used_words file used

  abbrev m : ℕ
  m = last_place file used

  used_here : AcceptedUsed dim (take used file) (last_place file used)
  used_here = accepted_used dim file used p found o

  used_below : Below 256 (take used file)
  used_below = below_take 256 used file (omega arith) below

  -- what the code asks of a record is whether its reversal is allowed
  reverses_is : (marker : ℕ) → marker ≡ last_place file used → (kind : ℕ) (h : Above) (x : List ℕ) →
      reverses_at dim (take used file) marker found kind h p x ≡ reversible dim ws (record_by kind (header_of h) p x)
  reverses_is marker last kind h x = rw (last, o.found_is) (reversible_is dim (take used file) m used_here used_below kind h p x)

  ---- the old flags are written back

  module _ (marker : ℕ) (last : marker ≡ last_place file used) (x : List ℕ) where
    flag_is : reverses_at dim (take used file) marker found 1 Top p x ≡ reversible dim ws (flag p x)
    flag_is = reverses_is marker last 1 Top x

    pub flag_refused : (n : ℕ) → n ≡ back_number (reverses_at dim (take used file) marker found 1 Top p x) full → (n ≡ 0 → ⊥) →
        Reversed dim file used (flag p x) full before (refused_with n 0) file
    flag_refused n e z = back_refused dim file used (flag p x) full before n (e ∙ ap (λ b. back_number b full) flag_is) z

    flag_there : reverses_at dim (take used file) marker found 1 Top p x ≡ true → (end : ℕ) → end ≡ end_of found → Located found end
    unfolding reverses_at
    flag_there e end q = flags_there ws p x found e end q

    pub flag_done : (n : ℕ) → n ≡ back_number (reverses_at dim (take used file) marker found 1 Top p x) full → n ≡ 0 → (end : ℕ) (part : List ℕ) → end ≡ end_of found →
        part ≡ flags_put (places_in ws p end) (word_flags x) (take used file) → Reversed dim file used (flag p x) full before (made_with used before) (part ++ drop used file)
    unfolding reversal
    flag_done n k z end part q f =
        let t = number_zero (reverses_at dim (take used file) marker found 1 Top p x) full n k z in
        let e = t.0 in
        let there = flag_there e end q in
        let l = made.restore_length dim file used m below o.even o.within used_here p x in
        let w = o.within in
        back_done dim file used (flag p x) full before (sym flag_is ∙ e) t.1 (omega arith) used (part ++ drop used file) (sym l)
        (ap (λ y. y ++ drop used file) f
        ∙ made.restore_made dim file used m below o.even o.within used_here p end there.depth there.above (sym o.found_is ∙ there.found_is) x)

  ---- the old name is written back

  module _ (marker : ℕ) (last : marker ≡ last_place file used) (a b : ℕ) (x : a < 65536) (y : b < 65536) (payload : List ℕ) (is : payload ≡ name_bytes a b) where
    name_is : reverses_at dim (take used file) marker found 2 Top p (words payload) ≡ reversible dim ws (renamed p a b)
    name_is =
        ap (λ v. reverses_at dim (take used file) marker found 2 Top p (words v)) is
        ∙ reverses_is marker last 2 Top (words (name_bytes a b))
        ∙ ap (λ v. reversible dim ws (renamed p (word_at v 0) (word_at v 1))) (name_words a b x y)

    pub name_refused : (n : ℕ) → n ≡ back_number (reverses_at dim (take used file) marker found 2 Top p (words payload)) full → (n ≡ 0 → ⊥) →
        Reversed dim file used (renamed p a b) full before (refused_with n 0) file
    name_refused n e z = back_refused dim file used (renamed p a b) full before n (e ∙ ap (λ b. back_number b full) name_is) z

    pub name_done : (n : ℕ) → n ≡ back_number (reverses_at dim (take used file) marker found 2 Top p (words payload)) full → n ≡ 0 → (part : List ℕ) →
        part ≡ name_put p a b (take used file) → Reversed dim file used (renamed p a b) full before (made_with used before) (part ++ drop used file)
    unfolding reversal
    name_done n k z part f =
        let t = number_zero (reverses_at dim (take used file) marker found 2 Top p (words payload)) full n k z in
        let e = t.0 in
        let l = made.rename_length dim file used m below o.even o.within used_here p a b in
        let w = o.within in
        back_done dim file used (renamed p a b) full before (sym name_is ∙ e) t.1 (omega arith) used (part ++ drop used file) (sym l)
        (ap (λ x. x ++ drop used file) f ∙ made.rename_made dim file used m below o.even o.within used_here p a b x y)

  ---- what was put in is taken out

  module _ (h : ℕ) where
    in_is : stands_under found (above_at h) ≡ reversible dim ws (inserted (place_of h) p)
    unfolding reverses_at
    in_is = reverses_is m refl 3 (above_at h) [] ∙ ap (λ q. reversible dim ws (inserted q p)) (header_above h)

    pub in_absent : ((spot : Spotted) → found ≡ Ok spot → ⊥) → Reversed dim file used (inserted (place_of h) p) full before (refused_with 19 0) file
    in_absent none = back_refused dim file used (inserted (place_of h) p) full before 19 (ap (λ b. back_number b full) (sym (none_under found (above_at h) none) ∙ in_is)) (λ z. omega arith)

    module _ (end depth : ℕ) (above above₀ : Above) (l : found ≡ spotted_with end depth above) (is : above₀ ≡ above_at h) (same : Bool) (by : same ≡ same_above above above₀) where
      in_same : same ≡ reversible dim ws (inserted (place_of h) p)
      in_same = by ∙ ap (same_above above) is ∙ sym (ap (λ v. stands_under v (above_at h)) l) ∙ in_is

      pub in_refused : (n : ℕ) → n ≡ back_number same full → (n ≡ 0 → ⊥) → Reversed dim file used (inserted (place_of h) p) full before (refused_with n 0) file
      in_refused n e z = back_refused dim file used (inserted (place_of h) p) full before n (e ∙ ap (λ b. back_number b full) in_same) z

      pub in_done : (k : ℕ) → k ≡ back_number same full → k ≡ 0 → (file' : List ℕ) → file' ≡ extent_out file used above p (end - p) →
          Reversed dim file used (inserted (place_of h) p) full before (made_with (used - 2 * (end - p)) before) file'
      unfolding reversal
      in_done k e z file' f =
          let t = number_zero same full k e z in
          let n = made.remove_length dim file used m below o.even o.within used_here p end depth above (sym o.found_is ∙ l) in
          let w = o.within in
          back_done dim file used (inserted (place_of h) p) full before (sym in_same ∙ t.0) t.1 (omega arith) (used - 2 * (end - p)) file' (sym n)
          (f ∙ made.remove_made dim file used m below o.even o.within used_here p end depth above (sym o.found_is ∙ l))

  -- where the extent of the element that is there ends
  pub in_inside : (end depth : ℕ) (above : Above) → found ≡ spotted_with end depth above → (p < end) × (2 * end ≤ used)
  in_inside end depth above l = made.remove_within dim file used m below o.even o.within used_here p end depth above (sym o.found_is ∙ l)

  ---- what was taken out is put in

  module _ (marker : ℕ) (last : marker ≡ last_place file used) (h : ℕ) (piece : List ℕ) (piece_even : length piece % 2 ≡ 0) (above₀ : Above) (is : above₀ ≡ above_at h) where
    abbrev rec : Rec
    rec = removed (place_of h) p (words piece)

    out_is : reverses_at dim (take used file) marker found 4 above₀ p (words piece) ≡ reversible dim ws rec
    out_is =
        ap (λ v. reverses_at dim (take used file) marker found 4 v p (words piece)) is
        ∙ reverses_is marker last 4 (above_at h) (words piece) ∙ ap (λ q. reversible dim ws (removed q p (words piece))) (header_above h)

    pub out_refused : (n : ℕ) → n ≡ back_number (reverses_at dim (take used file) marker found 4 above₀ p (words piece)) full → (n ≡ 0 → ⊥) →
        Reversed dim file used rec full before (refused_with n 0) file
    out_refused n e z = back_refused dim file used rec full before n (e ∙ ap (λ b. back_number b full) out_is) z

    module _ (k : ℕ) (number : k ≡ back_number (reverses_at dim (take used file) marker found 4 above₀ p (words piece)) full) (zero : k ≡ 0) where
      e : reverses_at dim (take used file) marker found 4 above₀ p (words piece) ≡ true
      e = (number_zero (reverses_at dim (take used file) marker found 4 above₀ p (words piece)) full k number zero).0

      free : full ≡ false
      free = (number_zero (reverses_at dim (take used file) marker found 4 above₀ p (words piece)) full k number zero).1

      out_long : 2 * length (apply dim ws (reversal ws rec)) ≡ used + length piece
      unfolding reversal
      out_long = made.insert_length dim file used m below o.even o.within used_here (place_of h) p piece piece_even

      out_fine : insert_fault dim (spots_of dim ws) ws (header_of (above_at h)) p (words piece) ≡ fine
      unfolding reversible reversal edit_fault
      out_fine = rw (header_above h) (fine_of (edit_fault dim ws (insert (place_of h) p (words piece))) (sym out_is ∙ e))

      pub out_room : length file - used < length piece → Reversed dim file used rec full before (refused_with 15 0) file
      out_room l = let n = out_long in let w = o.within in back_room dim file used rec full before (sym out_is ∙ e) free (omega arith)

      pub out_done : length piece ≤ length file - used → (file' : List ℕ) → file' ≡ piece_in file used above₀ p piece →
          Reversed dim file used rec full before (made_with (used + length piece) before) file'
      unfolding reversal
      out_done l file' f =
          let n = out_long in
          let w = o.within in
          back_done dim file used rec full before (sym out_is ∙ e) free (omega arith) (used + length piece) file' (sym n)
          (f ∙ ap (λ v. piece_in file used v p piece) is ∙ made.insert_made dim file used m below o.even o.within used_here (above_at h) p piece piece_even out_fine (omega arith)
          ∙ ap (λ q. stored file used (apply dim ws (insert q p (words piece)))) (header_above h))

---- undo, by the record that was read

module _ (dim : ℕ) (file : List ℕ) (used : ℕ) (journal : List ℕ) (jused : ℕ) (ready : session_fault dim (session_of file used journal jused) ≡ fine) (some_used : jused ≡ 0 → ⊥)
    (full : Bool) where
  abbrev s : Session
  s = session_of file used journal jused

  abbrev js : List ℕ
  js = words (take jused journal)

  -- a record before which so many bytes are used
  read_back : (rec : Rec) (n p before : ℕ) (r : Result UsedLengths Refusal) (after : List ℕ) → some (rec, take (before / 2) js) ≡ last_record js → RecordWithin (length (take jused journal)) n p before →
      Reversed dim file used rec full before r after → Leaves (undo_told dim s full) r after journal
  read_back rec n p before r after e w v =
      undo_reversed dim s full ready some_used rec (take (before / 2) js) before r after (sym e) (before_length (take jused journal) n p before w) v

  -- the payload of a record stands within the used journal
  module _ (n p before : ℕ) (w : RecordWithin (length (take jused journal)) n p before) where
    payload_within : before + 2 * n ≤ length journal
    payload_within =
        let r = w.room in
        let k = length-take jused journal in
        omega arith

    payload_even : length (take (before + 2 * n - before) (drop before journal)) % 2 ≡ 0
    payload_even =
        let r = payload_within in
        let l : length (take (before + 2 * n - before) (drop before journal)) ≡ 2 * n = simp (length-take, length-drop) (omega arith) in
        omega arith

    payload_words : words (take (before + 2 * n - before) (drop before journal)) ≡ take n (drop (before / 2) js)
    payload_words =
        let r = w.room in
        let k = length-take jused journal in
        part_words journal jused before (before + 2 * n) n w.even refl (omega arith)

  module _ (read : Option Last) (is : LastRead (take jused journal) read) where
    -- what was read, by its case
    case_of : (q : Option Last) → read ≡ q → LastRead (take jused journal) q
    case_of q e = subst (LastRead (take jused journal)) e is

    pub read_bad : read ≡ None → Leaves (undo_told dim s full) (refused_with 19 0) file journal
    read_bad e = undo_bad dim s full ready some_used (sym (case_of None e).is)

    module _ (p n before : ℕ) (e : read ≡ last_flag p n before) where
      flag_within : RecordWithin (length (take jused journal)) n p before
      flag_within = (case_of (last_flag p n before) e).within

      pub read_flags : before + 2 * n ≤ length journal
      read_flags = payload_within n p before flag_within

      pub read_flag : (r : Result UsedLengths Refusal) (after : List ℕ) → Reversed dim file used (flag p (words (take (before + 2 * n - before) (drop before journal)))) full before r after →
          Leaves (undo_told dim s full) r after journal
      read_flag r after v =
          read_back (flag p (take n (drop (before / 2) js))) n p before r after (case_of (last_flag p n before) e).is flag_within
          (subst (λ y. Reversed dim file used (flag p y) full before r after) (payload_words n p before flag_within) v)

    -- the two old words are words
    pub read_name : (p a b before : ℕ) → read ≡ last_renamed p a b before → (a < 65536) × (b < 65536)
    read_name p a b before e = let l = case_of (last_renamed p a b before) e in (l.within.0, l.within.1)

    pub read_renamed : (p a b before : ℕ) → read ≡ last_renamed p a b before → (r : Result UsedLengths Refusal) (after : List ℕ) →
        Reversed dim file used (renamed p a b) full before r after → Leaves (undo_told dim s full) r after journal
    read_renamed p a b before e r after v = let l = case_of (last_renamed p a b before) e in read_back (renamed p a b) 2 p before r after l.is l.within.2 v

    pub read_inserted : (h p before : ℕ) → read ≡ last_inserted h p before → (r : Result UsedLengths Refusal) (after : List ℕ) →
        Reversed dim file used (inserted (place_of h) p) full before r after → Leaves (undo_told dim s full) r after journal
    read_inserted h p before e r after v =
        let l = case_of (last_inserted h p before) e in
        read_back (inserted (place_of h) p) 0 p before r after l.is l.within.1 v

    module _ (h p n before : ℕ) (e : read ≡ last_removed h p n before) where
      removed_within : RecordWithin (length (take jused journal)) n p before
      removed_within = (case_of (last_removed h p n before) e).within.1

      pub read_within : before + 2 * n ≤ length journal
      read_within = payload_within n p before removed_within

      pub read_even : length (take (before + 2 * n - before) (drop before journal)) % 2 ≡ 0
      read_even = payload_even n p before removed_within

      pub read_removed : (r : Result UsedLengths Refusal) (after : List ℕ) →
          Reversed dim file used (removed (place_of h) p (words (take (before + 2 * n - before) (drop before journal)))) full before r after → Leaves (undo_told dim s full) r after journal
      read_removed r after v =
          read_back (removed (place_of h) p (take n (drop (before / 2) js))) n p before r after (case_of (last_removed h p n before) e).is removed_within
          (subst (λ y. Reversed dim file used (removed (place_of h) p y) full before r after) (payload_words n p before removed_within) v)
