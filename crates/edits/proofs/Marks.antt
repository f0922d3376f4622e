-- A mark that is made, by its extent: its flags (`Alike`), the same elements (`flags_spots`), and undone the same bytes of the
-- whole buffer, since the used part keeps its length.
use Prim.Native.Nat.{ℕ, ◌+◌, ◌-◌, ◌*◌, ◌%◌, ◌≤◌, max}
use native.Mathlib.Omega.{arith}
use mathlib.Core.Path.{◌≡◌, refl, sym, ap, ◌∙◌, subst}
use mathlib.Core.Bool.{Bool, true, false, and-eq-true_iff}
use mathlib.Core.List.{List, ◌++◌}
use lib.ListN.{length, take, drop, replicate, length-append, take-append-drop}
use lib.Seq.{drop_at}
use lib.Dec.{eqb, leb}
use borrow.Author.Tests.{le-leb, leb-true, eq-eqb}
use Rattle.words.specs.Words.{words, bytes, word_at, Below}
use Rattle.words.proofs.Laws.{length_bytes, words_below}
use Rattle.files.specs.Judge.{top_of, answer, judge_of}
use Rattle.limits.specs.Limits.{call_ok}
use Rattle.files.specs.Spots.{deepest, spots_of}
use Rattle.files.specs.Accepted.{accepted_with}
use Rattle.grammar.proofs.Forest.{flat}
use Rattle.grammar.proofs.Exact.{accepted_is}
use Rattle.edits.specs.Edits.{mark, extent_in, places_from, extent_places, apply}
use Rattle.edits.specs.Allowed.{fine, unless, starts_at, flag_differs, mark_fault, edit_fault}
use Rattle.edits.specs.Records.{record_of, reversal, reversible}
use Rattle.edits.specs.Calls.{Session, size_of, index_fits, room_for, afresh, mark_call, undo_call, words_of, journal_of, ends_in_marker, session_ok, file_fault, session_fault, open_fault, stored, record_by, edit_made, undo_made, step}
use Rattle.edits.specs.Book.{was_refused}
use Rattle.edits.specs.Demand.{used_bytes}
use Rattle.edits.specs.Made.{Allowed}
use Rattle.edits.specs.Marks.{MarkedIn, after_mark, MarkMarks, MarkJudged, GivesBack, MarkUndone, FlagsBack}
use Rattle.edits.proofs.Accepted.{Accepted, Sound}
use Rattle.edits.proofs.Bounds.{below_take}
use Rattle.edits.proofs.Faults.{or_else_fine, unless_fine}
use Rattle.edits.proofs.Tested.{used_parts, session_ok_lem, ready_tested, used_call}
use Rattle.edits.proofs.Flags.{flags_beside, type_flags}
use Rattle.edits.proofs.Alike.{place_in, place_out, alike_there}
use Rattle.edits.proofs.Lengths.{length_mark}
use Rattle.edits.proofs.Judging.{judged_top, judged_tree, tree_judged}
use Rattle.edits.proofs.MarkSound.{mark_sound, flags_spots, extent_within, flags_return}
use Rattle.edits.proofs.Journal.{record_below, record_long}
use Rattle.edits.proofs.Buffers.{Holds, used_holds, holds_ok, holds_stored, holds_pushed, holds_bytes, marker_ends}
use Rattle.edits.proofs.Allowed.{made_exactly, step_made}
use Rattle.edits.proofs.Demand.{file_tree}
use Rattle.edits.proofs.Undos.{step_undo, undone_last}
use Rattle.edits.proofs.Indexed.{index_size, index_ok_lem, cells_same, fits_same}
use Rattle.edits.proofs.Every.{hypotheses}

---- the file of a session that opens

module _ (dim : ℕ) (s : Session) (ready : session_fault dim s ≡ fine) where
  file_fine : file_fault (top_of dim (words_of s)) (length (words_of s) - 1) ≡ fine
  unfolding session_fault
  file_fine = (or_else_fine (unless (session_ok dim s) 1) (file_fault (top_of dim (words_of s)) (length (words_of s) - 1)) ready).1

  session_tree : Below 256 s.file → Accepted dim (words_of s)
  session_tree b =
      file_tree dim (hypotheses dim) (words_of s) (words_below (take s.used s.file) (below_take 256 s.used s.file (omega arith) b)) (ready_tested dim s ready).ends file_fine

---- judging

-- an accepted file of an allowed length, with its marker last
record Judged (dim : ℕ) (u : List ℕ) : Type 0 where
  elements : ℕ
  deep : ℕ
  is : judge_of dim u ≡ accepted_with elements deep (length (words u) - 1)

tree_accepted : (dim : ℕ) (u : List ℕ) → call_ok dim u ≡ true → Accepted dim (words u) → Judged dim u
unfolding judge_of
tree_accepted dim u c a = let v = tree_judged dim (words u) a in record { elements = v.0; deep = v.1; is = rw (c, v.3) refl }

-- two such files with as many words and the same elements are judged alike
judged_alike : (dim : ℕ) (u v : List ℕ) → call_ok dim u ≡ true → call_ok dim v ≡ true → Accepted dim (words u) → Accepted dim (words v) → length (words v) ≡ length (words u) →
    spots_of dim (words v) ≡ spots_of dim (words u) → judge_of dim v ≡ judge_of dim u
judged_alike dim u v c d a b long same =
    let j = tree_accepted dim u c a in
    let k = tree_accepted dim v d b in
    let x = accepted_is dim u j.elements j.deep (length (words u) - 1) j.is in
    let y = accepted_is dim v k.elements k.deep (length (words v) - 1) k.is in
    let e : k.elements ≡ j.elements = y.elements ∙ ap length same ∙ sym x.elements in
    let f : k.deep ≡ j.deep = y.deep ∙ ap deepest same ∙ sym x.deep in
    k.is ∙ rw (e, f, long) (sym j.is)

call_same : (dim : ℕ) (u v : List ℕ) → length v ≡ length u → call_ok dim u ≡ true → call_ok dim v ≡ true
unfolding call_ok
call_same dim u v e c = rw e c

---- words stored over as many

stored_over : (s : List ℕ) (n : ℕ) (x : List ℕ) → n ≡ 2 * length x → stored s n x ≡ bytes x ++ drop n s
unfolding stored
stored_over s n x e =
    let none : n - 2 * length x ≡ 0 = omega arith in
    let most : max n (2 * length x) ≡ n = omega arith in
    rw (none, most) refl

-- and the old ones over those
stored_back : (s : List ℕ) (n : ℕ) (x ws : List ℕ) → length x ≡ length ws → n ≡ 2 * length ws → take n s ≡ bytes ws → stored (stored s n x) (2 * length x) ws ≡ s
stored_back s n x ws l e b =
    let same : 2 * length x ≡ n = omega arith in
    stored_over (stored s n x) (2 * length x) ws (omega arith)
    ∙ ap (λ y. bytes ws ++ drop (2 * length x) y) (stored_over s n x (sym same))
    ∙ ap (λ y. bytes ws ++ y) (drop_at (bytes x) (drop n s) (2 * length x) (length_bytes x))
    ∙ ap (λ y. y ++ drop n s) (sym b)
    ∙ take-append-drop n s

---- a mark that is made

module _ (dim : ℕ) (s : Session) (p : ℕ) (deleted : Bool) (below : Below 256 s.file) (made : was_refused (step dim s (mark_call p deleted)).answer ≡ false) where
  allowed : Allowed dim s (mark_call p deleted) (mark p deleted)
  allowed = (made_exactly dim s (mark_call p deleted) (mark p deleted) refl).0 made

  abbrev ws : List ℕ
  ws = words_of s

  abbrev after : List ℕ
  after = apply dim ws (mark p deleted)

  ready : session_fault dim s ≡ fine
  unfolding open_fault
  ready = allowed.opens

  tree : Accepted dim ws
  tree = session_tree dim s ready below

  holds : Holds (length s.file) s.file s.used ws
  holds = used_holds s.file s.used below (ready_tested dim s ready).file

  there : starts_at (spots_of dim ws) p ≡ true
  unfolding edit_fault mark_fault
  there = unless_fine (starts_at (spots_of dim ws) p) 13 (or_else_fine (unless (starts_at (spots_of dim ws) p) 13) (unless (flag_differs deleted (word_at ws p)) 14) allowed.own).0

  limit : length ws ≤ 524288
  limit =
      let u = used_parts (length s.file) s.used (ready_tested dim s ready).file in
      let most = leb-true (length s.file) 1048576 ((and-eq-true_iff (eqb (length s.file % 2) 0) (leb (length s.file) 1048576)).0 u.size_ok_lem).1 in
      let a = holds.used in
      let b = u.within in
      omega arith

  sound : Sound dim ws (mark p deleted)
  sound = mark_sound dim ws p deleted tree limit allowed.own

  result : step dim s (mark_call p deleted) ≡ edit_made dim s after (record_by dim s (mark p deleted))
  result = step_made dim s (mark_call p deleted) (mark p deleted) refl allowed

  abbrev t : Session
  t = (edit_made dim s after (record_by dim s (mark p deleted))).after

  after_is : after_mark dim s p deleted ≡ t
  after_is = ap (λ r. r.after) result

  holds_after : Holds (length s.file) t.file t.used after
  unfolding edit_made
  holds_after = holds_stored holds after sound.kept.below allowed.file_room

  pub marked_in : MarkedIn dim ws p deleted after
  unfolding apply extent_places
  marked_in =
      let xs = spots_of dim ws in
      let end = p + extent_in xs p in
      let qs = places_from xs p end in
      let room = extent_within dim ws p tree there in
      record {
        flags = λ q i. let h = i.before in alike_there qs deleted ws q (place_in xs p end q i.starts i.from i.before) (omega arith);
        others = λ i o. (flags_beside qs (replicate (length qs) deleted) ws).same i (place_out xs p end i (λ a b c. o (record { starts = a; from = b; before = c })));
        long = length_mark dim ws p deleted;
      }

  spots_same : spots_of dim after ≡ spots_of dim ws
  unfolding apply
  spots_same = flags_spots dim ws p (replicate (length (extent_places (spots_of dim ws) p)) deleted) tree there

  pub mark_marks' : MarkedIn dim ws p deleted (words_of (after_mark dim s p deleted))
  mark_marks' = rw (after_is, holds_after.words) marked_in

  pub mark_judged' : judge_of dim (used_bytes (after_mark dim s p deleted)) ≡ judge_of dim (used_bytes s)
  mark_judged' =
      let a = ap length (holds_bytes (length s.file) s.file s.used ws holds) ∙ length_bytes ws in
      let b = ap length (holds_bytes (length s.file) t.file t.used after holds_after) ∙ length_bytes after in
      let n = length_mark dim ws p deleted in
      let long : length (used_bytes t) ≡ length (used_bytes s) = omega arith in
      let c = used_call (ready_tested dim s ready) in
      let w = holds_after.words in
      ap (λ v. judge_of dim (used_bytes v)) after_is
      ∙ judged_alike dim (used_bytes s) (used_bytes t) c (call_same dim (used_bytes s) (used_bytes t) long c) tree (subst (Accepted dim) (sym w) sound.kept)
      (ap length w ∙ n) (ap (spots_of dim) w ∙ spots_same)

  module _ (jbelow : Below 256 s.journal) where
    jholds : Holds (length s.journal) s.journal s.jused (journal_of s)
    jholds = used_holds s.journal s.jused jbelow (ready_tested dim s ready).journal

    jholds_after : Holds (length s.journal) t.journal t.jused (journal_of s ++ record_by dim s (mark p deleted))
    unfolding edit_made
    jholds_after = holds_pushed jholds (record_by dim s (mark p deleted)) (record_below (record_of dim ws (mark p deleted)) sound.small) allowed.journal_room

    after_ready : session_fault dim t ≡ fine
    unfolding session_fault edit_made
    after_ready =
        let q = ready_tested dim s ready in
        let v = tree_judged dim after sound.kept in
        let ok = session_ok_lem {dim = dim} {s = t} (record {
          index = index_ok_lem dim after (size_of s.index) allowed.index_room;
          dimension = q.dimension;
          file = holds_ok holds_after s.file refl (used_parts (length s.file) s.used q.file).size_ok_lem;
          journal = holds_ok jholds_after s.journal refl (used_parts (length s.journal) s.jused q.journal).size_ok_lem;
          ends = ap ends_in_marker (holds_after.words ∙ sound.kept.words) ∙ marker_ends (flat sound.kept.tree);
        }) in
        rw (ok, holds_after.words, v.3, eq-eqb (length after - 1) (length after - 1) refl) refl

    -- as many cells as before, so the index fits
    cells_fit : index_fits dim ws (size_of s.index) ≡ true
    unfolding apply
    cells_fit =
        let qs = extent_places (spots_of dim ws) p in
        fits_same dim after ws (size_of s.index) (cells_same dim after ws (λ i. type_flags qs (replicate (length qs) deleted) ws i) spots_same) allowed.index_room

    undone_is : step dim t undo_call ≡ undo_made dim t ws (2 * length (journal_of s))
    unfolding edit_made
    undone_is =
        let six = record_long (record_of dim ws (mark p deleted)) in
        let more = length-append (journal_of s) (record_by dim s (mark p deleted)) in
        let j = jholds_after.used in
        let w = holds.within in
        let u = holds.used in
        let l = holds_after.whole in
        let size = index_size dim after (size_of s.index) allowed.index_room in
        let beside : index_fits dim ws (size_of t.index) ≡ true = rw size cells_fit in
        let file_room : leb (2 * length ws) (length t.file) ≡ true = le-leb (2 * length ws) (length t.file) (omega arith) in
        step_undo dim t after_ready
        ∙ undone_last dim t ws (journal_of s) (mark p deleted) holds_after.words jholds_after.words sound (λ z. omega arith) ((and-eq-true_iff _ _).1 (beside, file_room))

    -- the old words stored over the new ones
    file_back : stored t.file t.used ws ≡ s.file
    unfolding edit_made
    file_back =
        stored_back s.file s.used after ws (length_mark dim ws p deleted) holds.used (holds_bytes (length s.file) s.file s.used ws holds)

    size_back : size_of t.index ≡ size_of s.index
    unfolding edit_made
    size_back = index_size dim after (size_of s.index) allowed.index_room

    pub mark_undone' : GivesBack dim s (after_mark dim s p deleted)
    unfolding undo_made
    mark_undone' =
        let r = ap (λ v. step dim v undo_call) after_is ∙ undone_is in
        record {
          made = ap (λ v. was_refused v.answer) r;
          file = ap (λ v. v.after.file) r ∙ file_back;
          used = ap (λ v. v.after.used) r ∙ sym holds.used;
          jused = ap (λ v. v.after.jused) r ∙ sym jholds.used;
          index = ap (λ v. v.after.index) r ∙ ap (afresh dim ws) size_back;
        }

---- the statements

pub mark_marks : MarkMarks
mark_marks = mark_marks'

pub mark_judged : MarkJudged
mark_judged = mark_judged'

pub mark_undone : MarkUndone
mark_undone dim s p deleted b j made = mark_undone' dim s p deleted b made j

pub flags_back : FlagsBack
unfolding record_of reversal reversible
flags_back dim s e d m p deleted bs b j last there =
    let top = judged_top dim s e d m j in
    let r = flags_return dim (words s) p bs (judged_tree dim (words s) m e d top.0 (words_below s b) top.1 last) there in
    (rw r.0 refl, r.1)
