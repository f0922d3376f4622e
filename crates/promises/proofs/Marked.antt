-- A mark writes flags alone, so the words after it are those of which `edits` says that they have the same elements: marked words are
-- known word by word.
use Prim.Native.Nat.{ℕ, ◌+◌, ◌-◌}
use mathlib.Core.Path.{◌≡◌, refl, sym, ap, ◌∙◌}
use mathlib.Core.Bool.{Bool, true, false, false≢true}
use mathlib.Core.List.{List}
use native.Mathlib.Omega.{arith}
use lib.ListN.{length, take, replicate}
use lib.Seq.{ext_get_or}
use lib.Dec.{leb, ltb}
use borrow.Author.Tests.{leb-true, leb-false, ltb-true, ltb-false}
use Rattle.words.specs.Words.{Below, word_at}
use Rattle.words.proofs.Laws.{words_below}
use Rattle.files.specs.Judge.{top_of}
use Rattle.files.specs.Spots.{spots_of}
use Rattle.edits.specs.Edits.{mark, extent_in, extent_places, apply}
use Rattle.edits.specs.Allowed.{fine, unless, starts_at, flag_differs, mark_fault, edit_fault}
use Rattle.edits.specs.Calls.{Session, mark_call, words_of, session_ok, file_fault, session_fault, open_fault, step}
use Rattle.edits.specs.Book.{was_refused}
use Rattle.edits.specs.Made.{Allowed}
use Rattle.edits.specs.Marks.{InExtent, MarkedIn}
use Rattle.edits.proofs.Accepted.{Accepted}
use Rattle.edits.proofs.Bounds.{below_take}
use Rattle.edits.proofs.Faults.{or_else_fine, unless_fine}
use Rattle.edits.proofs.Tested.{ready_tested}
use Rattle.edits.proofs.MarkSound.{flags_spots}
use Rattle.edits.proofs.Allowed.{made_exactly}
use Rattle.edits.proofs.Demand.{file_tree}
use Rattle.edits.proofs.Every.{hypotheses}
use Rattle.edits.proofs.Marks.{marked_in, mark_marks}
use Rattle.promises.specs.Marked.{MarkElements}

-- two lists of words that are the same words marked are the same
marked_same : (dim : ℕ) (ws : List ℕ) (p : ℕ) (deleted : Bool) (us vs : List ℕ) → MarkedIn dim ws p deleted us → MarkedIn dim ws p deleted vs → us ≡ vs
marked_same dim ws p deleted us vs a b =
    ext_get_or 0 us vs (a.long ∙ sym b.long) (λ i h. go i (starts_at (spots_of dim ws) i) refl (leb p i) refl (ltb i (p + extent_in (spots_of dim ws) p)) refl)
  where
    out : (i : ℕ) → (InExtent (spots_of dim ws) p i → ⊥) → word_at us i ≡ word_at vs i
    out i n = a.others i n ∙ sym (b.others i n)

    go : (i : ℕ) (s : Bool) → starts_at (spots_of dim ws) i ≡ s → (l : Bool) → leb p i ≡ l → (h : Bool) → ltb i (p + extent_in (spots_of dim ws) p) ≡ h → word_at us i ≡ word_at vs i
    go i true s true l true h =
        let here : InExtent (spots_of dim ws) p i = record { starts = s; from = leb-true p i l; before = ltb-true i (p + extent_in (spots_of dim ws) p) h } in
        a.flags i here ∙ sym (b.flags i here)
    go i false s l m h n = out i (λ x. false≢true (sym s ∙ x.starts))
    go i true s false l h n = out i (λ x. let y = leb-false p i l in let z = x.from in omega arith)
    go i true s true l false h = out i (λ x. let y = ltb-false i (p + extent_in (spots_of dim ws) p) h in let z = x.before in omega arith)

module _ (dim : ℕ) (s : Session) (p : ℕ) (deleted : Bool) (below : Below 256 s.file) (made : was_refused (step dim s (mark_call p deleted)).answer ≡ false) where
  allowed : Allowed dim s (mark_call p deleted) (mark p deleted)
  allowed = (made_exactly dim s (mark_call p deleted) (mark p deleted) refl).0 made

  ready : session_fault dim s ≡ fine
  unfolding open_fault
  ready = allowed.opens

  tree : Accepted dim (words_of s)
  unfolding session_fault
  tree =
      file_tree dim (hypotheses dim) (words_of s) (words_below (take s.used s.file) (below_take 256 s.used s.file (omega arith) below)) (ready_tested dim s ready).ends
      (or_else_fine (unless (session_ok dim s) 1) (file_fault (top_of dim (words_of s)) (length (words_of s) - 1)) ready).1

  there : starts_at (spots_of dim (words_of s)) p ≡ true
  unfolding edit_fault mark_fault
  there =
      let xs = spots_of dim (words_of s) in
      unless_fine (starts_at xs p) 13 (or_else_fine (unless (starts_at xs p) 13) (unless (flag_differs deleted (word_at (words_of s) p)) 14) allowed.own).0

  elements : spots_of dim (apply dim (words_of s) (mark p deleted)) ≡ spots_of dim (words_of s)
  unfolding apply
  elements = flags_spots dim (words_of s) p (replicate (length (extent_places (spots_of dim (words_of s)) p)) deleted) tree there

pub mark_elements : MarkElements
mark_elements dim s p deleted below made =
    ap (spots_of dim) (marked_same dim (words_of s) p deleted _ _ (mark_marks dim s p deleted below made) (marked_in dim s p deleted below made)) ∙ elements dim s p deleted below made
