-- What a mark that is made does to the file, and what its undo gives back (RULES.md, "Edits", "Undo").
use Rattle.std.specs.Prelude.{ℕ, ◌+◌, ◌≤◌, ◌<◌, ◌≡◌, Bool, true, false, List, length}
use Rattle.words.specs.Words.{words, word_at, Below}
use Rattle.files.specs.Judge.{judge_of}
use Rattle.files.specs.Spots.{Spot, spots_of}
use Rattle.files.specs.Accepted.{accepted_with}
use Rattle.edits.specs.Edits.{mark, extent_in, extent_places, flagged, with_flags, apply}
use Rattle.edits.specs.Allowed.{starts_at}
use Rattle.edits.specs.Records.{record_of, reversal, reversible}
use Rattle.edits.specs.Calls.{Session, size_of, afresh, mark_call, undo_call, words_of, step}
use Rattle.edits.specs.Book.{was_refused}
use Rattle.edits.specs.Demand.{used_bytes}

-- an element of the extent of the one at p starts at q
pub record InExtent (xs : List Spot) (p q : ℕ) : Type 0 where
  pub starts : starts_at xs q ≡ true
  pub from : p ≤ q
  pub before : q < p + extent_in xs p

-- the words vs are the file's words ws with the extent of the element at p marked
pub record MarkedIn (dim : ℕ) (ws : List ℕ) (p : ℕ) (deleted : Bool) (vs : List ℕ) : Type 0 where
  -- every element in the extent has the flag, and the other bits of its first word are as they were
  pub flags : (q : ℕ) → InExtent (spots_of dim ws) p q → word_at vs q ≡ flagged deleted (word_at ws q)
  -- no other word changed
  pub others : (i : ℕ) → (InExtent (spots_of dim ws) p i → ⊥) → word_at vs i ≡ word_at ws i
  -- and there are as many words
  pub long : length vs ≡ length ws

-- the session after a mark
abbrev pub after_mark : ℕ → Session → ℕ → Bool → Session
after_mark dim s p deleted = (step dim s (mark_call p deleted)).after

-- after a mark that is made every element in the extent has the flag, and no other word of the file changed
abbrev pub MarkMarks : Type 0
MarkMarks =
    (dim : ℕ) (s : Session) (p : ℕ) (deleted : Bool) → Below 256 s.file → was_refused (step dim s (mark_call p deleted)).answer ≡ false →
    MarkedIn dim (words_of s) p deleted (words_of (after_mark dim s p deleted))

-- and judging answers the same of the file
abbrev pub MarkJudged : Type 0
MarkJudged =
    (dim : ℕ) (s : Session) (p : ℕ) (deleted : Bool) → Below 256 s.file → was_refused (step dim s (mark_call p deleted)).answer ≡ false →
    judge_of dim (used_bytes (after_mark dim s p deleted)) ≡ judge_of dim (used_bytes s)

-- an undo of the session t is made, and gives back the file's bytes of the session s, those behind the used ones too, and both
-- used lengths
pub record GivesBack (dim : ℕ) (s t : Session) : Type 0 where
  pub made : was_refused (step dim t undo_call).answer ≡ false
  pub file : (step dim t undo_call).after.file ≡ s.file
  pub used : (step dim t undo_call).after.used ≡ s.used
  pub jused : (step dim t undo_call).after.jused ≡ s.jused
  -- a lent index is then that of the file of s
  pub index : (step dim t undo_call).after.index ≡ afresh dim (words_of s) (size_of s.index)

-- a mark and its undo give the same bytes, whatever mixture of flags the extent had
abbrev pub MarkUndone : Type 0
MarkUndone =
    (dim : ℕ) (s : Session) (p : ℕ) (deleted : Bool) → Below 256 s.file → Below 256 s.journal →
    was_refused (step dim s (mark_call p deleted)).answer ≡ false → GivesBack dim s (after_mark dim s p deleted)

-- the words with any flags in the extent of the element at p
abbrev pub reflagged : ℕ → List ℕ → ℕ → List Bool → List ℕ
reflagged dim ws p bs = with_flags (extent_places (spots_of dim ws) p) bs ws

-- a mark's record gives the words back whatever flags stand in the extent then
abbrev pub FlagsBack : Type 0
FlagsBack =
    (dim : ℕ) (s : List ℕ) (e d m p : ℕ) (deleted : Bool) (bs : List Bool) → Below 256 s → judge_of dim s ≡ accepted_with e d m → m + 1 ≡ length (words s) →
    starts_at (spots_of dim (words s)) p ≡ true →
    (reversible dim (reflagged dim (words s) p bs) (record_of dim (words s) (mark p deleted)) ≡ true)
    × (apply dim (reflagged dim (words s) p bs) (reversal (reflagged dim (words s) p bs) (record_of dim (words s) (mark p deleted))) ≡ words s)
