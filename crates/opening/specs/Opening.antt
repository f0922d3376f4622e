-- Opening a session: 1, the file's own refusals, then 1 if the marker is found before the last used word (RULES.md,
-- "Sessions"). With it what a call's arguments stand for: its two buffers for a session, a header place for one or none.
use Rattle.std.specs.Prelude.{ℕ, ◌-◌, ◌≡◌, List, length, Result}
use Rattle.std.proofs.Math.Option.{Option, none, some}
use Rattle.edits.specs.Allowed.{Fault?, fine, fault}
use Rattle.edits.specs.Calls.{Index, Session, used_words, session_fault}
use Rattle.places.specs.declared.Above.{Above}
use Rattle.places.specs.declared.Above.TheVariants.{Top, Under}
use Rattle.places.specs.Descent.{locate_of}
use Rattle.places.specs.Placed.{placed_with}
use Rattle.places.specs.declared.Placed.{Placed}
use Rattle.refusals.specs.Refusals.{refused_with}
use Rattle.refusals.specs.declared.Refusal.{Refusal}

-- the marker's place, which is the last of the words, and what starts at a place before it, or the refusal
abbrev pub opened_by : Fault? → List ℕ → ℕ → Result Placed Refusal
opened_by fine ws at = placed_with (length ws - 1) (locate_of ws at (length ws - 1))
opened_by (fault n p) ws at = refused_with n p

-- a session: the file's buffer and used length, the journal's buffer and used length, and an index or none
abbrev pub session_with : List ℕ → ℕ → List ℕ → ℕ → Option Index → Session
session_with file used journal jused index = record { file = file; used = used; journal = journal; jused = jused; index = index }

-- one that is lent no index
abbrev pub session_of : List ℕ → ℕ → List ℕ → ℕ → Session
session_of file used journal jused = session_with file used journal jused none

-- the header place that is named, none for the top
abbrev pub header_of : Above → Option ℕ
header_of Top = none
header_of (Under h) = some h

-- what opening answers, with every journal of so many bytes: of a journal it looks at its lengths alone
abbrev pub OpenedAs : ℕ → List ℕ → ℕ → ℕ → ℕ → ℕ → Result Placed Refusal → Type 0
OpenedAs dim file used size jused at r =
    (journal : List ℕ) → length journal ≡ size →
    r ≡ opened_by (session_fault dim (session_of file used journal jused)) (used_words file used) at
