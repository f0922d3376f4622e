-- When an insert is refused, by what was found at its place and at its header's, not by the list of all elements. On an
-- accepted file this is the refusal of edits' specs/Allowed (proofs/ExactInserts). ws are the used words, marker is the last
-- one's place, found is what starts at the place p.
use Rattle.std.specs.Prelude.{ℕ, ◌+◌, List, cond, ◌||◌, length, eqb, Err, None, Ok, Option, Result, Some}
use Rattle.words.specs.Words.{words}
use Rattle.headers.specs.Header.{type_at}
use Rattle.kinds.specs.Kinds.{is_header}
use Rattle.places.specs.declared.Above.{Above}
use Rattle.places.specs.declared.Above.TheVariants.{Top, Under}
use Rattle.places.specs.Descent.{locate_of}
use Rattle.edits.specs.Allowed.{Fault?, fine, fault, or_else, unless, piece_refusal}
use Rattle.totals.specs.Totals.{room_of, room_fault_by}
use Rattle.faults.specs.Faults.{stands_under}
use Rattle.faults.specs.Components.{listed_with}
use Rattle.faults.specs.declared.Components.{Components}
use Rattle.places.specs.declared.Spotted.{Spotted}
use Rattle.refusals.specs.Refusals.{refused_with}
use Rattle.refusals.specs.declared.Refusal.{Refusal}

-- the components under a named header: where their list ends, their depth and the header's type
abbrev pub components_by : Result Spotted Refusal → ℕ → Option Components
components_by (Ok spot) type = cond (is_header type) (listed_with spot.end (spot.depth + 1) type) None
components_by (Err refusal) type = None

-- at the top the list ends at the marker
abbrev pub components_of : List ℕ → ℕ → Above → Option Components
components_of ws marker Top = listed_with marker 0 0
components_of ws marker (Under h) = components_by (locate_of ws h marker) (type_at ws h)

-- 8 at the outermost enclosing header that would grow too large by n words; s are the used bytes
abbrev pub room_under : List ℕ → Above → ℕ → Fault?
room_under s Top n = fine
room_under s (Under h) n = room_fault_by (room_of n h s)

-- an insert's refusal: 13, the piece's own, 8
abbrev pub insert_in : Option Components → ℕ → List ℕ → Result Spotted Refusal → Above → ℕ → List ℕ → Fault?
insert_in None dim s found header p x = fault 13 0
insert_in (Some list) dim s found header p x =
    or_else (unless (stands_under found header || eqb list.end p) 13)
    (or_else (piece_refusal dim list.depth list.under x) (room_under s header (length x)))

unfoldable pub insert_refusal : ℕ → List ℕ → ℕ → Result Spotted Refusal → Above → ℕ → List ℕ → Fault?
insert_refusal dim s marker found header p x = insert_in (components_of (words s) marker header) dim s found header p x

-- the answer for a refusal or none
abbrev pub answer_of : Fault? → Result Unit Refusal
answer_of fine = (Ok tt)
answer_of (fault n p) = refused_with n p
