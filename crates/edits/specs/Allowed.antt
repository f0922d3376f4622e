-- When an edit is refused, by the file's words alone (RULES.md, "Order of checks": 13, 18, 14, 12, the piece's own, 8).
use Rattle.std.specs.Prelude.{ℕ, ◌+◌, ◌-◌, List, [], ◌∷◌, Bool, true, false, cond, ◌&&◌, ◌||◌, length, eqb, leb, Err, Ok, Result}
use Rattle.std.proofs.Math.Option.{Option, none, some}
use Rattle.refusals.specs.declared.Refusal.{Refusal}
use Rattle.words.specs.Words.{word_at}
use Rattle.names.specs.Names.{name_ok}
use Rattle.kinds.specs.FirstWord.{deleted_of}
use Rattle.headers.specs.Header.{type_at, extent_at}
use Rattle.kinds.specs.Kinds.{is_header, is_cell}
use Rattle.files.specs.Judge.{element_of}
use Rattle.files.specs.Spots.{Spot, spots_of, spot_in}
use Rattle.files.specs.declared.Judgement.{Judgement}
use Rattle.edits.specs.Bits.{flags_ok}
use Rattle.edits.specs.Edits.{Edit, mark, rename, insert, remove, restore, extent_places, down_to}

-- a refusal's number and place, or none
pub data Fault? : Type 0 where
  fine : Fault?
  fault : ℕ → ℕ → Fault?

-- the first of several that is one
abbrev pub or_else : Fault? → Fault? → Fault?
or_else fine rest = rest
or_else (fault n p) rest = fault n p

-- a refusal at place 0 where a test fails
abbrev pub unless : Bool → ℕ → Fault?
unless true n = fine
unless false n = fault n 0

abbrev pub is_some : Option Spot → Bool
is_some none = false
is_some (some x) = true

-- 13 unless an element starts at the place
abbrev pub starts_at : List Spot → ℕ → Bool
starts_at xs p = is_some (spot_in xs p)

-- 14 unless the deleted flag is still to be changed, that of the named element alone
abbrev pub flag_differs : Bool → ℕ → Bool
flag_differs true w = eqb (deleted_of w) 0
flag_differs false w = eqb (deleted_of w) 1

unfoldable pub mark_fault : List Spot → List ℕ → ℕ → Bool → Fault?
mark_fault xs ws p deleted = or_else (unless (starts_at xs p) 13) (unless (flag_differs deleted (word_at ws p)) 14)

-- 18 unless it is a cell, 12 unless the text is a name
unfoldable pub rename_fault : List Spot → List ℕ → ℕ → Bool → Fault?
rename_fault xs ws p named = or_else (unless (starts_at xs p) 13) (or_else (unless (is_cell (type_at ws p)) 18) (unless named 12))

-- whether two header places are the same
abbrev pub same_header : Option ℕ → Option ℕ → Bool
same_header none none = true
same_header none (some b) = false
same_header (some a) none = false
same_header (some a) (some b) = eqb a b

-- an element that starts at the place stands directly under the header (none: at the top)
abbrev pub is_under : Option Spot → Option ℕ → Bool
is_under none h = false
is_under (some x) h = same_header x.header h

abbrev pub ends_at : Option Spot → ℕ → Bool
ends_at none p = false
ends_at (some x) p = eqb x.end p

-- 13 of an insert unless the named header is one, and at the place a direct component of it starts or its list ends; at
-- the top the list ends at the marker
unfoldable pub gap_ok : List Spot → List ℕ → Option ℕ → ℕ → Bool
gap_ok xs ws none p = is_under (spot_in xs p) none || eqb p (length ws - 1)
gap_ok xs ws (some h) p =
    starts_at xs h && (is_header (type_at ws h) && (is_under (spot_in xs p) (some h) || ends_at (spot_in xs h) p))

-- the depth and the type above that a piece under this header has
abbrev pub depth_by : Option Spot → ℕ
depth_by none = 0
depth_by (some x) = x.depth + 1

abbrev pub depth_under : List Spot → Option ℕ → ℕ
depth_under xs none = 0
depth_under xs (some h) = depth_by (spot_in xs h)

abbrev pub type_under : List ℕ → Option ℕ → ℕ
type_under ws none = 0
type_under ws (some h) = type_at ws h

-- one whole extent: words left over last, at the first of them
abbrev pub whole_by : Result Judgement Refusal → ℕ → Fault?
whole_by (Ok judged) size = cond (eqb judged.next size) fine (fault 3 judged.next)
whole_by (Err refusal) size = fault refusal.number refusal.place

-- the refusal of a piece at a depth under a header of a type; places are in the piece
abbrev pub piece_refusal : ℕ → ℕ → ℕ → List ℕ → Fault?
piece_refusal dim depth under x = whole_by (element_of dim depth under x 0 (length x)) (length x)

-- the same, judged at its new depth and header
unfoldable pub piece_fault : ℕ → List Spot → List ℕ → Option ℕ → List ℕ → Fault?
piece_fault dim xs ws h x = piece_refusal dim (depth_under xs h) (type_under ws h) x

-- 8 at the outermost enclosing header that would grow above 65,535 words
abbrev pub room_fault : ℕ → List ℕ → List ℕ → Fault?
room_fault n ws [] = fine
room_fault n ws (q ∷ qs) = cond (leb (extent_at ws q + n) 65535) (room_fault n ws qs) (fault 8 q)

-- an insert's refusal: 13, the piece's own, 8
unfoldable pub insert_fault : ℕ → List Spot → List ℕ → Option ℕ → ℕ → List ℕ → Fault?
insert_fault dim xs ws h p x =
    or_else (unless (gap_ok xs ws h p) 13) (or_else (piece_fault dim xs ws h x) (room_fault (length x) ws (down_to xs h)))

-- a remove's refusal: 13
unfoldable pub remove_fault : List Spot → ℕ → Fault?
remove_fault xs p = unless (starts_at xs p) 13

-- a restore's: 13, then 19 unless the flags are as many words as the extent needs, with no spare bit set
unfoldable pub restore_fault : List Spot → ℕ → List ℕ → Fault?
restore_fault xs p x = or_else (unless (starts_at xs p) 13) (unless (flags_ok (length (extent_places xs p)) x) 19)

-- the refusal of an edit on a file's words
unfoldable pub edit_fault : ℕ → List ℕ → Edit → Fault?
edit_fault dim ws (mark p deleted) = mark_fault (spots_of dim ws) ws p deleted
edit_fault dim ws (rename p a b) = rename_fault (spots_of dim ws) ws p (name_ok a b)
edit_fault dim ws (insert h p x) = insert_fault dim (spots_of dim ws) ws h p x
edit_fault dim ws (remove p) = remove_fault (spots_of dim ws) p
edit_fault dim ws (restore p x) = restore_fault (spots_of dim ws) p x
