-- What is promised of plates.
use Rattle.std.specs.Prelude.{ℕ, ◌+◌, ◌≤◌, ◌<◌, ◌≡◌, ◌≢◌, true, false, List, [], ◌∷◌, ◌++◌, length, get_or, Ok}
use Rattle.std.proofs.Math.Option.{some}
use Rattle.refusals.specs.Refusals.{refused_with}
use Rattle.words.specs.Words.{words, Below}
use Rattle.kinds.specs.Kinds.{is_cell}
use Rattle.headers.specs.Header.{type_at}
use Rattle.files.specs.Judge.{judge_of}
use Rattle.files.specs.Refused.{RefusedBy}
use Rattle.files.specs.Spots.{Spot, spots_of, spot_in}
use Rattle.files.specs.Accepted.{accepted_with}
use Rattle.places.specs.Extents.{extent_bytes}
use Rattle.edits.specs.Calls.{Session, mark_call, words_of, step}
use Rattle.edits.specs.Book.{was_refused}
use Rattle.edits.specs.Demand.{used_bytes}
use Rattle.edits.specs.Marks.{after_mark}
use Rattle.plates.specs.Kinds.{is_kind}
use Rattle.plates.specs.Plates.{live_direct, plate_on, plate_at, counts_of, plate_numbers, plate_of}
use Rattle.plates.specs.Hops.{plate_in}
use Rattle.plates.specs.declared.Plate.{Plate}

---- the call

-- how it is refused: as judging refuses the file, or with 13 or 18 at 0
abbrev pub PlateRefused : Type 0
PlateRefused = (dim : ℕ) (s : List ℕ) (at n p : ℕ) → plate_of dim s at ≡ refused_with n p → RefusedBy dim s (13 ∷ 18 ∷ []) n p

-- of an element of an accepted file: a cell has its plate, deleted or not; 18 of any other. In words that were judged it is what is
-- found by extents alone
pub record Gives (dim : ℕ) (s : List ℕ) (at : ℕ) : Type 0 where
  pub cell : is_cell (type_at (words s) at) ≡ true → plate_of dim s at ≡ Ok (plate_at dim (words s) at)
  pub other : is_cell (type_at (words s) at) ≡ false → plate_of dim s at ≡ refused_with 18 0
  pub judged : plate_in (words s) at ≡ plate_of dim s at

abbrev pub PlateGiven : Type 0
PlateGiven =
    (dim : ℕ) (s : List ℕ) (at e d m : ℕ) (x : Spot) → judge_of dim s ≡ accepted_with e d m → spot_in (spots_of dim (words s)) at ≡ some x → Gives dim s at

---- the counts

abbrev pub sum : List ℕ → ℕ
sum [] = 0
sum (n ∷ ns) = n + sum ns

-- the six add up to the number of live direct components
abbrev pub CountsAddUp : Type 0
CountsAddUp = (dim : ℕ) (s : List ℕ) (at : ℕ) (a : Plate) → plate_of dim s at ≡ Ok a → sum (counts_of a) ≡ length (live_direct dim (words s) at)

-- the counts b are the counts a with one more of kind number `kind`
pub record OneMore (a b : List ℕ) (kind : ℕ) : Type 0 where
  pub six : kind < 6
  pub more : get_or b kind 0 ≡ get_or a kind 0 + 1
  pub others : (k : ℕ) → k ≢ kind → get_or b k 0 ≡ get_or a k 0

-- an element at q, among some others, is counted in exactly one kind: the one whose type it has
pub record CountedIn (ws : List ℕ) (at q : ℕ) (before after : List ℕ) : Type 0 where
  pub kind : ℕ
  pub of_kind : is_kind kind (type_at ws q) ≡ true
  pub no_other : (k : ℕ) → is_kind k (type_at ws q) ≡ true → k ≡ kind
  pub counted : OneMore (counts_of (plate_on ws at (before ++ after))) (counts_of (plate_on ws at (before ++ (q ∷ after)))) kind

abbrev pub CountedOnce : Type 0
CountedOnce =
    (dim : ℕ) (s : List ℕ) (at q : ℕ) (before after : List ℕ) → live_direct dim (words s) at ≡ before ++ (q ∷ after) → CountedIn (words s) at q before after

-- levels are at most 64
abbrev pub LevelsMost : Type 0
LevelsMost = (dim : ℕ) (s : List ℕ) (at : ℕ) (a : Plate) → plate_of dim s at ≡ Ok a → a.levels ≤ 64

-- every number of a plate is below 65,536
abbrev pub PlateWithin : Type 0
PlateWithin = (dim : ℕ) (s : List ℕ) (at : ℕ) (a : Plate) → Below 256 s → plate_of dim s at ≡ Ok a → Below 65536 (plate_numbers a)

---- marks

-- the plate of the cell at h before the element at p was marked deleted, and after it
pub record Lowered (dim : ℕ) (s t : List ℕ) (h p : ℕ) (before : Plate) : Type 0 where
  pub after : Plate
  pub is : plate_of dim t h ≡ Ok after
  pub kind : ℕ
  pub of_kind : is_kind kind (type_at (words s) p) ≡ true
  pub less : OneMore (counts_of after) (counts_of before) kind
  pub first : after.first ≡ before.first
  pub second : after.second ≡ before.second
  pub levels : after.levels ≡ before.levels

-- a mark that is made deleted of an element x, directly under a cell at h, lowers exactly one count of the cell's plate, by one
abbrev pub MarkLowers : Type 0
MarkLowers =
    (dim : ℕ) (s : Session) (p h : ℕ) (x : Spot) (before : Plate) → Below 256 s.file → was_refused (step dim s (mark_call p true)).answer ≡ false →
    spot_in (spots_of dim (words_of s)) p ≡ some x → x.header ≡ some h → plate_of dim (used_bytes s) h ≡ Ok before →
    Lowered dim (used_bytes s) (used_bytes (after_mark dim s p true)) h p before

---- the extent

-- cells whose extents have the same bytes, in whatever files and at whatever places, have the same plate
abbrev pub PlateLocal : Type 0
PlateLocal =
    (dim dim' : ℕ) (s t : List ℕ) (p q : ℕ) (a b : Plate) → plate_of dim s p ≡ Ok a → plate_of dim' t q ≡ Ok b →
    extent_bytes dim s p ≡ extent_bytes dim' t q → a ≡ b
