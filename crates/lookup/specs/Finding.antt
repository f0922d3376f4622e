-- What a built index is, that the look-ups over it answer as the finder does over the file, but for the count, and how often they look.
use Rattle.std.specs.Prelude.{ℕ, suc, ◌+◌, ◌-◌, ◌/◌, ◌^◌, ◌≤◌, ◌<◌, ◌≡◌, Bool, true, false, cond, List, [], ◌∷◌, ◌++◌, length, take, drop, eqb, Err, Ok, Result}
use Rattle.words.specs.Words.{words, Below}
use Rattle.names.specs.Names.{packed}
use Rattle.files.specs.Judge.{judge_of}
use Rattle.entries.specs.Entries.{entries, entries_ok, name_of, place_of, shown}
use Rattle.sorting.specs.Order.{Sorted, times}
use Rattle.cells.specs.Cells.{cells_of}
use Rattle.cells.specs.Index.{entries_of, index_of, index_bytes}
use Rattle.finder.specs.declared.Wanted.TheVariants.{Live, WithDeleted}
use Rattle.finder.specs.Finder.{find_of}
use Rattle.lookup.specs.LookUp.{halved, name_number, look_up_of, looks_of}
use Rattle.lookup.specs.Live.{live_cell, live_look_up_of}
use Rattle.files.specs.Accepted.{accepted_with}
use Rattle.finder.specs.declared.Found.{Found}
use Rattle.finder.specs.declared.Missed.{Missed}
use Rattle.names.specs.Name.{packed_to}
use Rattle.names.specs.declared.Name.{Name}
use Rattle.refusals.specs.declared.Refusal.{Refusal}

-- the index has the entry of each cell of the file, as often as there is such a cell, and no other, in order
pub record Holds (dim : ℕ) (ws index : List ℕ) : Type 0 where
  pub sorted : Sorted index
  pub members : (e : ℕ) → times e index ≡ times e (entries_of (cells_of dim ws))

abbrev pub IndexHolds : Type 0
IndexHolds = (dim : ℕ) (ws : List ℕ) → Holds dim ws (index_of dim ws)

-- and it is the only one
abbrev pub IndexOnly : Type 0
IndexOnly = (dim : ℕ) (ws index : List ℕ) → Holds dim ws index → index ≡ index_of dim ws

-- the place that is found, or the refusal's number and place, without the count
abbrev pub outcome : Result Found Missed → List ℕ
outcome (Ok found) = 0 ∷ found.place ∷ []
outcome (Err missed) = missed.refusal.number ∷ missed.refusal.place ∷ []

-- over the index of an accepted file, in a buffer that it fits, the look-up with deleted cells answers as the finder with them
abbrev pub LookUpFinds : Type 0
LookUpFinds =
    (dim : ℕ) (s : List ℕ) (n : ℕ) (t : List ℕ) (e d m : ℕ) → Below 256 s → judge_of dim s ≡ accepted_with e d m → index_bytes dim (words s) ≤ n →
    outcome (look_up_of (shown n (index_of dim (words s))) (index_bytes dim (words s)) t) ≡ outcome (find_of WithDeleted dim s t)

-- and over the index of any file, with the file, the look-up of live cells as the finder of live cells
abbrev pub LiveLookUpFinds : Type 0
LiveLookUpFinds =
    (dim : ℕ) (s : List ℕ) (n : ℕ) (t : List ℕ) → Below 256 s → index_bytes dim (words s) ≤ n →
    outcome (live_look_up_of dim s (shown n (index_of dim (words s))) (index_bytes dim (words s)) t) ≡ outcome (find_of Live dim s t)

-- over any bytes: where the number of entries has d binary digits at most, there are at most d + 1 looks
abbrev pub LooksBound : Type 0
LooksBound = (s : List ℕ) (used : ℕ) (t : List ℕ) (d : ℕ) → used / 8 < 2 ^ d → looks_of (look_up_of s used t) ≤ d + 1

---- the looks with deleted cells passed over

-- the entries of a name at the front of a list
abbrev pub run : ℕ → List ℕ → List ℕ
run name [] = []
run name (e ∷ es) = cond (eqb (name_of e) name) (e ∷ run name es) []

-- those from entry low on
abbrev pub run_of : List ℕ → ℕ → List ℕ
run_of es name = run name (drop (halved es name).low es)

-- none of some entries is live
abbrev pub NoneLive : (ℕ → Bool) → List ℕ → Type 0
NoneLive live [] = Unit {0}
NoneLive live (e ∷ es) = (live (place_of e) ≡ false) × NoneLive live es

-- an entry is the first live one of some, and `passed` stand before it
pub record FirstLive (live : ℕ → Bool) (es : List ℕ) (place passed : ℕ) : Type 0 where
  pub before : List ℕ
  pub one : ℕ
  pub after : List ℕ
  pub whole : es ≡ before ++ (one ∷ after)
  pub at : place_of one ≡ place
  pub is_live : live place ≡ true
  pub others : NoneLive live before
  pub counted : passed ≡ length before

-- what an answer says of the entries of the name from entry low on, where the rule itself made so many looks: the first live one, with a
-- look for each that was passed; or 13, where none is live, with a look for each but the first
abbrev pub PassesOver : (ℕ → Bool) → List ℕ → ℕ → Result Found Missed → Type 0
PassesOver live es looks (Ok found) = (passed : ℕ) × (FirstLive live es found.place passed × (found.looks ≡ looks + passed))
PassesOver live es looks (Err missed) = (missed.refusal.number ≡ 13) × (missed.refusal.place ≡ 0) × NoneLive live es × (missed.looks ≡ looks + (length es - 1))

-- of an accepted file and a good text, over any bytes
abbrev pub PassedCounted : Type 0
PassedCounted =
    (dim : ℕ) (s index : List ℕ) (used : ℕ) (t : List ℕ) (e d m a b : ℕ) → judge_of dim s ≡ accepted_with e d m → packed t ≡ packed_to a b → entries_ok (length index) used ≡ true →
    PassesOver (live_cell dim (words s)) (run_of (entries (take used index)) (name_number a b)) (looks_of (look_up_of index used t)) (live_look_up_of dim s index used t)

-- how many entries have a name, and that of a text
abbrev pub how_many : ℕ → List ℕ → ℕ
how_many name [] = 0
how_many name (e ∷ es) = cond (eqb (name_of e) name) (suc (how_many name es)) (how_many name es)

abbrev pub of_text : Result Name Refusal → List ℕ → ℕ
of_text (Ok name) es = how_many (name_number name.first name.second) es
of_text (Err refusal) es = 0

-- the bound grows by the entries of the name
abbrev pub LiveLooksBound : Type 0
LiveLooksBound =
    (dim : ℕ) (s index : List ℕ) (used : ℕ) (t : List ℕ) (d : ℕ) → used / 8 < 2 ^ d →
    looks_of (live_look_up_of dim s index used t) ≤ d + 1 + of_text (packed t) (entries (take used index))
