-- Looking a name up with deleted cells passed over (RULES.md, "Index"): where the halving rule ends, while the entry has the name and
-- is deleted, on to the next one, which is counted if it has the name.
use Rattle.std.specs.Prelude.{ℕ, ◌+◌, List, [], ◌∷◌, Bool, false, cond, ◌&&◌, length, take, drop, ltb, eqb, Err, Ok, Result}
use Rattle.std.proofs.Math.Option.{Option, none, some}
use Rattle.words.specs.Words.{words}
use Rattle.names.specs.Names.{packed}
use Rattle.kinds.specs.Kinds.{is_cell}
use Rattle.headers.specs.Header.{type_at}
use Rattle.files.specs.Judge.{judge_of}
use Rattle.files.specs.Spots.{Spot, spots_of, spot_in}
use Rattle.finder.specs.Finder.{is_live}
use Rattle.entries.specs.Entries.{entries, entries_ok, name_of, place_of}
use Rattle.lookup.specs.declared.Halved.{Halved}
use Rattle.lookup.specs.LookUp.{halved, missing, name_number}
use Rattle.files.specs.declared.Accepted.{Accepted}
use Rattle.finder.specs.Found.{found_with, missed_with, unlooked}
use Rattle.finder.specs.declared.Found.{Found}
use Rattle.finder.specs.declared.Missed.{Missed}
use Rattle.names.specs.declared.Name.{Name}
use Rattle.refusals.specs.declared.Refusal.{Refusal}

-- what starts at a place is a cell, and live
abbrev pub live_here : List ℕ → ℕ → Bool
live_here ws place = is_cell (type_at ws place) && is_live ws place

-- an element of a list starts at a place, and is a live cell
abbrev pub live_by : Option Spot → List ℕ → ℕ → Bool
live_by none ws place = false
live_by (some x) ws place = live_here ws place

abbrev pub live_in : List Spot → List ℕ → ℕ → Bool
live_in xs ws place = live_by (spot_in xs place) ws place

-- a live cell of the file starts at a place. An entry whose place starts a deleted cell, or no cell, is deleted; its name is not
-- compared with the cell's
unfoldable pub live_cell : ℕ → List ℕ → ℕ → Bool
live_cell dim ws place = live_in (spots_of dim ws) ws place

-- the step to the first of the entries that are left: one more look if it has the name
abbrev pub step_to : ℕ → List ℕ → ℕ → ℕ
step_to name [] looks = looks
step_to name (e ∷ es) looks = cond (eqb (name_of e) name) (looks + 1) looks

-- from an entry on, after so many looks
abbrev pub go_on : (ℕ → Bool) → ℕ → List ℕ → ℕ → Result Found Missed
go_on live name [] looks = missing looks
go_on live name (e ∷ es) looks =
    cond (eqb (name_of e) name)
    (cond (live (place_of e)) (found_with (place_of e) looks) (go_on live name es (step_to name es looks)))
    (missing looks)

-- the look at entry low, if there is one, and on from it
abbrev pub last_looks : (ℕ → Bool) → List ℕ → ℕ → Halved → Result Found Missed
last_looks live es name h = cond (ltb h.low (length es)) (go_on live name (drop h.low es) (h.looks + 1)) (missing h.looks)

unfoldable pub look_on : (ℕ → Bool) → List ℕ → ℕ → Result Found Missed
look_on live es name = last_looks live es name (halved es name)

-- the file's refusal, then the text's, then the look-up of its two words
abbrev pub live_look_by : Result Accepted Refusal → Result Name Refusal → (ℕ → Bool) → List ℕ → Result Found Missed
live_look_by (Err refusal) t live es = Err (unlooked refusal)
live_look_by (Ok file) (Err refusal) live es = Err (unlooked refusal)
live_look_by (Ok file) (Ok name) live es = look_on live es (name_number name.first name.second)

-- 1 where the used length is not whole entries or beyond the buffer, then these
unfoldable pub live_look_up_of : ℕ → List ℕ → List ℕ → ℕ → List ℕ → Result Found Missed
live_look_up_of dim s index used t =
    cond (entries_ok (length index) used)
    (live_look_by (judge_of dim s) (packed t) (live_cell dim (words s)) (entries (take used index)))
    (missed_with 1 0 0)
