-- A look at the elements of a part of a file, one after another. Only private functions promise it.
use Rattle.std.specs.Prelude.{ℕ, ◌+◌, ◌≤◌, ◌<◌, ◌^◌, ◌≡◌, List, [], ◌∷◌, length, Err, Ok, Result}
use Rattle.headers.specs.Header.{size_at}
use Rattle.files.specs.Spots.{Spot}
use Rattle.finder.specs.declared.Wanted.{Wanted}
use Rattle.finder.specs.Finder.{first_named}
use Rattle.finder.specs.declared.Found.{Found}
use Rattle.finder.specs.declared.Missed.{Missed}

-- elements one after another, the first at `at`, the own words of the last ending at `end`
abbrev pub InOrder : List ℕ → ℕ → List Spot → ℕ → Type 0
InOrder ws at [] end = at ≡ end
InOrder ws at (x ∷ xs) end = (x.place ≡ at) × InOrder ws (at + size_at ws at) xs end

-- n elements, each with a word, stand before the part, whose end is below the bytes of the file s
abbrev pub MayLook : List ℕ → ℕ → ℕ → ℕ → Type 0
MayLook s n at end = (n ≤ at) × (end < length s)

-- an answer with n elements after it that have no name
abbrev pub passed_by : Result Found Missed → ℕ → Result Found Missed
passed_by (Ok found) n = Ok found
passed_by (Err missed) n = Err (record missed { looks = missed.looks + n })

-- their count is a number of 64 bits
abbrev pub MayPass : Result Found Missed → ℕ → Type 0
MayPass (Ok found) n = Unit {0}
MayPass (Err missed) n = missed.looks + n < 2 ^ 64

-- r is what the elements of the part answer, after n others
abbrev pub FirstFrom : Wanted → List ℕ → ℕ → ℕ → ℕ → ℕ → ℕ → Result Found Missed → Type 0
FirstFrom w ws first second n at end r = (xs : List Spot) → InOrder ws at xs end → r ≡ first_named w ws first second n xs
