-- The live cells of a part of a file as a table: a cell has 35 words at least, so of 32 words one at most starts a cell. Byte b is 1 + k
-- where a live cell starts at word 32 * b + k, 0 where none does. Only private functions promise it.
use Rattle.std.specs.Prelude.{ℕ, ◌+◌, ◌*◌, ◌/◌, ◌%◌, ◌≤◌, ◌≡◌, List, [], ◌∷◌, Bool, true, false, ◌&&◌, length, get_or, ltb, eqb, Result}
use Rattle.kinds.specs.Kinds.{is_cell}
use Rattle.headers.specs.Header.{type_at, size_at}
use Rattle.files.specs.Spots.{Spot}
use Rattle.finder.specs.Look.{InOrder}
use Rattle.entries.specs.Entries.{name_of}
use Rattle.lookup.specs.Live.{live_in, look_on}
use Rattle.finder.specs.declared.Found.{Found}
use Rattle.finder.specs.declared.Missed.{Missed}

-- a table says that a live cell starts at a place
abbrev pub marked : List ℕ → ℕ → Bool
marked t place = eqb (get_or t (place / 32) 0) (place % 32 + 1)

-- a table with room for every place before one of a file, and nothing marked
pub record MayFill (to : ℕ) (t : List ℕ) : Type 0 where
  pub short : to ≤ 524288
  pub room : to ≤ 32 * length t
  pub none : (place : ℕ) → marked t place ≡ false

-- the cells of a list have 32 words at least
abbrev pub Apart : List ℕ → List Spot → Type 0
Apart ws [] = Unit {0}
Apart ws (x ∷ xs) = (is_cell (type_at ws x.place) ≡ true → 32 ≤ size_at ws x.place) × Apart ws xs

-- the table of the elements up to a place
abbrev pub TableTo : List ℕ → ℕ → List ℕ → Type 0
TableTo ws to t = (xs : List Spot) → InOrder ws 0 xs to → Apart ws xs → (place : ℕ) → marked t place ≡ live_in xs ws place

-- entry i is there and has the name
abbrev pub named_at : List ℕ → ℕ → ℕ → Bool
named_at es i name = ltb i (length es) && eqb (name_of (get_or es i 0)) name

-- r is what is looked up with the live cells of the elements up to a place
abbrev pub LookedTo : List ℕ → ℕ → List ℕ → ℕ → Result Found Missed → Type 0
LookedTo ws to es name r = (xs : List Spot) → InOrder ws 0 xs to → Apart ws xs → r ≡ look_on (live_in xs ws) es name
