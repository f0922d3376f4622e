-- Elements in file order: each begins where the own words of the one before it end.
use Rattle.std.specs.Prelude.{ℕ, zero, suc, ◌+◌, ◌≡◌, cond, List, [], ◌∷◌, leb}
use Rattle.headers.specs.Header.{size_at}
use Rattle.files.specs.Spots.{Spot}

-- the place of element number k
abbrev pub place_of : List ℕ → ℕ → ℕ
place_of ws zero = 0
place_of ws (suc k) = place_of ws k + size_at ws (place_of ws k)

-- the same of a number of at most 1,048,576, which no file has so many elements as; 0 of a larger one
unfoldable pub start_of : List ℕ → ℕ → ℕ
start_of ws k = cond (leb k 1048576) (place_of ws k) 0

-- elements that follow one another from a place to an end
abbrev pub InOrder : List ℕ → ℕ → List Spot → ℕ → Type 0
InOrder ws at [] end = at ≡ end
InOrder ws at (x ∷ xs) end = (x.place ≡ at) × InOrder ws (at + size_at ws at) xs end
