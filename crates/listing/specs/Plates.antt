-- The lines of the program platelist (RULES.md, "Listing"), as bytes.
use Rattle.std.specs.Prelude.{ℕ, List, [], ◌∷◌, ◌++◌, take}
use Rattle.listing.specs.Lines.{decimal, field, last_field}

-- the six counts, a space after each
abbrev pub counts : ℕ → ℕ → ℕ → ℕ → ℕ → ℕ → List ℕ
counts lines pointed texts curves headers others = field lines ++ (field pointed ++ (field texts ++ (field curves ++ (field headers ++ field others))))

-- the place, the counts, the levels and the code, and a line feed; a code has at most six letters
unfoldable pub plate_line : ℕ → ℕ → ℕ → ℕ → ℕ → ℕ → ℕ → ℕ → List ℕ → List ℕ
plate_line place lines pointed texts curves headers others levels code =
    field place ++ (counts lines pointed texts curves headers others ++ (decimal levels ++ (last_field (take 6 code) ++ (10 ∷ []))))
