-- Checks in an order, as RULES.md, "Order of checks", has them for an element and for the writer.
use Rattle.std.specs.Prelude.{ℕ, List, [], ◌∷◌, Bool, true, false}

-- a check is a test and the number that is answered where it fails; the first that fails decides, 0 where none does
pub data Check : Type 0 where
  check : Bool → ℕ → Check

abbrev pub first_fault : List Check → ℕ
first_fault [] = 0
first_fault (check true n ∷ rest) = first_fault rest
first_fault (check false n ∷ rest) = n
