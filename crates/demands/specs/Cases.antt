-- A worked case: numbers that the definitions give beside the numbers that the rules give, and whether they agree.
use Rattle.std.specs.Prelude.{ℕ, List, [], ◌∷◌, Bool, true, false, ◌&&◌, eqb}

-- the numbers that the definitions give, and the numbers of the rules
pub data Case : Type 0 where
  case : List ℕ → List ℕ → Case

-- whether two lists of numbers are the same
abbrev pub same : List ℕ → List ℕ → Bool
same [] [] = true
same [] (y ∷ ys) = false
same (x ∷ xs) [] = false
same (x ∷ xs) (y ∷ ys) = eqb x y && same xs ys

-- whether a case holds
abbrev pub holds : Case → Bool
holds (case given paper) = same given paper
