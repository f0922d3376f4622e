-- Calls of dgn_plates one after another, from element 0 on, each from where the last one stopped: they give the plates of all cells of
-- the file, each as the call for the one at its place gives it.
use Rattle.std.specs.Prelude.{ℕ, ◌*◌, ◌≡◌, List, ℤ, get_or}
use Rattle.words.specs.Words.{words}
use Rattle.files.specs.Judge.{judge_of}
use Rattle.files.specs.Spots.{Spot, spots_of}
use Rattle.order.specs.Fitting.{all_of}
use Rattle.order.specs.Parts.{Lent, InParts, numbers_call, Called, GivesAll}
use Rattle.dgn_plates.specs.Plates.{plate_entry, all_numbers}
use Rattle.dgn_plates.specs.Answers.{PlatesGiven}
use Rattle.files.specs.Accepted.{accepted_with}

-- the call by its contract; its answer is the number of the element to go on with, and how many plates there are, of 11 numbers each. A
-- slice of 11 numbers holds a plate, and one of 2 the answer
abbrev pub plates_call : ℕ → List ℕ → InParts Lent (List ℤ)
plates_call dim s = numbers_call (λ k x n y. PlatesGiven dim s k x.numbers x.out n y.numbers y.out) (λ k out. get_or out 0 0) (λ out. 11 * get_or out 1 0) 11 2

-- the numbers of elements, one after another
abbrev pub plates_of : ℕ → List ℕ → List Spot → List ℤ
plates_of dim s xs = all_numbers (all_of (plate_entry dim s) xs)

abbrev pub AllPlates : Type 0
AllPlates =
    (dim : ℕ) (s : List ℕ) (e d m : ℕ) → judge_of dim s ≡ accepted_with e d m → (calls : List Lent) (got : List ℤ) (last : ℕ) →
    Called (plates_call dim s) 0 calls got last → GivesAll (plates_call dim s) (spots_of dim (words s)) (plates_of dim s) calls got last
