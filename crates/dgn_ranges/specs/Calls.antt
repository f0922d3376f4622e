-- Calls of dgn_ranges one after another, from element 0 on, each from where the last one stopped: they give the place of each element
-- of the file of which the call for one element answers no, in small numbers.
use Rattle.std.specs.Prelude.{ℕ, ◌≡◌, List, ℤ, get_or}
use Rattle.words.specs.Words.{words}
use Rattle.files.specs.Judge.{judge_of}
use Rattle.files.specs.Spots.{spots_of}
use Rattle.order.specs.Fitting.{all_of}
use Rattle.order.specs.Parts.{Lent, InParts, numbers_call, Called, GivesAll, NumbersSmall}
use Rattle.dgn_ranges.specs.Ranges.{range_entry}
use Rattle.dgn_ranges.specs.Answers.{RangesGiven}
use Rattle.files.specs.Accepted.{accepted_with}

-- the call by its contract; its answer is the number of the element to go on with, and how many places there are. A slice of one number
-- holds a place, and one of 2 the answer
abbrev pub ranges_call : ℕ → List ℕ → InParts Lent (List ℤ)
ranges_call dim s = numbers_call (λ k x n y. RangesGiven dim s k x.numbers x.out n y.numbers y.out) (λ k out. get_or out 0 0) (λ out. get_or out 1 0) 1 2

abbrev pub AllRanges : Type 0
AllRanges =
    (dim : ℕ) (s : List ℕ) (e d m : ℕ) → judge_of dim s ≡ accepted_with e d m → (calls : List Lent) (got : List ℤ) (last : ℕ) →
    Called (ranges_call dim s) 0 calls got last → GivesAll (ranges_call dim s) (spots_of dim (words s)) (all_of (range_entry dim s)) calls got last

-- a call that is done gives numbers below 524,288
abbrev pub RangesWithin : Type 0
RangesWithin =
    (dim : ℕ) (s : List ℕ) (k : ℕ) (places places' : List ℤ) (out out' : List ℕ) → RangesGiven dim s k places out 0 places' out' →
    NumbersSmall 524288 k places places' out'
