-- Calls of dgn_texts one after another, from element 0 on, each from where the last one stopped: they give all texts of the file, each
-- as the call for the text at its place gives it.
use Rattle.std.specs.Prelude.{ℕ, ◌*◌, ◌≡◌, List, ℤ, get_or}
use Rattle.words.specs.Words.{words}
use Rattle.files.specs.Judge.{judge_of}
use Rattle.files.specs.Spots.{spots_of}
use Rattle.order.specs.Fitting.{all_of}
use Rattle.order.specs.Parts.{Lent, InParts, numbers_call, Called, GivesAll}
use Rattle.dgn_texts.specs.Texts.{text_entry}
use Rattle.dgn_texts.specs.Answers.{TextsGiven}
use Rattle.files.specs.Accepted.{accepted_with}

-- the call by its contract; its answer is the number of the element to go on with, and how many texts there are, of 18 numbers each. A
-- slice of 18 numbers holds a text, and one of 2 the answer
abbrev pub texts_call : ℕ → List ℕ → InParts Lent (List ℤ)
texts_call dim s = numbers_call (λ k x n y. TextsGiven dim s k x.numbers x.out n y.numbers y.out) (λ k out. get_or out 0 0) (λ out. 18 * get_or out 1 0) 18 2

abbrev pub AllTexts : Type 0
AllTexts =
    (dim : ℕ) (s : List ℕ) (e d m : ℕ) → judge_of dim s ≡ accepted_with e d m → (calls : List Lent) (got : List ℤ) (last : ℕ) →
    Called (texts_call dim s) 0 calls got last → GivesAll (texts_call dim s) (spots_of dim (words s)) (all_of (text_entry dim s)) calls got last
