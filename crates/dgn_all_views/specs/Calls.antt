-- Calls of dgn_views one after another, from element 0 on, each from where the last one stopped: they give all views of the file, in
-- small numbers.
use Rattle.std.specs.Prelude.{ℕ, ◌+◌, ◌*◌, ◌≤◌, ◌≡◌, List, ℤ, get_or, take}
use Rattle.words.specs.Words.{words, Below}
use Rattle.files.specs.Judge.{judge_of}
use Rattle.files.specs.Spots.{spots_of}
use Rattle.order.specs.Parts.{Lent, InParts, numbers_call, Called, GivesAll, Within}
use Rattle.dgn_all_views.specs.Views.{views_of}
use Rattle.dgn_all_views.specs.Answers.{ViewsGiven}
use Rattle.files.specs.Accepted.{accepted_with}

-- the call by its contract; the first number of its answer is how many views there are, of 32 numbers each. A slice of 32 numbers holds
-- any view, and one of 1 the answer
abbrev pub views_call : ℕ → List ℕ → InParts Lent (List ℤ)
views_call dim s = numbers_call (λ k x n y. ViewsGiven dim s k x.numbers x.out n y.numbers y.out) (λ k out. k + get_or out 0 0) (λ out. 32 * get_or out 0 0) 32 1

abbrev pub AllViews : Type 0
AllViews =
    (dim : ℕ) (s : List ℕ) (e d m : ℕ) → judge_of dim s ≡ accepted_with e d m → (calls : List Lent) (got : List ℤ) (last : ℕ) →
    Called (views_call dim s) 0 calls got last → GivesAll (views_call dim s) (spots_of dim (words s)) (views_of dim s) calls got last

-- a call that is done gives at most 524,288 views, whose numbers are from -2,147,483,648 to 2,147,483,647
abbrev pub ViewsWithin : Type 0
ViewsWithin =
    (dim : ℕ) (s : List ℕ) (k : ℕ) (views views' : List ℤ) (out out' : List ℕ) → Below 256 s → ViewsGiven dim s k views out 0 views' out' →
    (get_or out' 0 0 ≤ 524288) × Within 2147483648 (take (32 * get_or out' 0 0) views')
