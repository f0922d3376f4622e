-- Calls of dgn_curves one after another, from element 0 on, each from where the last one stopped: they give all ellipses and arcs of the
-- file, each as the call for the one at its place gives it.
use Rattle.std.specs.Prelude.{ℕ, ◌*◌, ◌≡◌, ◌&&◌, List, [], ◌++◌, length, get_or, take, leb}
use Rattle.words.specs.Words.{words, word_at}
use Rattle.kinds.specs.FirstWord.{deleted_of}
use Rattle.files.specs.Judge.{judge_of}
use Rattle.files.specs.Spots.{Spot, spots_of}
use Rattle.curve_views.specs.CurveViews.{curve_of}
use Rattle.order.specs.Fitting.{all_of}
use Rattle.order.specs.Parts.{InParts, Called, GivesAll}
use Rattle.dgn_curves.specs.Curves.{Entry, entry_by, all_numbers, all_floats, Both, both}
use Rattle.dgn_curves.specs.Answers.{CurvesGiven}
use Rattle.files.specs.Accepted.{accepted_with}

-- the slices that a call is lent: two for the curves, one for the answer
pub record Lent : Type 0 where
  pub slices : Both
  pub out : List ℕ

-- what numbers and floats are of curves
abbrev pub shown : List Entry → Both
shown es = both (all_numbers es) (all_floats es)

-- of an element, by the call for it; and of elements, one after another
abbrev pub element_curve : ℕ → List ℕ → Spot → List Entry
element_curve dim s x = entry_by (curve_of dim s x.place) x.place (deleted_of (word_at (words s) x.place))

abbrev pub curves_of : ℕ → List ℕ → List Spot → Both
curves_of dim s xs = shown (all_of (element_curve dim s) xs)

-- the call by its contract; its answer is the number of the element to go on with, and how many curves there are, of 9 numbers and 5
-- floats each. Slices of 9 numbers and 5 floats hold a curve, and one of 2 the answer
abbrev pub curves_call : ℕ → List ℕ → InParts Lent Both
curves_call dim s = record {
  Answers = λ k x n y. CurvesGiven dim s k x.slices x.out n y.slices y.out;
  next = λ k y. get_or y.out 0 0;
  gives = λ y. both (take (9 * get_or y.out 1 0) y.slices.numbers) (take (5 * get_or y.out 1 0) y.slices.floats);
  nothing = both [] [];
  then = λ a b. both (a.numbers ++ b.numbers) (a.floats ++ b.floats);
  enough = λ x. (leb 9 (length x.slices.numbers) && leb 5 (length x.slices.floats)) && leb 2 (length x.out);
}

abbrev pub AllCurves : Type 0
AllCurves =
    (dim : ℕ) (s : List ℕ) (e d m : ℕ) → judge_of dim s ≡ accepted_with e d m → (calls : List Lent) (got : Both) (last : ℕ) →
    Called (curves_call dim s) 0 calls got last → GivesAll (curves_call dim s) (spots_of dim (words s)) (curves_of dim s) calls got last
