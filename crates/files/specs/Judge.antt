-- Judging (RULES.md, "Complex elements", "Order of checks"): an element, then its components in order, then
-- its count; the first fault decides. `ws` are the words of the file, `under` is the type of the direct header, 0 at
-- the top.
use Rattle.std.specs.Prelude.{ℕ, zero, suc, ◌+◌, ◌-◌, ◌*◌, max, List, [], ◌∷◌, cond, length, Err, Ok, Result}
use Rattle.words.specs.Words.{words}
use Rattle.headers.specs.Header.{type_at}
use Rattle.elements.specs.Rules.{head_of, count_ok}
use Rattle.elements.specs.declared.Head.{Head}
use Rattle.elements.specs.declared.Head.TheVariants.{Bad, Plain, Complex}
use Rattle.limits.specs.Limits.{call_ok}
use Rattle.files.specs.Ends.{stop_of}
use Rattle.files.specs.declared.Stop.{Stop}
use Rattle.files.specs.declared.Stop.TheVariants.{More, Done, Lacking}
use Rattle.files.specs.Accepted.{accepted_with}
use Rattle.files.specs.Judgement.{good_with}
use Rattle.files.specs.declared.Accepted.{Accepted}
use Rattle.files.specs.declared.Judgement.{Judgement}
use Rattle.refusals.specs.Refusals.{refused_with}
use Rattle.refusals.specs.declared.Refusal.{Refusal}

-- e elements, the deepest at depth d, k of them in this list itself, before what v says
abbrev pub add_to : ℕ → ℕ → ℕ → Result Judgement Refusal → Result Judgement Refusal
add_to e d k (Ok judged) = good_with judged.next (e + judged.elements) (max d judged.deepest) (k + judged.direct)
add_to e d k (Err refusal) = Err refusal

-- what an element is judged to be, and then the rest of its list, from where it ends
abbrev pub and_then : Result Judgement Refusal → (ℕ → Result Judgement Refusal) → Result Judgement Refusal
and_then (Ok judged) rest = add_to judged.elements judged.deepest judged.direct (rest judged.next)
and_then (Err refusal) rest = Err refusal

-- a header at a depth, whose extent ends at `end`, around components judged v; 9 where its count differs
abbrev pub enclose : List ℕ → ℕ → ℕ → ℕ → Result Judgement Refusal → Result Judgement Refusal
enclose ws at end depth (Ok judged) = cond (count_ok ws at judged.direct) (good_with end (1 + judged.elements) (max depth judged.deepest) 1) (refused_with 9 at)
enclose ws at end depth (Err refusal) = Err refusal

-- an element, by what its own words are judged to be
abbrev pub element_by : Head → List ℕ → ℕ → ℕ → (ℕ → ℕ → Result Judgement Refusal) → Result Judgement Refusal
element_by (Bad n) ws at depth components = refused_with n at
element_by (Plain next) ws at depth components = good_with next 1 depth 1
element_by (Complex inner end) ws at depth components = enclose ws at end depth (components inner end)

-- a list, by what stands where its next element would begin
abbrev pub list_by : Stop → ℕ → (ℕ → Result Judgement Refusal) → (ℕ → Result Judgement Refusal) → Result Judgement Refusal
list_by More at element rest = and_then (element at) rest
list_by Done at element rest = good_with at 0 0 0
list_by Lacking at element rest = refused_with 2 at

-- an element and a list of elements, each naming the other; the first number bounds how often, and is always enough, so no
-- answer has the number 0
unfoldable mutual
  pub element_from : ℕ → ℕ → ℕ → ℕ → List ℕ → ℕ → ℕ → Result Judgement Refusal
  element_from zero dim depth under ws at bound = refused_with 0 at
  element_from (suc n) dim depth under ws at bound =
      element_by (head_of dim depth under ws at bound) ws at depth (λ inner end. list_from n dim (depth + 1) (type_at ws at) ws inner end)

  pub list_from : ℕ → ℕ → ℕ → ℕ → List ℕ → ℕ → ℕ → Result Judgement Refusal
  list_from zero dim depth under ws at bound = refused_with 0 at
  list_from (suc n) dim depth under ws at bound =
      list_by (stop_of depth ws at bound) at (λ here. element_from n dim depth under ws here bound) (λ next. list_from n dim depth under ws next bound)

-- an element with its extent, by its bound; every element has at least two words, so this bounds every nesting
unfoldable pub element_of : ℕ → ℕ → ℕ → List ℕ → ℕ → ℕ → Result Judgement Refusal
element_of dim depth under ws at bound = element_from (2 * (bound - at) + 1) dim depth under ws at bound

-- all elements of a file, up to its marker
unfoldable pub top_of : ℕ → List ℕ → Result Judgement Refusal
top_of dim ws = list_from (2 * length ws + 2) dim 0 0 ws 0 (length ws)

-- the answer: the elements at all depths, the greatest depth and the marker's place, or a number and a place
abbrev pub answer : Result Judgement Refusal → Result Accepted Refusal
answer (Ok judged) = accepted_with judged.elements judged.deepest judged.next
answer (Err refusal) = Err refusal

-- judging a file: 1, then what all its elements are judged to be
unfoldable pub judge_of : ℕ → List ℕ → Result Accepted Refusal
judge_of dim s = cond (call_ok dim s) (answer (top_of dim (words s))) (refused_with 1 0)

-- the numbers of each answer of judging: 0, elements, depth and marker, or the refusal's number and place
abbrev pub judged_numbers : Result Accepted Refusal → List ℕ
judged_numbers (Ok file) = 0 ∷ file.elements ∷ file.deepest ∷ file.marker ∷ []
judged_numbers (Err refusal) = refusal.number ∷ refusal.place ∷ []
