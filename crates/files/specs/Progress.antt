-- The contracts of judging's private functions, which no public one cites: of an element, and of how far the elements of one
-- list were judged, one after another.
use Rattle.std.specs.Prelude.{ℕ, zero, suc, ◌+◌, ◌-◌, ◌*◌, ◌<◌, ◌≤◌, max, ◌≡◌, Bool, true, false, cond, List, eqb, Err, Ok, Result}
use Rattle.words.specs.Words.{words}
use Rattle.elements.specs.Rules.{head_of}
use Rattle.elements.specs.declared.Head.{Head}
use Rattle.elements.specs.declared.Head.TheVariants.{Bad}
use Rattle.files.specs.declared.Stop.{Stop}
use Rattle.files.specs.declared.Stop.TheVariants.{More}
use Rattle.files.specs.declared.Progress.{Progress}
use Rattle.files.specs.declared.Progress.TheVariants.{Stopped, Halted, Broken}
use Rattle.files.specs.Ends.{stop_of}
use Rattle.files.specs.Judge.{add_to, element_from, list_from}
use Rattle.files.specs.Reach.{stops_after}
use Rattle.files.specs.Judgement.{good_with}
use Rattle.files.specs.declared.Judgement.{Judgement}
use Rattle.refusals.specs.declared.Refusal.{Refusal}

-- r is what the element is judged to be, whatever the number of elementFrom, where it is enough
abbrev pub IsElement : ℕ → ℕ → ℕ → List ℕ → ℕ → ℕ → Result Judgement Refusal → Type 0
IsElement dim depth under ws at bound r = (n : ℕ) → 2 * (bound - at) < n → r ≡ element_from n dim depth under ws at bound

-- r is what the list is judged to be, whatever the number of list_from, where it is enough
abbrev pub IsList : ℕ → ℕ → ℕ → List ℕ → ℕ → ℕ → Result Judgement Refusal → Type 0
IsList dim depth under ws at bound r = (n : ℕ) → 2 * (bound - at) + 1 < n → r ≡ list_from n dim depth under ws at bound

-- a good element of a list, with e elements in all, the deepest at depth d
pub record GoodAt (dim depth under : ℕ) (ws : List ℕ) (bound at next e d : ℕ) : Type 0 where
  pub more : stop_of depth ws at bound ≡ More
  pub good : IsElement dim depth under ws at bound (good_with next e d 1)
  pub on : at < next
  pub by : next ≤ bound

-- the bounds of an answer: each of its elements has a word of its own between `at` and `next`
abbrev pub Within : ℕ → ℕ → Result Judgement Refusal → Type 0
Within at bound (Ok judged) = (at + judged.elements ≤ judged.next) × (judged.next ≤ max at bound)
Within at bound (Err refusal) = Unit

---- a list of elements, and what is found of it

-- a list: the dimension, how many headers stand above it, the type of its direct header (0 at the top), the bytes of the file, and
-- the places where it begins and by which it ends
pub record ListIn : Type 0 where
  pub dim : ℕ
  pub depth : ℕ
  pub under : ℕ
  pub file : List ℕ
  pub at : ℕ
  pub bound : ℕ

abbrev pub list_in : ℕ → ℕ → ℕ → List ℕ → ℕ → ℕ → ListIn
list_in dim depth under file at bound = record { dim = dim; depth = depth; under = under; file = file; at = at; bound = bound }

-- a tally of some of its elements: how many at all depths, the greatest depth, and how many of the list itself
pub record Tally : Type 0 where
  pub elements : ℕ
  pub deepest : ℕ
  pub direct : ℕ

abbrev pub tally : ℕ → ℕ → ℕ → Tally
tally elements deepest direct = record { elements = elements; deepest = deepest; direct = direct }

-- what stands at a place of it, and how the head of its element there is judged
abbrev pub stop_in : ListIn → ℕ → Stop
stop_in l here = stop_of l.depth (words l.file) here l.bound

abbrev pub head_in : ListIn → ℕ → Head
head_in l here = head_of l.dim l.depth l.under (words l.file) here l.bound

-- what its element at a place, or its rest from a place on, is judged to be
abbrev pub ElementIs : ListIn → ℕ → Result Judgement Refusal → Type 0
ElementIs l here r = IsElement l.dim l.depth l.under (words l.file) here l.bound r

abbrev pub RestIs : ListIn → ℕ → Result Judgement Refusal → Type 0
RestIs l here r = IsList l.dim l.depth l.under (words l.file) here l.bound r

-- what judging it answers
pub record ListJudged (l : ListIn) (r : Result Judgement Refusal) : Type 0 where
  pub is : RestIs l l.at r
  pub within : Within l.at l.bound r

-- its elements up to `here` come to a tally: what the rest is judged to be, with the tally added, is what the list is judged to be
abbrev pub Passed : ListIn → ℕ → Tally → Type 0
Passed l here t = (r : Result Judgement Refusal) → RestIs l here r → RestIs l l.at (add_to t.elements t.deepest t.direct r)

-- a good element of it from `at` to `next`, with e elements in all, the deepest at depth d
abbrev pub GoodIn : ListIn → ℕ → ℕ → ℕ → ℕ → Type 0
GoodIn l at next e d = GoodAt l.dim l.depth l.under (words l.file) l.bound at next e d

-- what judging its first element answers: it is good, counts as one, has at least itself, and a word for each of its elements; or it
-- is refused
pub record FirstGood (l : ListIn) (next : ℕ) (t : Tally) : Type 0 where
  pub good : GoodIn l l.at next t.elements t.deepest
  pub one : t.direct ≡ 1
  pub itself : 1 ≤ t.elements
  pub deep : l.depth ≤ t.deepest
  pub words_each : l.at + t.elements ≤ next

abbrev pub ElementJudged : ListIn → Result Judgement Refusal → Type 0
ElementJudged l (Ok judged) = FirstGood l judged.next (tally judged.elements judged.deepest judged.direct)
ElementJudged l (Err refusal) = ElementIs l l.at (Err refusal)

---- judging a list, one element after another

-- a list, and when its judging stops: after an element that ends after `until`, or, where `each` holds, that is a header
pub record Run : Type 0 where
  pub list : ListIn
  pub until : ℕ
  pub each : Bool

abbrev pub run_of : ListIn → ℕ → Bool → Run
run_of list until each = record { list = list; until = until; each = each }

-- whether it stops after the element from `at` to `next`
abbrev pub stops_in : Run → ℕ → ℕ → Bool
stops_in run at next = stops_after (words run.list.file) run.until run.each at next

-- k good elements, one after another up to `here`, after none of which judging stops
abbrev pub Steps : Run → ℕ → ℕ → Type 0
Steps run zero here = run.list.at ≡ here
Steps run (suc k) here = (last e d : ℕ) × (Steps run k last × (GoodIn run.list last here e d × (stops_in run last here ≡ false)))

-- the greatest depth of k elements at a depth, with the greatest beneath them
abbrev pub depth_of : ℕ → ℕ → ℕ → ℕ
depth_of k depth below = cond (eqb k 0) 0 (max depth below)

-- the elements up to `here` were judged, and come to a tally
pub record Gone (run : Run) (here : ℕ) (t : Tally) : Type 0 where
  pub inside : here ≤ max run.list.at run.list.bound
  pub words_each : run.list.at + t.elements ≤ here
  pub direct : t.direct ≤ t.elements
  pub none : t.direct ≡ 0 → (t.elements ≡ 0) × (t.deepest ≡ 0)
  pub passed : Passed run.list here t
  pub steps : Steps run t.direct here

-- judging stopped after the element from `last` to `next`; with it the elements come to a tally
pub record StoppedAt (run : Run) (last next : ℕ) (t : Tally) : Type 0 where
  pub before : Tally
  pub own : ℕ
  pub depth_own : ℕ
  pub gone : Gone run last before
  pub good : GoodIn run.list last next own depth_own
  pub stops : stops_in run last next ≡ true
  pub all : t.elements ≡ before.elements + own
  pub deep : t.deepest ≡ max before.deepest depth_own
  pub counted : t.direct ≡ before.direct + 1

-- no head of an element stands at `here`
pub record HaltedAt (run : Run) (here n : ℕ) (t : Tally) : Type 0 where
  pub gone : Gone run here t
  pub head : head_in run.list here ≡ Bad n

-- the element at `here`, with a good head, is refused
pub record BrokenAt (run : Run) (refusal : Refusal) : Type 0 where
  pub here : ℕ
  pub before : Tally
  pub gone : Gone run here before
  pub more : stop_in run.list here ≡ More
  pub fault : ElementIs run.list here (Err refusal)

-- what judging a list's elements comes to
abbrev pub Progressed : Run → Progress → Type 0
Progressed run (Stopped next last e d k) = StoppedAt run last next (tally e d k)
Progressed run (Halted n p e d k) = HaltedAt run p n (tally e d k)
Progressed run (Broken refusal) = BrokenAt run refusal
