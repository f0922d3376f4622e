-- Calls that give what the elements of a file have in parts: each from an element number on, as many elements as its slices hold. A
-- caller makes them one after another, each from the element where the last one stopped.
use Rattle.std.specs.Prelude.{ℕ, ◌+◌, ◌≤◌, ◌<◌, max, ◌≡◌, Bool, cond, ◌&&◌, List, [], ◌∷◌, ◌++◌, ℤ, length, get_or, take, eqb, leb}
use Rattle.std.specs.Int.Signed.{mag}
use Rattle.files.specs.Spots.{Spot}

-- such a call, which is lent slices L and gives its caller some G: what its contract says, from an element number on, of the number that is
-- returned and of the slices as they then are; of one that is done the element to go on with, and what its slices then hold for the
-- caller; what no call gives, and what one and then others give; slices that hold any element and the answer
pub record InParts (L G : Type 0) : Type 1 where
  pub Answers : ℕ → L → ℕ → L → Type 0
  pub next : ℕ → L → ℕ
  pub gives : L → G
  pub nothing : G
  pub then : G → G → G
  pub enough : L → Bool

-- after a refusal a caller is where it was, and has nothing of that call
abbrev pub onward : {L G : Type 0} → InParts L G → ℕ → ℕ → L → ℕ
onward p k n y = cond (eqb n 0) (p.next k y) k

abbrev pub gained : {L G : Type 0} → InParts L G → ℕ → L → G
gained p n y = cond (eqb n 0) (p.gives y) p.nothing

-- calls from element number k on, with any slices, and any numbers and bytes that the contract allows: they gave `got`, and stopped at the
-- element number `last`
pub data Called {L G : Type 0} (p : InParts L G) : ℕ → List L → G → ℕ → Type 0 where
  none : {k : ℕ} → Called p k [] p.nothing k
  next : {k : ℕ} {xs : List L} {got all : G} {last : ℕ} (x : L) (n : ℕ) (y : L) →
      p.Answers k x n y → Called p (onward p k n y) xs got last → all ≡ p.then (gained p n y) got → Called p k (x ∷ xs) all last

-- how many calls have slices that are long enough
abbrev pub holding : {L G : Type 0} → InParts L G → List L → ℕ
holding p [] = 0
holding p (x ∷ xs) = cond (p.enough x) 1 0 + holding p xs

-- what calls from element 0 on give of the elements xs: what those before `last` have, once each and in file order; and of all of
-- them, where as many calls as there are elements have slices that are long enough for any element
pub record GivesAll {L G : Type 0} (p : InParts L G) (xs : List Spot) (have : List Spot → G) (calls : List L) (got : G) (last : ℕ) : Type 0 where
  pub so_far : got ≡ have (take last xs)
  pub all : length xs ≤ holding p calls → got ≡ have xs

---- calls that give numbers

-- the slices that such a call is lent: one for the numbers, one for the answer
pub record Lent : Type 0 where
  pub numbers : List ℤ
  pub out : List ℕ

-- slices of so many numbers
abbrev pub holds : ℕ → ℕ → Lent → Bool
holds numbers out x = leb numbers (length x.numbers) && leb out (length x.out)

-- the call by its contract: the element to go on with and how many numbers were written stand in its answer; slices of so many numbers
-- are long enough
abbrev pub numbers_call : (ℕ → Lent → ℕ → Lent → Type 0) → (ℕ → List ℕ → ℕ) → (List ℕ → ℕ) → ℕ → ℕ → InParts Lent (List ℤ)
numbers_call answers onto written numbers out = record {
  Answers = answers;
  next = λ k y. onto k y.out;
  gives = λ y. take (written y.out) y.numbers;
  nothing = [];
  then = ◌++◌;
  enough = holds numbers out;
}

-- signed numbers from -bound to bound - 1 (mag is n of n and of -1 - n)
abbrev pub Within : ℕ → List ℤ → Type 0
Within bound [] = Unit {0}
Within bound (z ∷ zs) = (mag z < bound) × Within bound zs

-- a call that is done, whose answer is the number of the element to go on with and how many numbers there are: it goes on at most at the
-- element after the last, or where it was asked to begin; it gives no more numbers than its slice holds, each within a bound
pub record NumbersSmall (bound k : ℕ) (numbers numbers' : List ℤ) (out' : List ℕ) : Type 0 where
  pub next : get_or out' 0 0 ≤ max k 524288
  pub written : get_or out' 1 0 ≤ length numbers
  pub each : Within bound (take (get_or out' 1 0) numbers')
