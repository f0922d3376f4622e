-- What a call over a file's elements takes of them, each of which has items of its own (numbers, or entries) or none: as many elements as
-- lent slices hold whole.
use Rattle.std.specs.Prelude.{ℕ, zero, suc, ◌+◌, ◌-◌, ◌≡◌, List, [], ◌∷◌, ◌++◌, cond, ℤ, length, leb, None, Option, Some}
use Rattle.std.proofs.lemmas.List.Edits.{sets}
use Rattle.files.specs.Spots.{Spot}
use Rattle.order.specs.declared.Part.{Part}

-- elements that are taken: the number of the next one, and the items of those taken
pub record Fitting (A : Type 0) : Type 0 where
  pub next : ℕ
  pub given : List A

abbrev pub behind : {A : Type 0} → List A → Fitting A → Fitting A
behind e q = record { next = q.next; given = e ++ q.given }

-- of elements from number k on, each by its items: all before the first that does not fit what is left of the room
abbrev pub part_of : {A : Type 0} → ℕ → ℕ → List (List A) → Fitting A
part_of room k [] = record { next = k; given = [] }
part_of room k (e ∷ es) = cond (leb (length e) room) (behind e (part_of (room - length e) (suc k) es)) (record { next = k; given = [] })

-- the items of n elements from number k on, by f, which gives those of element number i
abbrev pub items_from : {A : Type 0} → ℕ → (ℕ → List A) → ℕ → List (List A)
items_from zero f k = []
items_from (suc n) f k = f k ∷ items_from n f (suc k)

-- the items of elements, one after another, by g, which gives those of an element
abbrev pub all_of : {A : Type 0} → (Spot → List A) → List Spot → List A
all_of g [] = []
all_of g (x ∷ xs) = g x ++ all_of g xs

-- lent slices that hold items: how many, and the slices with some of them from an item number on
pub record Slices (S A : Type 0) : Type 0 where
  pub room : S → ℕ
  pub put : S → ℕ → List A → S

-- one slice, whose items are its numbers
abbrev pub in_numbers : Slices (List ℤ) ℤ
in_numbers = record { room = length; put = sets }

-- an element whose items e are put behind those that are used, where they fit
pub record ElementPut {S A : Type 0} (into : Slices S A) (e : List A) (s : S) (used : ℕ) (r : Option ℕ) (s' : S) : Type 0 where
  pub is : r ≡ cond (leb (length e) (into.room s - used)) (Some (used + length e)) None
  pub given : s' ≡ cond (leb (length e) (into.room s - used)) (into.put s used e) s

-- the elements that were taken
pub record PartPut {S A : Type 0} (into : Slices S A) (q : Fitting A) (s : S) (r : Part) (s' : S) : Type 0 where
  pub next : r.next ≡ q.next
  pub used : r.used ≡ length q.given
  pub given : s' ≡ into.put s 0 q.given
