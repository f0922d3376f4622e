-- What an answer of the finder says of the elements in file order, and of the name that a cell stores.
use Rattle.std.specs.Prelude.{ℕ, ◌+◌, ◌≡◌, true, false, List, [], ◌∷◌, ◌++◌, length, Err, Ok, Result}
use Rattle.kinds.specs.Kinds.{is_cell}
use Rattle.headers.specs.Header.{type_at, name_first, name_second}
use Rattle.files.specs.Spots.{Spot}
use Rattle.finder.specs.declared.Wanted.{Wanted}
use Rattle.finder.specs.Finder.{has_name, is_wanted, is_hit}
use Rattle.finder.specs.declared.Found.{Found}
use Rattle.finder.specs.declared.Missed.{Missed}

-- none of a list has the name and is wanted
abbrev pub NoneNamed : Wanted → List ℕ → ℕ → ℕ → List Spot → Type 0
NoneNamed w ws first second [] = Unit {0}
NoneNamed w ws first second (x ∷ xs) = (is_hit w ws x.place first second ≡ false) × NoneNamed w ws first second xs

-- of a list, the element at a place has the name and is wanted, and none before it is; `looked` is its ordinal plus one
pub record FirstAt (w : Wanted) (ws : List ℕ) (first second : ℕ) (xs : List Spot) (place looked : ℕ) : Type 0 where
  pub before : List Spot
  pub one : Spot
  pub after : List Spot
  pub whole : xs ≡ before ++ (one ∷ after)
  pub at : one.place ≡ place
  pub counted : looked ≡ length before + 1
  pub named : has_name ws place first second ≡ true
  pub wanted : is_wanted w ws place ≡ true
  pub others : NoneNamed w ws first second before

-- what an answer says of a list: the first that has the name and is wanted, or 13 with the count of all, none of which is
abbrev pub Finds : Wanted → List ℕ → ℕ → ℕ → List Spot → Result Found Missed → Type 0
Finds w ws first second xs (Ok found) = FirstAt w ws first second xs found.place found.looks
Finds w ws first second xs (Err missed) = (missed.refusal.number ≡ 13) × (missed.refusal.place ≡ 0) × (missed.looks ≡ length xs) × NoneNamed w ws first second xs

-- a cell stands at the place, and something holds of the two words of its name
abbrev pub Stored : List ℕ → ℕ → (ℕ → ℕ → Type 0) → Type 0
Stored ws at P = (is_cell (type_at ws at) ≡ true) × P (name_first ws at) (name_second ws at)
