-- Where elements start, and when a view accepts a place.
use Rattle.std.specs.Prelude.{ℕ, ◌≡◌, Err, Ok, Result}
use mathlib.Core.List.{List, Memᴰ}
use Rattle.files.specs.Spots.{Spot}
use Rattle.refusals.specs.declared.Refusal.{Refusal}
use Rattle.views.specs.declared.Element.{Element}

-- an element of a list starts at a place
abbrev pub Starts : List Spot → ℕ → Type 0
Starts xs p = (x : Spot) × Memᴰ x xs × (x.place ≡ p)

-- a view that is not refused
abbrev pub Accepts : Result Element Refusal → Type 0
Accepts (Ok x) = Unit {0}
Accepts (Err refusal) = ⊥
