-- Linkage as an answer, by its parts.
use Rattle.std.specs.Prelude.{ℕ, Bool, Option, Result, Some, Ok}
use Rattle.refusals.specs.declared.Refusal.{Refusal}
use Rattle.linkages.specs.declared.Linkage.{Linkage}

-- a linkage: whether it is a user linkage, its place, its words and its id
abbrev pub linkage_with : Bool → ℕ → ℕ → ℕ → Option Linkage
linkage_with user place size id = Some (record { user = user; place = place; size = size; id = id })

-- a linkage: whether it is a user linkage, its place, its words and its id, as an answer that can be refused
abbrev pub attribute_with : Bool → ℕ → ℕ → ℕ → Result Linkage Refusal
attribute_with user place size id = Ok (record { user = user; place = place; size = size; id = id })
