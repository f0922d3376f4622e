-- Field as an answer, by its parts.
use Rattle.std.specs.Prelude.{ℕ, ℤ, Result, Ok}
use Rattle.refusals.specs.declared.Refusal.{Refusal}
use Rattle.text_views.specs.declared.Field.{Field}

-- an enter-data field: its first character, its length and its justification
abbrev pub field_with : ℕ → ℕ → ℤ → Result Field Refusal
field_with first length justification = Ok (record { first = first; length = length; justification = justification })
