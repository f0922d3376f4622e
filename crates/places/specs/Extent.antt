-- Extent as an answer, by its parts.
use Rattle.std.specs.Prelude.{ℕ, Result, Ok}
use Rattle.refusals.specs.declared.Refusal.{Refusal}
use Rattle.places.specs.declared.Extent.{Extent}

-- an extent from its start to its end
abbrev pub extent_with : ℕ → ℕ → Result Extent Refusal
extent_with start end = Ok (record { start = start; end = end })
