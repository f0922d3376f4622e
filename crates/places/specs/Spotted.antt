-- Spotted as an answer, by its parts.
use Rattle.std.specs.Prelude.{ℕ, Result, Ok}
use Rattle.refusals.specs.declared.Refusal.{Refusal}
use Rattle.places.specs.declared.Spotted.{Spotted}
use Rattle.places.specs.declared.Above.{Above}

-- the element that starts at a place: where its extent ends, its depth and its direct header
abbrev pub spotted_with : ℕ → ℕ → Above → Result Spotted Refusal
spotted_with end depth above = Ok (record { end = end; depth = depth; above = above })
