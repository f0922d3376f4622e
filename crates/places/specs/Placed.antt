-- Placed as an answer, by its parts.
use Rattle.std.specs.Prelude.{ℕ, Result, Ok}
use Rattle.refusals.specs.declared.Refusal.{Refusal}
use Rattle.places.specs.declared.Placed.{Placed}
use Rattle.places.specs.declared.Spotted.{Spotted}

-- an accepted file with its marker, and what starts at a place
abbrev pub placed_with : ℕ → (Result Spotted Refusal) → Result Placed Refusal
placed_with marker found = Ok (record { marker = marker; found = found })
