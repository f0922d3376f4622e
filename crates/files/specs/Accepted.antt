-- Accepted as an answer, by its parts.
use Rattle.std.specs.Prelude.{ℕ, Result, Ok}
use Rattle.refusals.specs.declared.Refusal.{Refusal}
use Rattle.files.specs.declared.Accepted.{Accepted}

-- a file that is accepted, with its elements, its greatest depth and its marker
abbrev pub accepted_with : ℕ → ℕ → ℕ → Result Accepted Refusal
accepted_with elements deepest marker = Ok (record { elements = elements; deepest = deepest; marker = marker })
