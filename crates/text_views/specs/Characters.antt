-- Characters as an answer, by its parts.
use Rattle.std.specs.Prelude.{ℕ, Result, Ok}
use Rattle.refusals.specs.declared.Refusal.{Refusal}
use Rattle.text_views.specs.declared.Characters.{Characters}

-- the characters of a text: where they start and how many they are
abbrev pub characters_with : ℕ → ℕ → Result Characters Refusal
characters_with start length = Ok (record { start = start; length = length })
