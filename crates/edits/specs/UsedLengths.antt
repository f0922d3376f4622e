-- UsedLengths as an answer, by its parts.
use Rattle.std.specs.Prelude.{ℕ, Result, Ok}
use Rattle.refusals.specs.declared.Refusal.{Refusal}
use Rattle.edits.specs.declared.UsedLengths.{UsedLengths}

-- an edit that is made, with the used lengths of the file and the journal
abbrev pub made_with : ℕ → ℕ → Result UsedLengths Refusal
made_with used jused = Ok (record { used = used; jused = jused })
