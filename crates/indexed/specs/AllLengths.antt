-- AllLengths as an answer, by its parts.
use Rattle.std.specs.Prelude.{ℕ, Result, Ok}
use Rattle.refusals.specs.declared.Refusal.{Refusal}
use Rattle.indexed.specs.declared.AllLengths.{AllLengths}

-- an edit that is made, with the used lengths of the file, the journal and the index
abbrev pub all_made : ℕ → ℕ → ℕ → Result AllLengths Refusal
all_made used jused iused = Ok (record { used = used; jused = jused; iused = iused })
