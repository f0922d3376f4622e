-- What is found and what is missed, by their parts.
use Rattle.std.specs.Prelude.{ℕ, Result, Ok, Err}
use Rattle.refusals.specs.declared.Refusal.{Refusal}
use Rattle.refusals.specs.Refusals.{refusal_of}
use Rattle.finder.specs.declared.Found.{Found}
use Rattle.finder.specs.declared.Missed.{Missed}

-- a cell found at a place, after so many looks
abbrev pub found_with : ℕ → ℕ → Result Found Missed
found_with place looks = Ok (record { place = place; looks = looks })

-- a refusal before any look
abbrev pub unlooked : Refusal → Missed
unlooked refusal = record { refusal = refusal; looks = 0 }

-- no cell of the name, after so many looks
abbrev pub none_named : ℕ → Missed
none_named looks = record { refusal = refusal_of 13 0; looks = looks }

-- no cell found: the refusal's number and place, after so many looks
abbrev pub missed_with : {A : Type 0} → ℕ → ℕ → ℕ → Result A Missed
missed_with number place looks = Err (record { refusal = refusal_of number place; looks = looks })
