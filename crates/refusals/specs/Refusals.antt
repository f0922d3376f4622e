-- A refusal by its number and its place, alone and as an answer.
use Rattle.std.specs.Prelude.{ℕ, Result, Err}
use Rattle.refusals.specs.declared.Refusal.{Refusal}

-- the refusal with a number at a place
abbrev pub refusal_of : ℕ → ℕ → Refusal
refusal_of number place = record { number = number; place = place }

-- an answer that is refused with a number at a place
abbrev pub refused_with : {A : Type 0} → ℕ → ℕ → Result A Refusal
refused_with number place = Err (refusal_of number place)
