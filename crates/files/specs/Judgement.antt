-- Judgement as an answer, by its parts.
use Rattle.std.specs.Prelude.{ℕ, Result, Ok}
use Rattle.refusals.specs.declared.Refusal.{Refusal}
use Rattle.files.specs.declared.Judgement.{Judgement}

-- an element or a list judged: where it ends, its elements at all depths, the greatest depth and how many stand in it directly
abbrev pub good_with : ℕ → ℕ → ℕ → ℕ → Result Judgement Refusal
good_with next elements deepest direct = Ok (record { next = next; elements = elements; deepest = deepest; direct = direct })
