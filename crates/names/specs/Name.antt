-- Names and texts as answers, by their parts.
use Rattle.std.specs.Prelude.{ℕ, List, Result, Ok, Err}
use Rattle.refusals.specs.declared.Refusal.{Refusal}
use Rattle.refusals.specs.Refusals.{refusal_of}
use Rattle.names.specs.declared.Name.{Name}
use Rattle.names.specs.declared.NoText.{NoText}

-- the two words of a name
abbrev pub packed_to : ℕ → ℕ → Result Name Refusal
packed_to first second = Ok (record { first = first; second = second })

-- no text: the refusal's number and place, and what stands where the letters would be
abbrev pub no_text_with : {A : Type 0} → ℕ → ℕ → List ℕ → Result A NoText
no_text_with number place letters = Err (record { refusal = refusal_of number place; letters = letters })
