-- What a call of a session that is lent an index owes (RULES.md, "Sessions"): it is one step of edits' definition of a session with
-- that index. Its answer as an edit's and the index, and as numbers.
use Rattle.std.specs.Prelude.{ℕ, List, [], ◌∷◌, Err, Ok, Result}
use Rattle.std.proofs.Math.Option.{Option, some}
use Rattle.edits.specs.Calls.{Index, Session, Call}
use Rattle.opening.specs.Opening.{session_with}
use Rattle.opening.specs.Steps.{SteppedAll}
use Rattle.edits.specs.UsedLengths.{made_with}
use Rattle.edits.specs.declared.UsedLengths.{UsedLengths}
use Rattle.indexed.specs.declared.AllLengths.{AllLengths}
use Rattle.refusals.specs.declared.Refusal.{Refusal}

-- an index by its buffer and used length, and a session that is lent it
abbrev pub index_lent : List ℕ → ℕ → Option Index
index_lent buffer iused = some (record { buffer = buffer; iused = iused })

abbrev pub session_indexed : List ℕ → ℕ → List ℕ → ℕ → List ℕ → ℕ → Session
session_indexed file used journal jused index iused = session_with file used journal jused (index_lent index iused)

-- the answer without the index's used length
abbrev pub edited_of : Result AllLengths Refusal → Result UsedLengths Refusal
edited_of (Ok lengths) = made_with lengths.used lengths.jused
edited_of (Err refusal) = Err refusal

-- the index's used length then: the answered one; of a refusal the one that was lent
abbrev pub iused_then : Result AllLengths Refusal → ℕ → ℕ
iused_then (Ok lengths) iused = lengths.iused
iused_then (Err refusal) iused = iused

abbrev pub SteppedWith : ℕ → List ℕ → ℕ → List ℕ → ℕ → List ℕ → ℕ → Call → Result AllLengths Refusal → List ℕ → List ℕ → List ℕ → Type 0
SteppedWith dim file used journal jused index iused c r file' journal' index' =
    SteppedAll dim (session_indexed file used journal jused index iused) c (edited_of r) file' journal' (index_lent index' (iused_then r iused))

-- the numbers of each answer: 0 and the used lengths, or the refusal's number and place
abbrev pub indexed_numbers : Result AllLengths Refusal → List ℕ
indexed_numbers (Ok lengths) = 0 ∷ lengths.used ∷ lengths.jused ∷ lengths.iused ∷ []
indexed_numbers (Err refusal) = refusal.number ∷ refusal.place ∷ []
