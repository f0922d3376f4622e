-- When the reversal of a journal's record is allowed, by what was found at its place, not by the list of all elements. On
-- an accepted file this is edits' specs/Records (proofs/ExactReversals). s are the used bytes, marker is the last word's place,
-- found is what starts at the place p.
use Rattle.std.specs.Prelude.{ℕ, List, Bool, false, cond, length, eqb, Err, Ok, Result}
use Rattle.words.specs.Words.{words, word_at}
use Rattle.names.specs.Names.{name_ok}
use Rattle.places.specs.declared.Above.{Above}
use Rattle.edits.specs.Bits.{flags_ok}
use Rattle.edits.specs.Records.{is_fine}
use Rattle.flags.specs.Extents.{places_in}
use Rattle.faults.specs.Faults.{rename_number, stands_under}
use Rattle.faults.specs.Inserting.{insert_refusal}
use Rattle.places.specs.declared.Spotted.{Spotted}
use Rattle.refusals.specs.declared.Refusal.{Refusal}

-- an element was found at the place, and the words x are the flags of its extent
abbrev pub flags_fit : Result Spotted Refusal → List ℕ → ℕ → List ℕ → Bool
flags_fit (Ok spot) ws p x = flags_ok (length (places_in ws p spot.end)) x
flags_fit (Err refusal) ws p x = false

-- whether a record's reversal is allowed, by its kind, its header place, its place and its payload x: of a flag the
-- payload is the extent's flags; of a rename the old words are a name that the cell can take; of an insert the element stands
-- directly under the header; of a remove the payload can be put back
unfoldable pub reverses_at : ℕ → List ℕ → ℕ → Result Spotted Refusal → ℕ → Above → ℕ → List ℕ → Bool
reverses_at dim s marker found kind header p x =
    cond (eqb kind 1) (flags_fit found (words s) p x)
    (cond (eqb kind 2) (eqb (rename_number (words s) found p (name_ok (word_at x 0) (word_at x 1))) 0)
    (cond (eqb kind 3) (stands_under found header)
    (is_fine (insert_refusal dim s marker found header p x))))
