-- When a mark or a rename is refused, by what was found at its place, not by the list of all elements, and whether what
-- was found stands under a header. On an accepted file these are edits' specs/Allowed (proofs/ExactMarks). ws are the used
-- words, found is what starts at the place p.
use Rattle.std.specs.Prelude.{ℕ, List, [], ◌∷◌, Bool, true, false, eqb, Err, Ok, Result, is_ok}
use Rattle.words.specs.Words.{word_at}
use Rattle.headers.specs.Checks.{check, first_fault}
use Rattle.places.specs.declared.Above.{Above}
use Rattle.places.specs.declared.Above.TheVariants.{Top, Under}
use Rattle.edits.specs.Allowed.{flag_differs}
use Rattle.headers.specs.Header.{type_at}
use Rattle.kinds.specs.Kinds.{is_cell}
use Rattle.places.specs.declared.Spotted.{Spotted}
use Rattle.refusals.specs.declared.Refusal.{Refusal}

-- an element starts at the place
abbrev pub is_at : Result Spotted Refusal → Bool
is_at found = is_ok found

-- the place behind its extent, 0 where there is none
abbrev pub end_of : Result Spotted Refusal → ℕ
end_of (Ok spot) = spot.end
end_of (Err refusal) = 0

-- the number that marking answers: 13, 14, or 0 for none
unfoldable pub mark_number : List ℕ → Result Spotted Refusal → ℕ → Bool → ℕ
mark_number ws found p deleted =
    first_fault (check (is_at found) 13 ∷ check (flag_differs deleted (word_at ws p)) 14 ∷ [])

-- the number that renaming answers: 13, 18, 12 for the text, or 0 for none
unfoldable pub rename_number : List ℕ → Result Spotted Refusal → ℕ → Bool → ℕ
rename_number ws found p named =
    first_fault (check (is_at found) 13 ∷ check (is_cell (type_at ws p)) 18 ∷ check named 12 ∷ [])

-- whether two are the same: the top, or a header's place
abbrev pub same_above : Above → Above → Bool
same_above Top Top = true
same_above Top (Under b) = false
same_above (Under a) Top = false
same_above (Under a) (Under b) = eqb a b

-- an element starts at the place, directly under the named header
abbrev pub stands_under : Result Spotted Refusal → Above → Bool
stands_under (Ok spot) header = same_above spot.above header
stands_under (Err refusal) header = false
