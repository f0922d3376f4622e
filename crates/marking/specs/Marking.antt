-- What a rename owes once its text is packed: a promise of private functions.
use Rattle.std.specs.Prelude.{ℕ, Bool}
use Rattle.files.specs.Spots.{spots_of}
use Rattle.edits.specs.Edits.{rename}
use Rattle.edits.specs.Allowed.{rename_fault}
use Rattle.edits.specs.Calls.{Session, words_of, Outcome, edited}

-- of a rename by two words in an open session, `named` false where a text is no name
abbrev pub cell_renamed : ℕ → Session → ℕ → Bool → ℕ → ℕ → Outcome
cell_renamed dim s p named a b =
    edited dim s (rename p a b) (rename_fault (spots_of dim (words_of s)) (words_of s) p named)
