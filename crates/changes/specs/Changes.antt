-- The bytes that an edit leaves of a file's buffer once nothing refuses it; proofs/Made: they are the buffer with the words
-- of edits' `apply` stored. Mark and its undo change the used part alone (crate flags), and so does rename (specs/CellNames);
-- insert and remove correct totals in it and move what follows.
use Rattle.std.specs.Prelude.{ℕ, ◌/◌, List, ◌++◌, Bool, true, false, cond, length, take, drop, leb}
use Rattle.places.specs.declared.Above.{Above}
use Rattle.places.specs.declared.Above.TheVariants.{Top, Under}
use Rattle.totals.specs.Totals.{totals_put}
use Rattle.buffers.specs.Files.{words_inserted, words_removed}

-- the bytes with the totals on the path down to a named header corrected; at the top there is none
abbrev pub totals_under : Bool → ℕ → Above → List ℕ → List ℕ
totals_under up n Top s = s
totals_under up n (Under h) s = totals_put up n h s

-- a buffer with its used part changed
abbrev pub used_totals : Bool → ℕ → Above → List ℕ → ℕ → List ℕ
used_totals up n h s used = totals_under up n h (take used s) ++ drop used s

-- a buffer with a piece put in under a header at a place; as it was where it is shorter than its used length
unfoldable pub piece_in : List ℕ → ℕ → Above → ℕ → List ℕ → List ℕ
piece_in s used h p x = cond (leb used (length s)) (words_inserted (used_totals true (length x / 2) h s used) used p x) s

-- a buffer with n words at a place under a header taken out; as it was where it is shorter than its used length
unfoldable pub extent_out : List ℕ → ℕ → Above → ℕ → ℕ → List ℕ
extent_out s used h p n = cond (leb used (length s)) (words_removed (used_totals false n h s used) used p n) s
