-- A journal's buffer with a record pushed, and its last record read (RULES.md, "Journal records").
use Rattle.std.specs.Prelude.{ℕ, ◌+◌, ◌*◌, ◌/◌, ◌%◌, ◌≤◌, ◌<◌, ◌≡◌, List, ◌++◌, Bool, cond, ◌&&◌, length, take, drop, eqb, leb, None, Some, Option as Maybe}
use Rattle.std.proofs.Math.Option.{Option, none, some}
use Rattle.words.specs.Words.{words, bytes}
use Rattle.edits.specs.Records.{Rec, flag, renamed, inserted, removed, six, place_of, kind_of, formed, read_at, last_record}
use Rattle.edits.specs.Calls.{pushed}
use Rattle.copies.specs.Copies.{copied}
use Rattle.journals.specs.declared.Last.TheVariants.{Flag, Renamed, Inserted, Removed}
use Rattle.journals.specs.declared.Last.{Last}

-- the buffer with a record's six words from the byte a on; as it was where they do not fit. The header place is the number
-- of its long, 4294967295 for the top
unfoldable pub six_put : List ℕ → ℕ → ℕ → ℕ → ℕ → ℕ → List ℕ
six_put s a kind header p n = copied s a (bytes (six kind (place_of header) p n))

-- both lengths are even, and the payload and six words have room behind the used bytes
abbrev pub push_fits : List ℕ → ℕ → List ℕ → Bool
push_fits s used payload = eqb (used % 2) 0 && (eqb (length payload % 2) 0 && leb (used + length payload + 12) (length s))

-- the buffer with the record behind its used bytes; as it was where the record does not fit
unfoldable pub record_pushed : List ℕ → ℕ → ℕ → ℕ → ℕ → List ℕ → List ℕ
record_pushed s used kind header p payload =
    cond (push_fits s used payload)
    (pushed s used (words payload ++ six kind (place_of header) p (length (words payload)))) s

-- the kind is 1 to 4, and the header place and the number of payload words are the kind's
abbrev pub well_formed : ℕ → Option ℕ → ℕ → Bool
well_formed kind h n = formed (kind_of kind) h n

-- what an answer says of a journal's words: the record, and the words before it
abbrev pub record_in : List ℕ → Maybe Last → Option (Rec × List ℕ)
record_in js None = none
record_in js (Some (Flag p n before)) = some (flag p (take n (drop (before / 2) js)), take (before / 2) js)
record_in js (Some (Renamed p a b before)) = some (renamed p a b, take (before / 2) js)
record_in js (Some (Inserted h p before)) = some (inserted (place_of h) p, take (before / 2) js)
record_in js (Some (Removed h p n before)) = some (removed (place_of h) p (take n (drop (before / 2) js)), take (before / 2) js)

-- the used length before a record is even, its payload of n words and its six words stand within the size bytes, and
-- its place is a long
pub record RecordWithin (size n p before : ℕ) : Type 0 where
  pub even : before % 2 ≡ 0
  pub room : before + 2 * n + 12 ≤ size
  pub small : p < 4294967296

-- what holds of the numbers of an answer: a header place is a long, and the two old words are words
abbrev pub LastWithin : ℕ → Maybe Last → Type 0
LastWithin size None = Unit {0}
LastWithin size (Some (Flag p n before)) = RecordWithin size n p before
LastWithin size (Some (Renamed p a b before)) = (a < 65536) × (b < 65536) × RecordWithin size 2 p before
LastWithin size (Some (Inserted h p before)) = (h < 4294967296) × RecordWithin size 0 p before
LastWithin size (Some (Removed h p n before)) = (h < 4294967296) × RecordWithin size n p before

-- what reading the record at word t, with a payload of n words, answers
pub record RecordRead (j : List ℕ) (t n : ℕ) (r : Maybe Last) : Type 0 where
  pub is : record_in (words j) r ≡ read_at (words j) t n
  pub within : LastWithin (length j) r

-- what reading the last record answers
pub record LastRead (j : List ℕ) (r : Maybe Last) : Type 0 where
  pub is : record_in (words j) r ≡ last_record (words j)
  pub within : LastWithin (length j) r
