-- The last record of a journal's used bytes as numbers: its kind, header place, place and payload words, and the used length
-- before it, which is where its payload begins.
use Rattle.std.specs.Prelude.{ℕ, ◌+◌, ◌*◌, ◌≤◌, ◌<◌, ◌≡◌, ◌⊎◌, true, cond, List, [], ◌∷◌, length, get_or, eqb, None, Some, Option as Maybe}
use Rattle.std.proofs.Math.Option.{Option, none, some}
use Rattle.words.specs.Words.{Below}
use Rattle.limits.specs.Limits.{used_ok}
use Rattle.edits.specs.Calls.{used_words}
use Rattle.edits.specs.Records.{Rec, flag, renamed, inserted, removed, Newest, place_of, last_record}
use Rattle.journals.specs.declared.Last.TheVariants.{Flag, Renamed, Inserted, Removed}
use Rattle.journals.specs.declared.Last.{Last}
use Rattle.answers.specs.Answers.{Reply, done, refuse, Replied}

-- a header's place, 18446744073709551615 for the top
abbrev pub header_number : Option ℕ → ℕ
header_number none = 18446744073709551615
header_number (some h) = h

abbrev pub record_numbers : Rec → ℕ → List ℕ
record_numbers (flag p x) before = 1 ∷ header_number none ∷ p ∷ length x ∷ before ∷ []
record_numbers (renamed p a b) before = 2 ∷ header_number none ∷ p ∷ 2 ∷ before ∷ []
record_numbers (inserted h p) before = 3 ∷ header_number h ∷ p ∷ 0 ∷ before ∷ []
record_numbers (removed h p x) before = 4 ∷ header_number h ∷ p ∷ length x ∷ before ∷ []

-- 19 where it is ill-formed
abbrev pub newest_reply : Newest → Reply ℕ
newest_reply none = refuse 19 0
newest_reply (some l) = done (record_numbers l.0 (2 * length l.1))

-- 1 unless the journal may be lent with so many bytes used, then 17 where none is
unfoldable pub record_reply : List ℕ → ℕ → Reply ℕ
record_reply journal jused =
    cond (used_ok (length journal) jused)
    (cond (eqb jused 0) (refuse 17 0) (newest_reply (last_record (used_words journal jused))))
    (refuse 1 0)

---- of a private function: the same by what was read

abbrev pub last_reply : Maybe Last → Reply ℕ
last_reply None = refuse 19 0
last_reply (Some (Flag p n before)) = done (1 ∷ header_number none ∷ p ∷ n ∷ before ∷ [])
last_reply (Some (Renamed p a b before)) = done (2 ∷ header_number none ∷ p ∷ 2 ∷ before ∷ [])
last_reply (Some (Inserted h p before)) = done (3 ∷ header_number (place_of h) ∷ p ∷ 0 ∷ before ∷ [])
last_reply (Some (Removed h p n before)) = done (4 ∷ header_number (place_of h) ∷ p ∷ n ∷ before ∷ [])

---- what the numbers are good for

-- the record stands at the end of the used bytes: n payload words from `before` on, then six words. So it has a payload to look
-- at, and `before` may be handed in next, for the record before it
pub record Ends (journal : List ℕ) (used n before : ℕ) : Type 0 where
  pub all : before + 2 * n + 12 ≡ used
  pub lent : used_ok (length journal) before ≡ true

abbrev pub EndsThere : Type 0
EndsThere =
    (journal : List ℕ) (used kind header place n before : ℕ) →
    record_reply journal used ≡ done (kind ∷ header ∷ place ∷ n ∷ before ∷ []) → Ends journal used n before

-- its kind is one of four, its header's place, but for the top, and its place are longs, its payload's words are counted by a word, and
-- the used length before it is one of a buffer
pub record SmallRecord (kind header place n before : ℕ) : Type 0 where
  pub a_kind : (1 ≤ kind) × (kind ≤ 4)
  pub a_header : (header < 4294967295) ⊎ (header ≡ header_number none)
  pub a_place : place < 4294967296
  pub payload : n < 65536
  pub back : before ≤ 1048576

-- of a call that is done, with any slice and any numbers that its contract allows
abbrev pub RecordWithin : Type 0
RecordWithin =
    (journal : List ℕ) (used : ℕ) (out t : List ℕ) → Below 256 journal → Replied 5 (record_reply journal used) out 0 t →
    SmallRecord (get_or t 0 0) (get_or t 1 0) (get_or t 2 0) (get_or t 3 0) (get_or t 4 0)
