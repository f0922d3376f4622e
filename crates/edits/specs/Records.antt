-- Journal records (RULES.md, "Journal records"): a payload, then six words: kind, header place as a long, place as a long,
-- payload words.
use Rattle.std.specs.Prelude.{ℕ, ◌+◌, ◌-◌, ◌/◌, ◌%◌, List, [], ◌∷◌, ◌++◌, Bool, true, false, cond, ◌&&◌, length, take, drop, eqb, leb}
use Rattle.std.proofs.Math.Option.{Option, none, some}
use Rattle.words.specs.Words.{word_at, long_at}
use Rattle.files.specs.Spots.{Spot, spots_of, spot_in}
use Rattle.edits.specs.Bits.{flag_words}
use Rattle.edits.specs.Edits.{Edit, mark, rename, insert, remove, restore, extent_in, extent_places, flags_at}
use Rattle.headers.specs.Header.{name_first, name_second}
use Rattle.edits.specs.Allowed.{Fault?, fine, fault, is_under, edit_fault}

-- kind 1 flag, with the extent's old flags; 2 rename, with the two old words; 3 insert; 4 remove, with the words removed
pub data Rec : Type 0 where
  flag : ℕ → List ℕ → Rec
  renamed : ℕ → ℕ → ℕ → Rec
  inserted : Option ℕ → ℕ → Rec
  removed : Option ℕ → ℕ → List ℕ → Rec

-- the direct header of the element at a place
abbrev pub header_by : Option Spot → Option ℕ
header_by none = none
header_by (some x) = x.header

-- the deleted flags of an extent, as words
abbrev pub old_flags : List ℕ → List ℕ → List ℕ
old_flags qs ws = flag_words (flags_at qs ws)

-- the record of an edit on a file's words
unfoldable pub record_of : ℕ → List ℕ → Edit → Rec
record_of dim ws (mark p deleted) = flag p (old_flags (extent_places (spots_of dim ws) p) ws)
record_of dim ws (rename p a b) = renamed p (name_first ws p) (name_second ws p)
record_of dim ws (insert h p x) = inserted h p
record_of dim ws (remove p) = removed (header_by (spot_in (spots_of dim ws) p)) p (take (extent_in (spots_of dim ws) p) (drop p ws))
record_of dim ws (restore p x) = flag p (old_flags (extent_places (spots_of dim ws) p) ws)

-- a place as a long; -1 is 65535, 65535
abbrev pub long : Option ℕ → List ℕ
long none = 65535 ∷ 65535 ∷ []
long (some h) = h / 65536 ∷ h % 65536 ∷ []

abbrev pub six : ℕ → Option ℕ → ℕ → ℕ → List ℕ
six kind h p n = kind ∷ (long h ++ (long (some p) ++ (n ∷ [])))

unfoldable pub record_words : Rec → List ℕ
record_words (flag p x) = x ++ six 1 none p (length x)
record_words (renamed p a b) = a ∷ b ∷ six 2 none p 2
record_words (inserted h p) = six 3 h p 0
record_words (removed h p x) = x ++ six 4 h p (length x)

-- a journal's last record with the words before it, or none where it is ill-formed
abbrev pub Newest : Type 0
Newest = Option (Rec × List ℕ)

abbrev pub keep : Bool → Newest → Newest
keep true l = l
keep false l = none

-- a header place read back
abbrev pub place_of : ℕ → Option ℕ
place_of n = cond (eqb n 4294967295) none (some n)

abbrev pub at_top : Option ℕ → Bool
at_top none = true
at_top (some h) = false

-- the kinds of a record, 1 to 4, and no kind
pub data Kind : Type 0 where
  flags renames inserts removes no_kind : Kind

abbrev pub kind_of : ℕ → Kind
kind_of n = cond (eqb n 1) flags (cond (eqb n 2) renames (cond (eqb n 3) inserts (cond (eqb n 4) removes no_kind)))

-- the header place and the number of payload words are the kind's
abbrev pub formed : Kind → Option ℕ → ℕ → Bool
formed flags h n = at_top h && leb 1 n
formed renames h n = at_top h && eqb n 2
formed inserts h n = eqb n 0
formed removes h n = true
formed no_kind h n = false

-- the record of a kind, with the words before it
abbrev pub build : Kind → Option ℕ → ℕ → List ℕ → List ℕ → Newest
build flags h p x before = some (flag p x, before)
build renames h p x before = some (renamed p (word_at x 0) (word_at x 1), before)
build inserts h p x before = some (inserted h p, before)
build removes h p x before = some (removed h p x, before)
build no_kind h p x before = none

-- the record of this kind and these places whose six words begin at t, behind n payload words
abbrev pub read_by : List ℕ → ℕ → ℕ → Kind → Option ℕ → ℕ → Newest
read_by js t n k h p = keep (leb n t && formed k h n) (build k h p (take n (drop (t - n) js)) (take (t - n) js))

abbrev pub read_at : List ℕ → ℕ → ℕ → Newest
read_at js t n = read_by js t n (kind_of (word_at js t)) (place_of (long_at js (t + 1))) (long_at js (t + 3))

unfoldable pub last_record : List ℕ → Newest
last_record js = keep (leb 6 (length js)) (read_at js (length js - 6) (word_at js (length js - 6 + 5)))

-- the reversal: the opposite edit at the recorded places; old flags are written back, whatever stands there
unfoldable pub reversal : List ℕ → Rec → Edit
reversal ws (flag p x) = restore p x
reversal ws (renamed p a b) = rename p a b
reversal ws (inserted h p) = remove p
reversal ws (removed h p x) = insert h p x

-- the element that a kind 3 record places is directly under its header place
abbrev pub under_its_header : List Spot → Rec → Bool
under_its_header xs (flag p x) = true
under_its_header xs (renamed p a b) = true
under_its_header xs (inserted h p) = is_under (spot_in xs p) h
under_its_header xs (removed h p x) = true

abbrev pub is_fine : Fault? → Bool
is_fine fine = true
is_fine (fault n p) = false

-- the reversal is allowed: the edit would not be refused for another cause than 1, 15 or 16, and the element is there
unfoldable pub reversible : ℕ → List ℕ → Rec → Bool
reversible dim ws r = under_its_header (spots_of dim ws) r && is_fine (edit_fault dim ws (reversal ws r))
