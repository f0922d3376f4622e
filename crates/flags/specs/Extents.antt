-- The deleted flags of the elements of an extent, which are found by their sizes (RULES.md, "Edits", "Journal records"). ws are
-- the words of a file's used part s; the extent ends at the place `end`.
use Rattle.std.specs.Prelude.{ℕ, zero, suc, ◌+◌, ◌-◌, List, [], ◌∷◌, Bool, cond, length, replicate, leb, ltb}
use Rattle.words.specs.Words.{words, word_at, put_word}
use Rattle.headers.specs.Header.{size_at}
use Rattle.edits.specs.Bits.{digits}
use Rattle.edits.specs.Edits.{flagged, flags_at}
use Rattle.edits.specs.Records.{old_flags}
use Rattle.flags.specs.declared.Sixteen.{Sixteen}

-- at most n places from `at` on and before `end`, each the last one and its size; and the place behind them
unfoldable pub places_by : ℕ → List ℕ → ℕ → ℕ → List ℕ
places_by zero ws at end = []
places_by (suc n) ws at end = cond (ltb at end) (at ∷ places_by n ws (at + size_at ws at) end) []

unfoldable pub behind_by : ℕ → List ℕ → ℕ → ℕ → ℕ
behind_by zero ws at end = at
behind_by (suc n) ws at end = cond (ltb at end) (behind_by n ws (at + size_at ws at) end) at

-- all of them; none where the words end before `end`
unfoldable pub places_in : List ℕ → ℕ → ℕ → List ℕ
places_in ws at end = cond (leb end (length ws)) (places_by (suc (end - at)) ws at end) []

-- the bytes with bit 15 of the word at a place set or clear; and with the flags of a list at the places of another
unfoldable pub flag_put : Bool → ℕ → List ℕ → List ℕ
flag_put deleted p s = put_word s p (flagged deleted (word_at (words s) p))

abbrev pub flags_put : List ℕ → List Bool → List ℕ → List ℕ
flags_put [] bs s = s
flags_put (q ∷ qs) [] s = s
flags_put (q ∷ qs) (b ∷ bs) s = flags_put qs bs (flag_put b q s)

-- the bytes with the flags of the elements from `at` on all set, or all clear
unfoldable pub all_put : Bool → ℕ → ℕ → List ℕ → List ℕ
all_put deleted at end s = flags_put (places_in (words s) at end) (replicate (length (places_in (words s) at end)) deleted) s

-- words put into a buffer one behind another, from the word i on
abbrev pub words_put : List ℕ → ℕ → List ℕ → List ℕ
words_put s i [] = s
words_put s i (w ∷ ws) = words_put (put_word s i w) (suc i) ws

-- a buffer whose first words are the old flags of these elements, in the bytes s
unfoldable pub old_put : ℕ → ℕ → List ℕ → List ℕ → List ℕ
old_put at end s out = words_put out 0 (old_flags (places_in (words s) at end) (words s))

-- the flags of at most n elements as the digits of a number, and the place behind them
abbrev pub flags_read : ℕ → List ℕ → ℕ → ℕ → Sixteen
flags_read n ws at end = record { next = behind_by n ws at end; bits = digits (flags_at (places_by n ws at end) ws) }
