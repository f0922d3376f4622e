-- The totals of the headers on the path from the top down to a named one, on a file's bytes: a descent that finds each
-- enclosing header among its siblings, corrects its total and goes on under it (RULES.md, "Edits").
-- On an accepted file these are the totals and the room of edits' specs (proofs/Totals).
use Rattle.std.specs.Prelude.{ℕ, zero, suc, ◌+◌, ◌/◌, ◌%◌, List, Bool, true, false, cond, ◌&&◌, length, eqb, ltb, leb}
use Rattle.words.specs.Words.{words, word_at, put_word}
use Rattle.headers.specs.Header.{type_at, size_at, extent_at, extent_words}
use Rattle.kinds.specs.Kinds.{is_counted}
use Rattle.edits.specs.Edits.{moved}
use Rattle.edits.specs.Allowed.{Fault?, fine, fault}
use Rattle.totals.specs.declared.Holder.{Holder}
use Rattle.totals.specs.declared.Holder.TheVariants.{Nowhere, Itself, Inside}
use Rattle.totals.specs.declared.Room.{Room}
use Rattle.totals.specs.declared.Room.TheVariants.{Fine, Full}

-- what the element at a place is to a place p before its extent's end: it starts there; or it is a header around p, which
-- is not in the header's own words; or neither
unfoldable pub holder_at : List ℕ → ℕ → ℕ → Holder
holder_at ws at p = cond (eqb at p) Itself (cond (leb (at + size_at ws at) p) (Inside at (at + size_at ws at)) Nowhere)

-- the element, among k that follow one another from the place `at` on, whose extent holds the place p
unfoldable pub holder_from : ℕ → List ℕ → ℕ → ℕ → Holder
holder_from zero ws at p = Nowhere
holder_from (suc k) ws at p = cond (leb (at + extent_words ws at) p) (holder_from k ws (at + extent_words ws at) p) (holder_at ws at p)

-- among all of them: each has at least two words, so no more than p start before p
unfoldable pub holder_of : List ℕ → ℕ → ℕ → Holder
holder_of ws at p = holder_from (suc p) ws at p

-- the bytes with word i raised or lowered by n, in its 16 bits
unfoldable pub word_moved : Bool → ℕ → ℕ → List ℕ → List ℕ
word_moved up n i s = put_word s i (moved up n (word_at (words s) i) % 65536)

-- the bytes with a header's count, if it is to be corrected, raised or lowered by 1
abbrev pub count_put : Bool → Bool → ℕ → List ℕ → List ℕ
count_put true up q s = word_moved up 1 (q + 19) s
count_put false up q s = s

-- the bytes with a header's total raised or lowered by n; the direct header's count, if it has one, by 1
unfoldable pub header_put : Bool → ℕ → Bool → ℕ → List ℕ → List ℕ
header_put up n direct q s = count_put (direct && is_counted (type_at (words s) q)) up q (word_moved up n (q + 18) s)

-- one step down: the named header itself, or one around it and then what is under that
abbrev pub totals_by : Holder → Bool → ℕ → ℕ → List ℕ → (ℕ → List ℕ → List ℕ) → List ℕ
totals_by Nowhere up n header s under = s
totals_by Itself up n header s under = header_put up n true header s
totals_by (Inside q inner) up n header s under = under inner (header_put up n false q s)

-- the bytes with the headers corrected from the list at the place `at` down to the named one, `left` of them at most
unfoldable pub totals_from : ℕ → Bool → ℕ → ℕ → ℕ → List ℕ → List ℕ
totals_from zero up n header at s = s
totals_from (suc left) up n header at s =
    totals_by (holder_of (words s) at header) up n header s (λ inner t. totals_from left up n header inner t)

-- from the top: depth 8 is the deepest, so a path has nine headers at most
unfoldable pub totals_put : Bool → ℕ → ℕ → List ℕ → List ℕ
totals_put up n header s = cond (ltb header (length s / 2)) (totals_from 9 up n header 0 s) s

-- a header that n more words would make larger than 65,535 words; else what is under it
unfoldable pub room_at : ℕ → List ℕ → ℕ → Room → Room
room_at n ws q rest = cond (leb (extent_at ws q + n) 65535) rest (Full q)

-- one step down, as for the totals
abbrev pub room_by : Holder → ℕ → ℕ → List ℕ → (ℕ → Room) → Room
room_by Nowhere n header ws under = Fine
room_by Itself n header ws under = room_at n ws header Fine
room_by (Inside q inner) n header ws under = room_at n ws q (under inner)

-- the outermost such header from the list at the place `at` down to the named one, of `left` at most
unfoldable pub room_from : ℕ → ℕ → ℕ → ℕ → List ℕ → Room
room_from zero n header at ws = Fine
room_from (suc left) n header at ws = room_by (holder_of ws at header) n header ws (λ inner. room_from left n header inner ws)

-- from the top
unfoldable pub room_of : ℕ → ℕ → List ℕ → Room
room_of n header s = cond (ltb header (length s / 2)) (room_from 9 n header 0 (words s)) Fine

-- the refusal that an answer stands for: 8 at the header
abbrev pub room_fault_by : Room → Fault?
room_fault_by Fine = fine
room_fault_by (Full q) = fault 8 q
