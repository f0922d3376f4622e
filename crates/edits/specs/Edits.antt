-- The edits on a file's used words, as RULES.md, "Edits", defines them.
use Rattle.std.specs.Prelude.{ℕ, ◌+◌, ◌-◌, ◌%◌, List, [], ◌∷◌, ◌++◌, Bool, true, false, ◌&&◌, length, take, drop, set, replicate, eqb, leb, ltb}
use Rattle.std.proofs.Math.Option.{Option, none, some}
use Rattle.words.specs.Words.{word_at}
use Rattle.headers.specs.Header.{type_at, name_place, total_at, count_at}
use Rattle.kinds.specs.FirstWord.{deleted_of}
use Rattle.kinds.specs.Kinds.{is_counted}
use Rattle.files.specs.Spots.{Spot, spots_of, spot_in}
use Rattle.edits.specs.Bits.{word_flags}

-- mark: place, and deleted (true) or live; rename: place and the name's two words; insert: header's place (none: the
-- top), place and the piece's words; remove: place; restore, which no call asks for and a mark's undo makes: place and the
-- deleted flags of its extent as words
pub data Edit : Type 0 where
  mark : ℕ → Bool → Edit
  rename : ℕ → ℕ → ℕ → Edit
  insert : Option ℕ → ℕ → List ℕ → Edit
  remove : ℕ → Edit
  restore : ℕ → List ℕ → Edit

-- the word with bit 15 set or clear
abbrev pub flagged : Bool → ℕ → ℕ
flagged true w = 32768 + w % 32768
flagged false w = w % 32768

-- a place kept in a list where a test holds
abbrev pub keep_if : Bool → ℕ → List ℕ → List ℕ
keep_if true q qs = q ∷ qs
keep_if false q qs = qs

-- the headers around a place, outermost first: those begun before it whose extents it lies in
abbrev pub around : List Spot → ℕ → List ℕ
around [] p = []
around (x ∷ xs) p = keep_if (ltb x.place p && ltb p x.end) x.place (around xs p)

-- the headers from the top down to the named one
abbrev pub down_to : List Spot → Option ℕ → List ℕ
down_to xs none = []
down_to xs (some h) = around xs h ++ (h ∷ [])

-- the words of an element's extent, 0 where none starts there
abbrev pub spot_words : Option Spot → ℕ
spot_words none = 0
spot_words (some x) = x.end - x.place

abbrev pub extent_in : List Spot → ℕ → ℕ
extent_in xs p = spot_words (spot_in xs p)

-- the places of the elements that start from p on and before q, in file order
abbrev pub places_from : List Spot → ℕ → ℕ → List ℕ
places_from [] p q = []
places_from (x ∷ xs) p q = keep_if (leb p x.place && ltb x.place q) x.place (places_from xs p q)

-- the elements of an extent, the one named first
unfoldable pub extent_places : List Spot → ℕ → List ℕ
extent_places xs p = places_from xs p (p + extent_in xs p)

-- the deleted flags at places, and the words with such flags there
abbrev pub flags_at : List ℕ → List ℕ → List Bool
flags_at [] ws = []
flags_at (q ∷ qs) ws = eqb (deleted_of (word_at ws q)) 1 ∷ flags_at qs ws

abbrev pub with_flags : List ℕ → List Bool → List ℕ → List ℕ
with_flags [] bs ws = ws
with_flags (q ∷ qs) [] ws = ws
with_flags (q ∷ qs) (b ∷ bs) ws = with_flags qs bs (set ws q (flagged b (word_at ws q)))

-- a number raised or lowered
abbrev pub moved : Bool → ℕ → ℕ → ℕ
moved true n w = w + n
moved false n w = w - n

-- a count raised or lowered by 1
abbrev pub count_moved : Bool → Bool → ℕ → List ℕ → List ℕ
count_moved true up q ws = set ws (q + 19) (moved up 1 (count_at ws q))
count_moved false up q ws = ws

-- a header's total raised or lowered by n; the direct header's count, if it has one, by 1
unfoldable pub corrected : Bool → ℕ → Bool → ℕ → List ℕ → List ℕ
corrected up n direct q ws =
    count_moved (direct && is_counted (type_at ws q)) up q (set ws (q + 18) (moved up n (total_at ws q)))

abbrev pub is_last : List ℕ → Bool
is_last [] = true
is_last (q ∷ qs) = false

-- each total on a path of headers, and the last one's count
abbrev pub raise : Bool → ℕ → List ℕ → List ℕ → List ℕ
raise up n [] ws = ws
raise up n (q ∷ qs) ws = raise up n qs (corrected up n (is_last qs) q ws)

-- words put in at a place, and taken out
unfoldable pub splice : ℕ → List ℕ → List ℕ → List ℕ
splice p x ws = take p ws ++ (x ++ drop p ws)

unfoldable pub cut : ℕ → ℕ → List ℕ → List ℕ
cut p n ws = take p ws ++ drop (p + n) ws

-- the words after an edit
unfoldable pub apply : ℕ → List ℕ → Edit → List ℕ
apply dim ws (mark p deleted) =
    with_flags (extent_places (spots_of dim ws) p) (replicate (length (extent_places (spots_of dim ws) p)) deleted) ws
apply dim ws (rename p a b) = set (set ws (name_place ws p) a) (name_place ws p + 1) b
apply dim ws (insert h p x) = splice p x (raise true (length x) (down_to (spots_of dim ws) h) ws)
apply dim ws (remove p) = cut p (extent_in (spots_of dim ws) p) (raise false (extent_in (spots_of dim ws) p) (around (spots_of dim ws) p) ws)
apply dim ws (restore p x) = with_flags (extent_places (spots_of dim ws) p) (word_flags x) ws
