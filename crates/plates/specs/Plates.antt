-- The plate of a cell (RULES.md, "Plates"): ws are the file's words, at is the cell's place.
use Rattle.std.specs.Prelude.{ℕ, ◌+◌, List, [], ◌∷◌, Bool, cond, Err, Ok, Result}
use Rattle.std.specs.Int.Count.{ones_in}
use Rattle.refusals.specs.Refusals.{refused_with}
use Rattle.refusals.specs.declared.Refusal.{Refusal}
use Rattle.words.specs.Words.{words, word_at}
use Rattle.kinds.specs.FirstWord.{bit}
use Rattle.kinds.specs.Kinds.{is_pointed, is_curve, is_header, is_cell}
use Rattle.headers.specs.Header.{type_at, name_first, name_second}
use Rattle.files.specs.Spots.{spots_of}
use Rattle.places.specs.Places.{spotted_at}
use Rattle.finder.specs.Finder.{is_live}
use Rattle.promises.specs.Components.{place_if, direct_places}
use Rattle.plates.specs.Kinds.{is_line, is_text, is_other}
use Rattle.plates.specs.declared.Plate.{Plate}
use Rattle.places.specs.declared.Spotted.{Spotted}

-- those of some elements, by their places, that are live: deleted ones are told by their own flag
abbrev pub live_among : List ℕ → List ℕ → List ℕ
live_among ws [] = []
live_among ws (q ∷ qs) = place_if (is_live ws q) q (live_among ws qs)

-- the places of the live direct components of the element at a place
unfoldable pub live_direct : ℕ → List ℕ → ℕ → List ℕ
live_direct dim ws at = live_among ws (direct_places (spots_of dim ws) at)

-- how many of some elements are of a kind
abbrev pub count_of : (ℕ → Bool) → List ℕ → List ℕ → ℕ
count_of kind ws [] = 0
count_of kind ws (q ∷ qs) = bit (kind (type_at ws q)) + count_of kind ws qs

-- the levels: the one bits of the four mask words 22 to 25, of 16 bits each
unfoldable pub levels_at : List ℕ → ℕ → ℕ
levels_at ws at = ones_in 16 (word_at ws (at + 22)) + ones_in 16 (word_at ws (at + 23)) + ones_in 16 (word_at ws (at + 24)) + ones_in 16 (word_at ws (at + 25))

-- the plate of the cell at a place, by the places of its live direct components
abbrev pub plate_on : List ℕ → ℕ → List ℕ → Plate
plate_on ws at qs = record {
  first = name_first ws at;
  second = name_second ws at;
  lines = count_of is_line ws qs;
  pointed = count_of is_pointed ws qs;
  texts = count_of is_text ws qs;
  curves = count_of is_curve ws qs;
  headers = count_of is_header ws qs;
  others = count_of is_other ws qs;
  levels = levels_at ws at;
}

abbrev pub plate_at : ℕ → List ℕ → ℕ → Plate
plate_at dim ws at = plate_on ws at (live_direct dim ws at)

-- the six counts of a plate, in their order
abbrev pub counts_of : Plate → List ℕ
counts_of p = p.lines ∷ p.pointed ∷ p.texts ∷ p.curves ∷ p.headers ∷ p.others ∷ []

-- all numbers of a plate: the two words of the name, the counts, the levels
abbrev pub plate_numbers : Plate → List ℕ
plate_numbers p = p.first ∷ p.second ∷ p.lines ∷ p.pointed ∷ p.texts ∷ p.curves ∷ p.headers ∷ p.others ∷ p.levels ∷ []

-- the call: 1, the file's own refusals, 13 where no element starts at the place, 18 at 0 where it is no cell
abbrev pub plate_by : Result Spotted Refusal → Bool → Plate → Result Plate Refusal
plate_by (Err refusal) cell plate = Err refusal
plate_by (Ok spot) cell plate = cond cell (Ok plate) (refused_with 18 0)

unfoldable pub plate_of : ℕ → List ℕ → ℕ → Result Plate Refusal
plate_of dim s at = plate_by (spotted_at dim s at) (is_cell (type_at (words s) at)) (plate_at dim (words s) at)
