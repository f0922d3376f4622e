-- The plates of the cells among the elements number k, k + 1, .. in file order, as many as a slice of numbers holds whole, of 11 numbers
-- each.
use Rattle.std.specs.Prelude.{ℕ, ◌*◌, ◌/◌, ◌≡◌, Bool, true, false, List, [], ◌∷◌, ◌++◌, map, ℤ, pos, length, drop, Err, Ok, Result}
use Rattle.std.proofs.lemmas.List.Edits.{sets}
use Rattle.words.specs.Words.{words, word_at}
use Rattle.kinds.specs.FirstWord.{deleted_of}
use Rattle.files.specs.Spots.{Spot, spots_of}
use Rattle.plates.specs.declared.Plate.{Plate}
use Rattle.plates.specs.Plates.{plate_numbers, plate_of}
use Rattle.plates.specs.Hops.{plate_in}
use Rattle.order.specs.Order.{place_of}
use Rattle.order.specs.Fitting.{Fitting, part_of, items_from, Slices}
use Rattle.refusals.specs.declared.Refusal.{Refusal}

-- the nine numbers of a plate as signed ones
abbrev pub plate_given : Plate → List ℤ
plate_given p = map pos (plate_numbers p)

-- what is put into a slice from a place on of the answer of the call for a plate, and whether it is one
abbrev pub is_counted : Result Plate Refusal → Bool
is_counted (Ok plate) = true
is_counted (Err refusal) = false

abbrev pub put_from : List ℤ → ℕ → Result Plate Refusal → List ℤ
put_from s from (Ok plate) = sets s from (plate_given plate)
put_from s from (Err refusal) = s

pub record CellPut (a : Result Plate Refusal) (from : ℕ) (s : List ℤ) (r : Bool) (t : List ℤ) : Type 0 where
  pub is : r ≡ is_counted a
  pub given : t ≡ put_from s from a

-- a cell: its place, 1 where it is deleted, else 0, and its plate
pub record Entry : Type 0 where
  pub place : ℕ
  pub deleted : ℕ
  pub plate : Plate

-- one for each answer that is no refusal
abbrev pub entry_by : Result Plate Refusal → ℕ → ℕ → List Entry
entry_by (Ok plate) place deleted = record { place = place; deleted = deleted; plate = plate } ∷ []
entry_by (Err refusal) place deleted = []

-- its 11 numbers
abbrev pub entry_numbers : Entry → List ℤ
entry_numbers e = pos e.place ∷ pos e.deleted ∷ plate_given e.plate

abbrev pub all_numbers : List Entry → List ℤ
all_numbers [] = []
all_numbers (e ∷ es) = entry_numbers e ++ all_numbers es

-- the slice, which takes as many as it holds
abbrev pub in_plates : Slices (List ℤ) Entry
in_plates = record { room = λ s. length s / 11; put = λ s k es. sets s (11 * k) (all_numbers es) }

-- of an element of a file, as the call for the plate at its place gives it
abbrev pub plate_entry : ℕ → List ℕ → Spot → List Entry
plate_entry dim s x = entry_by (plate_of dim s x.place) x.place (deleted_of (word_at (words s) x.place))

-- those of a file
unfoldable pub plates_part : ℕ → List ℕ → ℕ → ℕ → Fitting Entry
plates_part dim s room k = part_of room k (map (plate_entry dim s) (drop k (spots_of dim (words s))))

-- the same of the element at a place of words that were judged, and of n elements from number k on, by places
unfoldable pub plate_items : List ℕ → ℕ → List Entry
plate_items ws at = entry_by (plate_in ws at) at (deleted_of (word_at ws at))

abbrev pub plates_from : ℕ → List ℕ → ℕ → List (List Entry)
plates_from n ws k = items_from n (λ i. plate_items ws (place_of ws i)) k
