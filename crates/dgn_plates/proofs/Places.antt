-- The plates by places are those of the list of elements of an accepted file, each as the call for it gives it.
use Prim.Native.Nat.{ℕ, ◌-◌}
use mathlib.Core.Path.{◌≡◌, refl, ap, ◌∙◌}
use mathlib.Core.List.{List, [], ◌∷◌, map}
use mathlib.Core.Option.{some}
use lib.IntN.{ℤ}
use lib.ListN.{drop}
use Rattle.words.specs.Words.{words}
use Rattle.files.specs.Judge.{judge_of}
use Rattle.files.specs.Spots.{Spot, spots_of, spot_in}
use Rattle.plates.proofs.Promises.{plate_given}
use Rattle.order.specs.Order.{place_of}
use Rattle.order.specs.Fitting.{part_of}
use Rattle.order.proofs.Fitting.{Going}
use Rattle.order.proofs.Order.{FoundIn, found_drop, file_found}
use Rattle.order.proofs.Items.{items_are}
use Rattle.dgn_plates.specs.Plates.{Entry, in_plates, plate_entry, plate_items, plates_part, plates_from}
use Rattle.dgn_plates.proofs.Slices.{lays_plates}
use Rattle.files.specs.Accepted.{accepted_with}

module _ (dim : ℕ) (s : List ℕ) (e d m : ℕ) (j : judge_of dim s ≡ accepted_with e d m) where
  items_each : (x : Spot) → spot_in (spots_of dim (words s)) x.place ≡ some x → plate_items (words s) x.place ≡ plate_entry dim s x
  unfolding plate_items
  items_each x f = rw (plate_given dim s x.place e d m x j f).judged refl

  items_map : (xs : List Spot) → FoundIn (spots_of dim (words s)) xs → map (λ x. plate_items (words s) x.place) xs ≡ map (plate_entry dim s) xs
  items_map [] h = refl
  items_map (x ∷ xs) h = rw (items_each x h.0, items_map xs h.1) refl

  pub plates_are : (room k : ℕ) → part_of room k (plates_from (e - k) (words s) k) ≡ plates_part dim s room k
  unfolding plates_part
  plates_are room k =
      let xs = spots_of dim (words s) in
      ap (part_of room k) (items_are dim s e d m j (plate_items (words s)) k ∙ items_map (drop k xs) (found_drop xs xs k (file_found dim s e d m j)))

-- the plate of element number i
abbrev pub items_of : List ℕ → ℕ → List Entry
items_of file i = plate_items (words file) (place_of (words file) i)

-- what was put so far
abbrev pub So-far : List ℕ → ℕ → ℕ → List ℤ → List ℤ → ℕ → ℕ → Type 0
So-far file elements k numbers₀ numbers i used =
    Going in_plates lays_plates (part_of (in_plates.room numbers₀) k (plates_from (elements - k) (words file) k)) numbers₀ (items_of file) elements i used numbers
