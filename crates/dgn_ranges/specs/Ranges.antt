-- The elements number k, k + 1, .. in file order whose points do not all lie in their range: their places, as many as a slice holds.
use Rattle.std.specs.Prelude.{ℕ, List, [], ◌∷◌, map, ℤ, pos, drop, Bool, true, false, Err, Ok, Result}
use Rattle.words.specs.Words.{words}
use Rattle.files.specs.Spots.{Spot, spots_of}
use Rattle.order.specs.Order.{place_of}
use Rattle.order.specs.Fitting.{Fitting, part_of, items_from}
use Rattle.range_checks.specs.InRange.{in_range_in, in_range_of}
use Rattle.refusals.specs.declared.Refusal.{Refusal}

-- the place of an element, where the answer is no
abbrev pub entry_by : Result Bool Refusal → ℕ → List ℤ
entry_by (Ok true) at = []
entry_by (Ok false) at = pos at ∷ []
entry_by (Err refusal) at = []

-- of an element of a file, as the call at its place answers
abbrev pub range_entry : ℕ → List ℕ → Spot → List ℤ
range_entry dim s x = entry_by (in_range_of dim s x.place) x.place

-- those of a file
unfoldable pub ranges_part : ℕ → List ℕ → ℕ → ℕ → Fitting ℤ
ranges_part dim s room k = part_of room k (map (range_entry dim s) (drop k (spots_of dim (words s))))

-- the same by places, of n elements from number k on
abbrev pub entry_at : ℕ → List ℕ → ℕ → List ℤ
entry_at dim ws at = entry_by (in_range_in dim ws at) at

abbrev pub ranges_from : ℕ → ℕ → List ℕ → ℕ → List (List ℤ)
ranges_from n dim ws k = items_from n (λ i. entry_at dim ws (place_of ws i)) k
