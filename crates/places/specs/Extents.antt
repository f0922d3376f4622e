-- The extent of an element: 1, the file's own refusals and 13 come first (places/specs/Places).
use Rattle.std.specs.Prelude.{ℕ, ◌-◌, ◌*◌, List, [], take, drop, Err, Ok, Result}
use Rattle.places.specs.Places.{spotted_at}
use Rattle.places.specs.Extent.{extent_with}
use Rattle.places.specs.declared.Extent.{Extent}
use Rattle.places.specs.declared.Spotted.{Spotted}
use Rattle.refusals.specs.declared.Refusal.{Refusal}

-- the extent of the element that starts at a place: its start and its end
abbrev pub extent_by : Result Spotted Refusal → ℕ → Result Extent Refusal
extent_by (Ok spot) p = extent_with p spot.end
extent_by (Err refusal) p = Err refusal

unfoldable pub extent_answer : ℕ → List ℕ → ℕ → Result Extent Refusal
extent_answer dim s p = extent_by (spotted_at dim s p) p

-- the bytes of an extent, none where refused
abbrev pub part_by : Result Extent Refusal → List ℕ → List ℕ
part_by (Ok extent2) s = take (2 * extent2.end - 2 * extent2.start) (drop (2 * extent2.start) s)
part_by (Err refusal) s = []

unfoldable pub extent_bytes : ℕ → List ℕ → ℕ → List ℕ
extent_bytes dim s p = part_by (extent_answer dim s p) s
