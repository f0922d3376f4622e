-- Calls on a file: 1 and the file's own refusals first, then the element that starts at a place, else 13 (RULES.md,
-- "Order of checks"). All are stated over the one list of the file's elements, files' spotsOf.
use Rattle.std.specs.Prelude.{ℕ, List, Err, Ok, Result}
use Rattle.std.proofs.Math.Option.{Option, none, some}
use Rattle.words.specs.Words.{words}
use Rattle.files.specs.Judge.{judge_of}
use Rattle.files.specs.Spots.{Spot, spots_of, spot_in}
use Rattle.places.specs.declared.Above.{Above}
use Rattle.places.specs.declared.Above.TheVariants.{Top, Under}
use Rattle.files.specs.declared.Accepted.{Accepted}
use Rattle.places.specs.Placed.{placed_with}
use Rattle.places.specs.Spotted.{spotted_with}
use Rattle.places.specs.declared.Placed.{Placed}
use Rattle.places.specs.declared.Spotted.{Spotted}
use Rattle.refusals.specs.Refusals.{refused_with}
use Rattle.refusals.specs.declared.Refusal.{Refusal}

-- the direct header of an element
abbrev pub above_of : Option ℕ → Above
above_of none = Top
above_of (some h) = Under h

-- an element that starts at a place, 13 where none does
abbrev pub found_by : Option Spot → Result Spotted Refusal
found_by none = refused_with 13 0
found_by (some x) = spotted_with x.end x.depth (above_of x.header)

-- what a call on a file at a place finds: the file's own refusals come first
abbrev pub spotted_by : Result Accepted Refusal → Option Spot → Result Spotted Refusal
spotted_by (Err refusal) found = Err refusal
spotted_by (Ok file) found = found_by found

unfoldable pub spotted_at : ℕ → List ℕ → ℕ → Result Spotted Refusal
spotted_at dim s p = spotted_by (judge_of dim s) (spot_in (spots_of dim (words s)) p)

-- what a file is judged to be, with its marker's place and what is found at a place
abbrev pub placed_by : Result Accepted Refusal → Option Spot → Result Placed Refusal
placed_by (Err refusal) found = Err refusal
placed_by (Ok file) found = placed_with file.marker (found_by found)

unfoldable pub placed_at : ℕ → List ℕ → ℕ → Result Placed Refusal
placed_at dim s p = placed_by (judge_of dim s) (spot_in (spots_of dim (words s)) p)
