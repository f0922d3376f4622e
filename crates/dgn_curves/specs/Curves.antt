-- The ellipses and arcs among the elements number k, k + 1, .. in file order, as many as two slices hold: of each 9 numbers in one, 5
-- floats in the other.
use Rattle.std.specs.Prelude.{ℕ, ◌*◌, ◌/◌, min, List, [], ◌∷◌, ◌++◌, map, ℤ, pos, length, drop, Float, Err, Ok, Result}
use Rattle.std.proofs.lemmas.List.Edits.{sets}
use Rattle.words.specs.Words.{word_at}
use Rattle.kinds.specs.FirstWord.{deleted_of}
use Rattle.turns.specs.declared.Turn.{Turn}
use Rattle.curve_views.specs.declared.Origin.{Origin}
use Rattle.curve_views.specs.declared.Curve.TheVariants as curves
use Rattle.curve_views.specs.CurveViews.{curve_in}
use Rattle.curve_numbers.specs.Numbers.{long_numbers, origin_floats}
use Rattle.files.specs.Spots.{spots_of}
use Rattle.order.specs.Order.{place_of}
use Rattle.order.specs.Fitting.{Fitting, part_of, items_from, Slices}
use Rattle.curve_views.specs.declared.Curve.{Curve}
use Rattle.refusals.specs.declared.Refusal.{Refusal}

-- an ellipse or an arc: its place, 1 where it is deleted, else 0, and what the call for it gives
pub record Entry : Type 0 where
  pub place : ℕ
  pub deleted : ℕ
  pub kind : ℕ
  pub start : ℕ
  pub sweep : ℕ
  pub turn : Turn
  pub primary : Float
  pub secondary : Float
  pub origin : Origin

abbrev pub entry_of : Curve → ℕ → ℕ → Entry
entry_of (curves.Ellipse primary secondary turn origin) place deleted =
    record { place = place; deleted = deleted; kind = 15; start = 0; sweep = 0; turn = turn; primary = primary; secondary = secondary; origin = origin }
entry_of (curves.Arc start sweep primary secondary turn origin) place deleted =
    record { place = place; deleted = deleted; kind = 16; start = start; sweep = sweep; turn = turn; primary = primary; secondary = secondary; origin = origin }

-- one for each answer that is no refusal
abbrev pub entry_by : Result Curve Refusal → ℕ → ℕ → List Entry
entry_by (Ok curve) place deleted = entry_of curve place deleted ∷ []
entry_by (Err refusal) place deleted = []

-- its 9 numbers and its 5 floats
abbrev pub entry_numbers : Entry → List ℤ
entry_numbers e = pos e.place ∷ pos e.deleted ∷ long_numbers e.kind e.start e.sweep e.turn

abbrev pub entry_floats : Entry → List Float
entry_floats e = e.primary ∷ e.secondary ∷ origin_floats e.origin

abbrev pub all_numbers : List Entry → List ℤ
all_numbers [] = []
all_numbers (e ∷ es) = entry_numbers e ++ all_numbers es

abbrev pub all_floats : List Entry → List Float
all_floats [] = []
all_floats (e ∷ es) = entry_floats e ++ all_floats es

-- the two slices, which take as many as both hold
pub record Both : Type 0 where
  pub numbers : List ℤ
  pub floats : List Float

abbrev pub both : List ℤ → List Float → Both
both numbers floats = record { numbers = numbers; floats = floats }

abbrev pub in_both : Slices Both Entry
in_both = record {
  room = λ s. min (length s.numbers / 9) (length s.floats / 5);
  put = λ s k es. both (sets s.numbers (9 * k) (all_numbers es)) (sets s.floats (5 * k) (all_floats es));
}

-- of the element at a place
unfoldable pub curve_items : ℕ → List ℕ → ℕ → List Entry
curve_items dim ws at = entry_by (curve_in dim ws at) at (deleted_of (word_at ws at))

-- those of a file
unfoldable pub curves_part : ℕ → List ℕ → ℕ → ℕ → Fitting Entry
curves_part dim ws room k = part_of room k (map (λ x. curve_items dim ws x.place) (drop k (spots_of dim ws)))

-- the same of n elements from number k on, by places
abbrev pub curves_from : ℕ → ℕ → List ℕ → ℕ → List (List Entry)
curves_from n dim ws k = items_from n (λ i. curve_items dim ws (place_of ws i)) k
