-- What is promised of the check, over the range that a view shows and the points that the calls for them give: yes exactly where each
-- point lies in the range, no exactly where some point does not, 6 exactly at another type.
use Rattle.std.specs.Prelude.{ℕ, ◌≡◌, ◌↔◌, true, false, List, ℤ, ◌≤ℤ◌, Err, None, Ok, Option, Result, Some}
use Rattle.places.specs.OfType.{TypeRefused}
use Rattle.views.specs.Views.{view_of}
use Rattle.views.specs.declared.Element.{Element}
use Rattle.points_linkages.specs.Points.{point_of}
use Rattle.points_linkages.specs.declared.Point.TheVariants as point
use Rattle.range_checks.specs.InRange.{is_range_checked, in_range_of}
use Rattle.points_linkages.specs.declared.Point.{Point}
use Rattle.refusals.specs.Refusals.{refused_with}
use Rattle.refusals.specs.declared.Refusal.{Refusal}
use Rattle.views.specs.declared.Range.{Range}

-- from low to high, both included
pub record Between (low high z : ℤ) : Type 0 where
  pub least : low ≤ℤ z
  pub most : z ≤ℤ high

-- a point that is given lies in a range; of a number that has no point nothing is said
abbrev pub Lies : Option Range → Result Point Refusal → Type 0
Lies None (Ok (point.Flat x y)) = ⊥
Lies None (Ok (point.Solid x y z)) = ⊥
Lies None (Err refusal) = Unit {0}
Lies (Some range) (Ok (point.Flat x y)) = Between range.low_x range.high_x x × Between range.low_y range.high_y y
Lies (Some range) (Ok (point.Solid x y z)) = Between range.low_x range.high_x x × (Between range.low_y range.high_y y × Between range.low_z range.high_z z)
Lies (Some range) (Err refusal) = Unit {0}

-- of an element of one of the four types
abbrev pub YesExactly : Type 0
YesExactly =
    (dim : ℕ) (s : List ℕ) (at : ℕ) (e : Element) → view_of dim s at ≡ Ok e → is_range_checked e.kind ≡ true →
    (in_range_of dim s at ≡ (Ok true)) ↔ ((k : ℕ) → Lies e.range (point_of dim s at k))

abbrev pub NoExactly : Type 0
NoExactly =
    (dim : ℕ) (s : List ℕ) (at : ℕ) (e : Element) → view_of dim s at ≡ Ok e → is_range_checked e.kind ≡ true →
    (in_range_of dim s at ≡ (Ok false)) ↔ ((k : ℕ) × (Lies e.range (point_of dim s at k) → ⊥))

-- of any element
abbrev pub OtherExactly : Type 0
OtherExactly =
    (dim : ℕ) (s : List ℕ) (at : ℕ) (e : Element) → view_of dim s at ≡ Ok e →
    (in_range_of dim s at ≡ refused_with 6 at) ↔ (is_range_checked e.kind ≡ false)

-- where no element is seen at the place the check is refused as the view is: 1, the file's own, 13
abbrev pub UnseenRefused : Type 0
UnseenRefused = (dim : ℕ) (s : List ℕ) (at n p : ℕ) → view_of dim s at ≡ refused_with n p → in_range_of dim s at ≡ refused_with n p

-- refused as a call at a place is, or with 6 at an element of another type
abbrev pub RangeRefused : Type 0
RangeRefused = (dim : ℕ) (s : List ℕ) (at n p : ℕ) → in_range_of dim s at ≡ refused_with n p → TypeRefused is_range_checked dim s at n p
