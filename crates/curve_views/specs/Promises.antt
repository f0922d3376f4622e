-- What is promised of the call for an ellipse or an arc: how it is refused, what it gives of an accepted file, and that its floats are
-- numbers; and that no file of the grammar has a float that is refused.
use Rattle.std.specs.Prelude.{ℕ, ◌+◌, ◌≡◌, true, false, List, Float, Err, Ok, Result}
use Rattle.std.proofs.Math.Option.{some}
use Rattle.words.specs.Words.{words, word_at, Below}
use Rattle.words.specs.OneOf.{OneOf}
use Rattle.dfloats.specs.FirstWord.{is_reserved}
use Rattle.dfloats.specs.Promises.{Held}
use Rattle.curves.specs.Curves.{float_places}
use Rattle.kinds.specs.Kinds.{is_curve}
use Rattle.limits.specs.Limits.{call_ok}
use Rattle.headers.specs.Header.{type_at}
use Rattle.files.specs.Judge.{judge_of}
use Rattle.files.specs.Spots.{Spot, spots_of, spot_in}
use Rattle.grammar.specs.Grammar.{File}
use Rattle.places.specs.OfType.{TypeRefused}
use Rattle.files.specs.Accepted.{accepted_with}
use Rattle.refusals.specs.Refusals.{refused_with}
use Rattle.refusals.specs.declared.Refusal.{Refusal}
use Rattle.curve_views.specs.declared.Origin.{Origin}
use Rattle.curve_views.specs.declared.Origin.TheVariants as origins
use Rattle.curve_views.specs.declared.Curve.TheVariants.{Ellipse, Arc}
use Rattle.curve_views.specs.CurveViews.{ellipse_at, arc_at, curve_of}
use Rattle.curve_views.specs.declared.Curve.{Curve}

-- refused as a call at a place is, or with 6 at an element of another type
abbrev pub CurveRefused : Type 0
CurveRefused = (dim : ℕ) (s : List ℕ) (at n p : ℕ) → curve_of dim s at ≡ refused_with n p → TypeRefused is_curve dim s at n p

-- of an accepted file: an element of type 15 gives the ellipse at its place, one of type 16 the arc
pub record Gives (dim : ℕ) (s : List ℕ) (at : ℕ) : Type 0 where
  pub ellipse : type_at (words s) at ≡ 15 → curve_of dim s at ≡ ellipse_at dim (words s) at
  pub arc : type_at (words s) at ≡ 16 → curve_of dim s at ≡ arc_at dim (words s) at

abbrev pub CurveGiven : Type 0
CurveGiven =
    (dim : ℕ) (s : List ℕ) (at e d m : ℕ) (x : Spot) → judge_of dim s ≡ accepted_with e d m → spot_in (spots_of dim (words s)) at ≡ some x → Gives dim s at

-- of a file of the grammar, of an allowed length and dimension: each float of its ellipses and arcs is a number. So a file with a float
-- that is refused is none
abbrev pub FloatsNumbers : Type 0
FloatsNumbers =
    (dim : ℕ) (s : List ℕ) (xs : List Spot) (m : ℕ) → call_ok dim s ≡ true → File dim (words s) xs m → (at : ℕ) (x : Spot) → spot_in xs at ≡ some x →
    is_curve (type_at (words s) at) ≡ true → (k : ℕ) → OneOf (float_places dim (type_at (words s) at)) k → is_reserved (word_at (words s) (at + k)) ≡ false

-- each float of an origin, and each of an ellipse or an arc
abbrev pub EachOf : (Float → Type 0) → Origin → Type 0
EachOf P (origins.Flat x y) = P x × P y
EachOf P (origins.Solid x y z) = P x × (P y × P z)

abbrev pub EachFloat : (Float → Type 0) → Result Curve Refusal → Type 0
EachFloat P (Ok (Ellipse primary secondary turn origin)) = P primary × (P secondary × EachOf P origin)
EachFloat P (Ok (Arc start sweep primary secondary turn origin)) = P primary × (P secondary × EachOf P origin)
EachFloat P (Err refusal) = Unit {0}

-- whatever the bytes: each float that the call gives is a 64-bit float, and neither a NaN nor an infinity
abbrev pub CurveHeld : Type 0
CurveHeld = (dim : ℕ) (s : List ℕ) (at : ℕ) → Below 256 s → EachFloat Held (curve_of dim s at)
