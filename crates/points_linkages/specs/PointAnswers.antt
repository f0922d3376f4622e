-- The variants of Point as answers.
use Rattle.std.specs.Prelude.{ℤ, Result, Ok}
use Rattle.refusals.specs.declared.Refusal.{Refusal}
use Rattle.points_linkages.specs.declared.Point.{Point}
use Rattle.points_linkages.specs.declared.Point.TheVariants.{Flat, Solid}

abbrev pub flat_point : ℤ → ℤ → Result Point Refusal
flat_point x y = Ok (Flat x y)

abbrev pub solid_point : ℤ → ℤ → ℤ → Result Point Refusal
solid_point x y z = Ok (Solid x y z)
