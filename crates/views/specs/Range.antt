-- Range as an answer, by its parts.
use Rattle.std.specs.Prelude.{ℤ, Option, Some}
use Rattle.views.specs.declared.Range.{Range}

-- the six longs of a range
abbrev pub longs_with : ℤ → ℤ → ℤ → ℤ → ℤ → ℤ → Option Range
longs_with low_x low_y low_z high_x high_y high_z = Some (record { low_x = low_x; low_y = low_y; low_z = low_z; high_x = high_x; high_y = high_y; high_z = high_z })
