-- Components as an answer, by its parts.
use Rattle.std.specs.Prelude.{ℕ, Option, Some}
use Rattle.faults.specs.declared.Components.{Components}

-- a list of components: where it ends, its depth and the type of its header
abbrev pub listed_with : ℕ → ℕ → ℕ → Option Components
listed_with end depth under = Some (record { end = end; depth = depth; under = under })
