-- The variants of Last as answers.
use Rattle.std.specs.Prelude.{ℕ, Option, Some}
use Rattle.journals.specs.declared.Last.{Last}
use Rattle.journals.specs.declared.Last.TheVariants.{Flag, Renamed, Inserted, Removed}

abbrev pub last_flag : ℕ → ℕ → ℕ → Option Last
last_flag place count before = Some (Flag place count before)

abbrev pub last_renamed : ℕ → ℕ → ℕ → ℕ → Option Last
last_renamed place first second before = Some (Renamed place first second before)

abbrev pub last_inserted : ℕ → ℕ → ℕ → Option Last
last_inserted header place before = Some (Inserted header place before)

abbrev pub last_removed : ℕ → ℕ → ℕ → ℕ → Option Last
last_removed header place count before = Some (Removed header place count before)
