-- Name as an answer, by its parts.
use Rattle.std.specs.Prelude.{ℕ, Option, Some}
use Rattle.views.specs.declared.Name.{Name}

-- the two words of a name
abbrev pub name_with : ℕ → ℕ → Option Name
name_with first second = Some (record { first = first; second = second })
