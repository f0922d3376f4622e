-- Display as an answer, by its parts.
use Rattle.std.specs.Prelude.{ℕ, Option, Some}
use Rattle.views.specs.declared.Display.{Display}

-- the six numbers of a display
abbrev pub display_with : ℕ → ℕ → ℕ → ℕ → ℕ → ℕ → Option Display
display_with group index properties style weight colour = Some (record { group = group; index = index; properties = properties; style = style; weight = weight; colour = colour })
