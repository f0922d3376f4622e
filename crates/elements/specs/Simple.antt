-- The checks of what an element holds that is no header: it has no extent of its own and no name.
use Rattle.std.specs.Prelude.{ℕ, List, [], ◌∷◌, leb}
use Rattle.headers.specs.Checks.{Check, check}
use Rattle.elements.specs.Attributes.{linkages_ok}
use Rattle.elements.specs.Rules.{fixed_ok, text_fields_ok, curve_floats_ok}

abbrev pub simple_checks : ℕ → List ℕ → ℕ → ℕ → List Check
simple_checks dim ws at size =
    check (fixed_ok dim ws at) 7
    ∷ check (text_fields_ok dim ws at) 20
    ∷ check (leb size 65535) 8
    ∷ check (linkages_ok dim ws at) 11
    ∷ check (curve_floats_ok dim ws at) 21
    ∷ []
