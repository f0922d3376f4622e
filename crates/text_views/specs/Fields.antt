-- What is said of a field that is given: it lies in the characters, and its justification is one of three.
use Rattle.std.specs.Prelude.{ℕ, ◌+◌, ◌≤◌, ◌≡◌, ◌⊎◌, List, ℤ, pos, negsuc}
use Rattle.text_views.specs.TextViews.{characters_of, field_of}
use Rattle.text_views.specs.Characters.{characters_with}
use Rattle.text_views.specs.Field.{field_with}

-- of c characters: it begins at one of them, counted from 1, and ends by the last
pub record Within (c first length : ℕ) (justification : ℤ) : Type 0 where
  pub begins : 1 ≤ first
  pub there : first ≤ c
  pub ends : first + length ≤ c + 1
  pub justified : (justification ≡ negsuc 0) ⊎ ((justification ≡ pos 0) ⊎ (justification ≡ pos 1))

abbrev pub FieldsWithin : Type 0
FieldsWithin =
    (dim : ℕ) (s : List ℕ) (at k start c first length : ℕ) (justification : ℤ) → characters_of dim s at ≡ characters_with start c →
    field_of dim s at k ≡ field_with first length justification → Within c first length justification
