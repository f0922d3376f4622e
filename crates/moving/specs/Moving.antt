-- What a remove finds: a promise of private functions.
use Rattle.std.specs.Prelude.{ℕ, List}
use Rattle.places.specs.declared.Above.{Above}
use Rattle.opening.specs.Steps.{Open}
use Rattle.places.specs.Spotted.{spotted_with}

-- in an open session's file an element starts at the place, its extent ends at `end`, and it stands directly under `above`
pub record Stands (dim : ℕ) (file : List ℕ) (used : ℕ) (journal : List ℕ) (jused p end : ℕ) (above : Above) : Type 0 where
  pub depth : ℕ
  pub opened : Open dim file used journal jused p (spotted_with end depth above)
