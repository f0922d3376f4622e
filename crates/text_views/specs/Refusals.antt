-- How a call for a text is refused: as a call at a place is, or with 6 at the element that starts there and is no text.
use Rattle.std.specs.Prelude.{ℕ, List}
use Rattle.places.specs.OfType.{TypeRefused}
use Rattle.text_views.specs.TextViews.{is_text}

abbrev pub TextRefused : ℕ → List ℕ → ℕ → ℕ → ℕ → Type 0
TextRefused = TypeRefused is_text
