-- The variants of Reached as answers.
use Rattle.std.specs.Prelude.{ℕ, Result, Ok}
use Rattle.refusals.specs.declared.Refusal.{Refusal}
use Rattle.files.specs.declared.Reached.{Reached}
use Rattle.files.specs.declared.Reached.TheVariants.{Element, End}

abbrev pub an_element : ℕ → ℕ → ℕ → Result Reached Refusal
an_element start end before = Ok (Element start end before)

abbrev pub an_end : ℕ → ℕ → Result Reached Refusal
an_end place before = Ok (End place before)
