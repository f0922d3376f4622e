-- The answer about the view of the element at a place as numbers. The library's own definitions decide it.
use Rattle.std.specs.Prelude.{ℕ, ℤ, Err, Ok, Result}
use Rattle.view_numbers.specs.Numbers.{view_given}
use Rattle.answers.specs.Answers.{Reply, done, refuse}
use Rattle.refusals.specs.declared.Refusal.{Refusal}
use Rattle.views.specs.declared.Element.{Element}

abbrev pub view_reply : ℕ → Result Element Refusal → Reply ℤ
view_reply at (Ok element) = done (view_given at element)
view_reply at (Err refusal) = refuse refusal.number refusal.place
