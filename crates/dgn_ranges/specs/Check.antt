-- The answer about the range of the element at a place as a number: 1 for yes, 0 for no.
use Rattle.std.specs.Prelude.{ℕ, [], ◌∷◌, Bool, Err, Ok, Result}
use Rattle.std.specs.Int.{from_bool}
use Rattle.answers.specs.Answers.{Reply, done, refuse}
use Rattle.refusals.specs.declared.Refusal.{Refusal}

abbrev pub in_range_reply : Result Bool Refusal → Reply ℕ
in_range_reply (Ok inside) = done (from_bool inside ∷ [])
in_range_reply (Err refusal) = refuse refusal.number refusal.place
