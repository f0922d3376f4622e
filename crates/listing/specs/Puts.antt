-- What the private functions of the crate promise.
use Rattle.std.specs.Prelude.{ℕ, ◌+◌, ◌≡◌, List, length}
use Rattle.std.proofs.lemmas.List.Edits.{sets}

-- bytes x are stored in a buffer s from a place on: what it then is, and the place after them
pub record Puts (s : List ℕ) (at : ℕ) (x t : List ℕ) (r : ℕ) : Type 0 where
  pub bytes : t ≡ sets s at x
  pub next : r ≡ at + length x
