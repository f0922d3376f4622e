-- What an accepted file is: a file of the grammar, of an allowed length and dimension, with its numbers.
use Rattle.std.specs.Prelude.{ℕ, ◌≡◌, true, List, length}
use Rattle.words.specs.Words.{words}
use Rattle.limits.specs.Limits.{call_ok}
use Rattle.files.specs.Spots.{deepest, spots_of}
use Rattle.grammar.specs.Grammar.{File}

-- e elements in file order at all depths, d the greatest depth, k the marker's place
pub record Reading (dim : ℕ) (s : List ℕ) (e d k : ℕ) : Type 0 where
  pub call : call_ok dim s ≡ true
  pub file : File dim (words s) (spots_of dim (words s)) k
  pub elements : e ≡ length (spots_of dim (words s))
  pub deep : d ≡ deepest (spots_of dim (words s))
