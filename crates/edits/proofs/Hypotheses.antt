-- What the theorem over every list of calls rests on: the law of one edit, that judging accepts exactly the trees, and
-- that a text packs to a name.
use Prim.Native.Nat.{ℕ, ◌+◌, ◌-◌, ◌<◌}
use mathlib.Core.Path.{◌≡◌}
use mathlib.Core.Bool.{true}
use mathlib.Core.List.{List}
use lib.ListN.{length}
use Rattle.words.specs.Words.{Below}
use Rattle.names.specs.Names.{name_ok, packed}
use Rattle.names.specs.Name.{packed_to}
use Rattle.files.specs.Judge.{top_of}
use Rattle.files.specs.Judgement.{good_with}
use Rattle.edits.proofs.Accepted.{Accepted, Law}

pub record Hypotheses (dim : ℕ) : Type 0 where
  -- an edit that is allowed keeps the file accepted, and its record's reversal is allowed and gives the words back
  pub sound : Law dim
  -- what judging accepts with the marker as the last word is a tree
  pub judged_tree : (ws : List ℕ) (next e d k : ℕ) → Below 65536 ws → top_of dim ws ≡ good_with next e d k → next + 1 ≡ length ws → Accepted dim ws
  -- and a tree is accepted so
  pub tree_judged : (ws : List ℕ) → Accepted dim ws → (e : ℕ) × (d : ℕ) × (k : ℕ) × (top_of dim ws ≡ good_with (length ws - 1) e d k)
  -- a text that packs does so to two words that are a name
  pub packed_ok : (text : List ℕ) (a b : ℕ) → packed text ≡ packed_to a b → (name_ok a b ≡ true) × (a < 65536) × (b < 65536)
