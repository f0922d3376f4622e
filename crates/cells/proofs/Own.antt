-- How long an element's own words are at least: its fixed part, and a cell's 21, so that its name stands in them.
use Prim.Native.Nat.{ℕ, ◌≤◌}
use mathlib.Core.Path.{◌≡◌}
use mathlib.Core.Bool.{true}
use mathlib.Core.List.{List}
use native.Mathlib.Omega.{arith}
use lib.ListN.{length}
use Rattle.kinds.specs.Kinds.{is_cell, fixed_part}
use Rattle.headers.specs.Header.{type_at, sizing_at}
use Rattle.elements.proofs.Laws.{fixed_least}
use Rattle.grammar.proofs.Tests.{OwnTests}
use Rattle.grammar.proofs.Types.{cell_long}

module _ {dim depth under inside n : ℕ} {own : List ℕ} (o : OwnTests dim depth under own inside n) where
  pub own_fixed : fixed_part dim (type_at own 0) (sizing_at dim own 0) ≤ length own
  own_fixed = let l = fixed_least dim own 0 o.fixed in let s = o.size in omega arith

  pub cell_words : is_cell (type_at own 0) ≡ true → 21 ≤ length own
  cell_words e = let l = cell_long dim (type_at own 0) (sizing_at dim own 0) e in let f = own_fixed in omega arith
