-- How many entries an index has: as many as the file has cells.
use Prim.Native.Nat.{ℕ, ◌*◌}
use mathlib.Core.Path.{◌≡◌, refl}
use mathlib.Core.List.{List, [], ◌∷◌}
use native.Mathlib.Omega.{arith}
use lib.ListN.{length}
use Rattle.sorting.proofs.Laws.{length_ordered}
use Rattle.cells.specs.Cells.{Cell, cells_of}
use Rattle.cells.specs.Index.{entries_of, index_of, index_bytes}

pub length_entries : (cs : List Cell) → length (entries_of cs) ≡ length cs
length_entries [] = refl
length_entries (c ∷ cs) = let e = length_entries cs in omega arith

pub index_bytes_lem : (dim : ℕ) (ws : List ℕ) → index_bytes dim ws ≡ 8 * length (index_of dim ws)
unfolding index_bytes index_of
index_bytes_lem dim ws = let a = length_ordered (entries_of (cells_of dim ws)) in let b = length_entries (cells_of dim ws) in omega arith
