-- The cells of any bytes that judging accepts are those that sizes alone lead to, up to its marker; words may follow it.
use Prim.Native.Nat.{ℕ}
use mathlib.Core.Path.{◌≡◌, sym, ap, ◌∙◌}
use mathlib.Core.List.{List}
use mathlib.Core.Option.{none}
use native.Mathlib.Omega.{arith}
use Rattle.words.specs.Words.{words}
use Rattle.files.specs.Judge.{judge_of}
use Rattle.grammar.proofs.Exact.{accepted_is}
use Rattle.grammar.proofs.Whole.{file_tree}
use Rattle.cells.specs.Cells.{cells_in, cells_of, cells_between}
use Rattle.cells.proofs.Trees.{spots_cells, between_cells}
use Rattle.files.specs.Accepted.{accepted_with}

pub judged_cells : (dim : ℕ) (s : List ℕ) (e d m : ℕ) → judge_of dim s ≡ accepted_with e d m → cells_of dim (words s) ≡ cells_between (words s) 0 m
unfolding cells_of
judged_cells dim s e d m q =
    let t = file_tree (accepted_is dim s e d m q).file in
    let l = t.end in
    let i = t.ends.0 in
    ap (cells_in (words s)) (sym t.read) ∙ spots_cells dim 0 0 none 0 t.tree (words s) t.wf t.stands
    ∙ sym (between_cells dim 0 0 0 t.tree (words s) m t.wf t.stands (omega arith) (omega arith))
