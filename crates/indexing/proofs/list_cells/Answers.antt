-- A way out where the file is too long, and else the whole entries, which are lent (`lists_none`, `lists_all`).
use mathlib.Core.Path.{sym}
use native.Mathlib.Omega.{arith}
use lib.Seq.{length-take-le}
use Rattle.indexing.proofs.Lists.{lists_none, lists_all}
use Rattle.indexing.proofs.list_cells.Goals as goal

pub returns-then-file-gt1048576 : goal.returns-then-file-gt1048576
returns-then-file-gt1048576 c = lists_none _ _ _ c.if-file-gt1048576.true

pub slice_bounds-gather-end-2 : goal.slice_bounds-gather-end-2
slice_bounds-gather-end-2 c = sym (length-take-le _ _ (omega arith))

pub gather-requires : goal.gather-requires
gather-requires c = omega (arith, c.if-file-gt1048576.false)

pub returns : goal.returns
returns c =
    lists_all c.args.file.now c.args.to c.args.s.now _ _ c.if-file-gt1048576.false c.gather.auto.s c.gather.ensures
    (λ i. (c.type_inv.s i).fits)
