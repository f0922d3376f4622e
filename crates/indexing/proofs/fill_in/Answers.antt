-- As many bytes as the cells' entries take, filled, in order, and zeros behind them (`builds_done`).
use Prim.Native.Nat.{◌*◌}
use mathlib.Core.Path.{sym, ap}
use native.Mathlib.Omega.{arith}
use lib.Seq.{length-take-le}
use Rattle.indexing.proofs.Builds.{part_again, builds_done}
use Rattle.indexing.proofs.fill_in.Goals as goal

pub slice_bounds-gather-end-2 : goal.slice_bounds-gather-end-2
slice_bounds-gather-end-2 c = sym (length-take-le _ _ (omega (arith, c.requires.fits)))

pub gather-requires : goal.gather-requires
gather-requires c = c.requires.short

pub slice_bounds-sort-end-2 : goal.slice_bounds-sort-end-2
slice_bounds-sort-end-2 c =
    let gathered = c.gather in
    sym (part_again c.args.file.now c.args.to c.args.index.now _ (ap (λ n. 8 * n) c.requires.counted) (omega (arith, c.requires.fits))
    gathered.new.s gathered.auto.s)

pub returns : goal.returns
returns c =
    let gathered = c.gather in
    let sorts = c.sort in
    builds_done c.args.file.now c.args.to c.args.index.now _ (ap (λ n. 8 * n) c.requires.counted) (omega (arith, c.requires.fits))
    gathered.new.s sorts.new.s _ gathered.auto.s gathered.ensures.entries sorts.auto.s sorts.ensures c.clear.ensures
