-- No cell, or its plate: where a cell is, words stand.
use mathlib.Core.Path.{refl, sym, ap, ◌∙◌}
use native.Mathlib.Omega.{arith}
use Rattle.std.specs.Prelude.{Ok}
use Rattle.words.specs.Words.{words}
use Rattle.promises.proofs.Promises.{words_length}
use Rattle.plates.specs.Hops.{plate_in}
use Rattle.plates.proofs.Fixed.{cell_there}
use Rattle.plates.proofs.plate_in.Goals as goal

pub returns-then-not-is_cell : goal.returns-then-not-is_cell
unfolding plate_in
returns-then-not-is_cell c = rw (sym c.is_cell.ensures ∙ c.if-not-is_cell.true) refl

pub plate_here-requires : goal.plate_here-requires
plate_here-requires c =
    let a = c.args in
    let there = cell_there (words a.file.now) a.at (sym c.is_cell.ensures ∙ c.if-not-is_cell.false) in
    omega (arith, words_length a.file.now)

pub returns : goal.returns
unfolding plate_in
returns c =
    rw (sym c.is_cell.ensures ∙ c.if-not-is_cell.false) (ap Ok c.plate_here.ensures)
