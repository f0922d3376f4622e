-- A deleted element and one that is no cell have no line; a live cell has that of its plate.
use mathlib.Core.Path.{sym, ◌∙◌}
use Rattle.words.specs.Words.{words}
use Rattle.plate_lines.proofs.Laws.{dead_line, other_line, cell_line}
use Rattle.plate_lines.proofs.line.Goals as goal

pub returns-then-word-eq1 : goal.returns-then-word-eq1
returns-then-word-eq1 c = dead_line (words (c.args.file.now)) (c.args.at) _ (c.word.ensures.is) _ (c.if-word-eq1.true)

pub returns-in-Ok : goal.returns-in-Ok
returns-in-Ok c =
    let a = c.args in
    let is = sym c.plate_in.ensures ∙ c.in-Ok.is in
    rw (cell_line (words a.file.now) a.at _ c.word.ensures.is c.if-word-eq1.false _ is) c.line_with.ensures

pub returns-in-Err : goal.returns-in-Err
returns-in-Err c =
    let a = c.args in
    other_line (words a.file.now) a.at _ c.word.ensures.is c.if-word-eq1.false _ _ (sym c.plate_in.ensures ∙ c.in-Err.is)
