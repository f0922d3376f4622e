-- The two words that stand where the name does, as bytes; past the bytes every word is 0.
use native.Mathlib.Omega.{arith}
use Rattle.words.specs.Words.{words}
use Rattle.changes.proofs.NameSteps.{name_near, name_read, name_absent}
use Rattle.changes.proofs.cell_name.Goals as goal

pub overflow_add-at : goal.overflow_add-at
overflow_add-at c =
    omega (arith, (name_near (words c.args.used.now) c.args.place).1, c.name_place-at.ensures)

pub returns-then-place-used : goal.returns-then-place-used
returns-then-place-used c =
    name_read c.args.place c.args.used.now _ _ _ _ c.name_place-at.ensures c.word.ensures.is c.word-then-place-used.ensures.is c.name_bytes.ensures

pub returns : goal.returns
returns c =
    name_absent c.args.place c.args.used.now c.if-place-used.false
