-- The two words are stored where the name stands; a place past the bytes has no word to store to.
use native.Mathlib.Omega.{arith}
use Rattle.words.specs.Words.{words}
use Rattle.changes.proofs.NameSteps.{name_near, name_put_lem, name_outside}
use Rattle.changes.proofs.rename_cell.Goals as goal

pub overflow_add-at : goal.overflow_add-at
overflow_add-at c =
    omega (arith, (name_near (words c.args.used.now) c.args.place).1, c.name_place-at.ensures)

pub returns-then-place-used : goal.returns-then-place-used
returns-then-place-used c =
    name_put_lem _ _ _ _ _ _ _ c.name_place-at.ensures c.put_word.ensures c.put_word-then-place-used.ensures

pub returns-else-place-used : goal.returns-else-place-used
returns-else-place-used c = name_outside _ _ _ _ c.if-place-used.false
