-- The word that is read, with its flag set or clear, is stored in its place (`flag_put_lem`).
use mathlib.Core.Bool.{true, false}
use Rattle.flags.proofs.Stores.{flag_put_lem}
use Rattle.flags.proofs.put_flag.Goals as goal

pub returns-then-deleted : goal.returns-then-deleted
returns-then-deleted c =
    flag_put_lem true _ _ _ _ _ c.if-deleted.true c.word-w.ensures.is c.put_word.ensures

pub returns-else-deleted : goal.returns-else-deleted
returns-else-deleted c =
    flag_put_lem false _ _ _ _ _ c.if-deleted.false c.word-w.ensures.is c.put_word-else-deleted.ensures
