-- What is made is within the file, and a refusal is told.
use mathlib.Core.Path.{sym}
use lib.Seq.{length-take-le}
use Rattle.indexed.proofs.Parts.{made_within, finish_refused}
use Rattle.indexed.proofs.finish.Goals as goal

pub slice_bounds-put_index-end : goal.slice_bounds-put_index-end
slice_bounds-put_index-end c =
    sym (length-take-le _ _ (made_within (c.args.answer) (c.args.full) (c.args.file.now) (c.args.file.now) _ _ (c.in-Ok.is) (c.requires)))

pub returns-in-Err : goal.returns-in-Err
returns-in-Err c = finish_refused _ _ _ _ _ _ _ (c.in-Err.is) (c.told.ensures)
