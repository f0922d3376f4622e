-- No room, or the four parts one behind another (`all_put`).
use mathlib.Core.Path.{ap, ◌∙◌}
use native.Mathlib.Omega.{arith}
use lib.Seq.{sets}
use Rattle.text_numbers.proofs.Laws.{no_room, all_put}
use Rattle.text_numbers.proofs.put_text.Goals as goal

pub returns-then-out-lt15 : goal.returns-then-out-lt15
returns-then-out-lt15 c = no_room c.args.start c.args.text _ _ (omega arith)

pub returns-then-out-at : goal.returns-then-out-at
returns-then-out-at c = no_room c.args.start c.args.text _ _ (omega arith)

pub returns : goal.returns
returns c =
    all_put c.args.start c.args.text c.args.out.now c.args.at (omega (arith, c.if-out-lt15.false, c.if-out-at.false)) _ _ _ _
    (c.put_numbers.ensures ∙ ap (sets _ _) c.first_numbers.ensures)
    (c.put_numbers-2.ensures ∙ ap (sets _ _) c.turn_numbers.ensures)
    (c.put_numbers-3.ensures ∙ ap (sets _ _) c.origin_numbers.ensures)
    (c.put_numbers-4.ensures ∙ ap (sets _ _) c.last_numbers.ensures)
