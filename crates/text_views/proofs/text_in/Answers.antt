-- By the type; where no word stands it is 0, so a text lies in the file (`text_inside`).
use mathlib.Core.Path.{sym, ◌∙◌}
use borrow.Author.Tests.{eq-eqb, ne_eqb}
use Rattle.text_views.specs.TextViews.{text_in}
use Rattle.text_views.proofs.Bytes.{text_inside}
use Rattle.text_views.proofs.text_in.Goals as goal

pub returns-then-type_at-ne17 : goal.returns-then-type_at-ne17
unfolding text_in
returns-then-type_at-ne17 c = rw (ne_eqb _ 17 (rw c.type_at.ensures at c.if-type_at-ne17.true))

pub text_from-requires : goal.text_from-requires
text_from-requires c = text_inside c.args.file.now c.args.at _ c.type_at.ensures c.if-type_at-ne17.false

pub returns : goal.returns
unfolding text_in
returns c = rw (eq-eqb _ 17 (sym c.type_at.ensures ∙ c.if-type_at-ne17.false), c.text_from.ensures)
