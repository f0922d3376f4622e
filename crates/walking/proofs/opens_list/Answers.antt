-- `opens_list` answers `opens`, by the depth and by whether the element is a header; where no word is there is none.
use mathlib.Core.Path.{sym, ap, ◌∙◌}
use Rattle.kinds.specs.Kinds.{is_header}
use Rattle.walking.proofs.Steps.{opens_out, opens_deep, opens_by}
use Rattle.walking.proofs.opens_list.Goals as goal

pub returns-then-s-at : goal.returns-then-s-at
returns-then-s-at c = opens_out c.args.s.now _ _ c.if-s-at.true

pub returns-then-depth-ge8 : goal.returns-then-depth-ge8
returns-then-depth-ge8 c = opens_deep _ _ _ c.if-depth-ge8.true

pub returns-then-is_header : goal.returns-then-is_header
returns-then-is_header c =
    rw (c.size_at.ensures, c.extent_at.ensures)
    (opens_by _ _ _ _ c.if-depth-ge8.false
    (sym (ap is_header c.type_at.ensures) ∙ sym c.is_header.ensures ∙ c.if-is_header.true))

pub returns : goal.returns
returns c =
    opens_by _ _ _ _ c.if-depth-ge8.false
    (sym (ap is_header c.type_at.ensures) ∙ sym c.is_header.ensures ∙ c.if-is_header.false)
