-- The table's two rows, picked by the type.
use mathlib.Core.Path.{sym, ◌∙◌}
use Rattle.kinds.proofs.Types.{curve_part}
use Rattle.elements.proofs.curve_part.Goals as goal

pub pick-requires : goal.pick-requires
pick-requires c = tt

pub pick-requires-2 : goal.pick-requires-2
pick-requires-2 c = tt

pub pick-requires-3 : goal.pick-requires-3
pick-requires-3 c = tt

pub returns : goal.returns
returns c n =
    rw (c.pick.ensures, c.pick-2.ensures) at c.pick-3.ensures
    ∙ sym (curve_part c.args.dim c.args.t n c.requires)
