-- What is picked is `header_fixed`.
use mathlib.Core.Path.{◌∙◌}
use Rattle.kinds.proofs.Types.{header_fixed}
use Rattle.elements.proofs.header_part.Goals as goal

pub pick-cell-requires : goal.pick-cell-requires
pick-cell-requires c = tt

pub pick-node-requires : goal.pick-node-requires
pick-node-requires c = tt

pub pick-requires : goal.pick-requires
pick-requires c = tt

pub pick-early-requires : goal.pick-early-requires
pick-early-requires c = tt

pub pick-requires-2 : goal.pick-requires-2
pick-requires-2 c = tt

pub pick-requires-3 : goal.pick-requires-3
pick-requires-3 c = tt

pub returns : goal.returns
returns c =
    rw (
      c.pick-2.ensures,
      c.pick-early.ensures,
      c.pick.ensures,
      c.pick-node.ensures,
      c.pick-cell.ensures,
    )
    at c.pick-3.ensures ∙ header_fixed _ _ c.requires
