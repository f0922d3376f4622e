-- The multiplication and the shift are the division (`blocks_for_lem`).
use Rattle.blocks.proofs.Ways.{blocks_for_lem}
use Rattle.blocks.proofs.blocks_for.Goals as goal

pub returns : goal.returns
returns c = blocks_for_lem _ c.requires
