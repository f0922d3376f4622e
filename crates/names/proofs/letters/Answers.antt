-- `names::letters` meets its contract: the last two letters are those of what is left after the first.
use native.Mathlib.Omega.{arith}
use Rattle.names.proofs.Stored.{letters_left}
use Rattle.names.proofs.letters.Goals as goal

pub returns : goal.returns
returns c = letters_left _ _ _ _ c.first_code-a.ensures c.second_code-b.ensures (omega arith)
