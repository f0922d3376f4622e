-- The bytes of the six words, the header place by the number of its long (`long_placed`).
use mathlib.Core.Path.{refl}
use Rattle.journals.proofs.Pushed.{long_placed}
use Rattle.journals.proofs.trailer.Goals as goal

pub returns : goal.returns
returns c = rw (long_placed c.args.header) refl
