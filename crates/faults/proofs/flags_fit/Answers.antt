-- What was found is told apart, and an extent's elements are counted.
use mathlib.Core.Path.{ap, ◌∙◌}
use Rattle.words.specs.Words.{words}
use Rattle.edits.specs.Bits.{flags_ok}
use Rattle.faults.proofs.flags_fit.Goals as goal

pub returns-in-Ok : goal.returns-in-Ok
returns-in-Ok c =
    rw c.in-Ok.is (c.flags_ok.ensures ∙ ap (λ n. flags_ok n (words c.args.payload.now)) c.count.ensures)
