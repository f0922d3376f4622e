-- A used length inside the journal has its last record read; one beyond it answers none.
use mathlib.Core.Path.{refl, sym}
use native.Mathlib.Omega.{arith}
use lib.Seq.{length-take-le}
use Rattle.undoing.proofs.record_by.Goals as goal

pub slice_bounds-last_record-end : goal.slice_bounds-last_record-end
slice_bounds-last_record-end c = sym (length-take-le _ _ c.if-jused-journal.true)

pub returns-then-jused-journal : goal.returns-then-jused-journal
returns-then-jused-journal c = record { within = λ h. c.last_record.ensures; beyond = λ h. absurd (let l = c.if-jused-journal.true in omega arith) }

pub returns : goal.returns
returns c = record { within = λ h. absurd (let l = c.if-jused-journal.false in omega arith); beyond = λ h. refl }
