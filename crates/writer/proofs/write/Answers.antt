-- A fault that is not 0 is the refusal and leaves the buffer (`writes_refused`); else the element is laid at its start
-- (`writes_made`).
use mathlib.Core.Path.{sym, ◌∙◌}
use Rattle.writer.proofs.Writes.{writes_refused, writes_made}
use Rattle.writer.proofs.write.Goals as goal

pub returns-then-fault-ne0 : goal.returns-then-fault-ne0
returns-then-fault-ne0 c = writes_refused _ _ _ _ _ (c.write_fault-fault.ensures) (c.if-fault-ne0.true)

pub returns : goal.returns
returns c =
    writes_made _ _ _ _ _ _ (sym c.write_fault-fault.ensures ∙ c.if-fault-ne0.false)
    c.put_element.ensures.size c.put_element.ensures.bytes
