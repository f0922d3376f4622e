-- Judging a list until the element's own place stops after that element, and halts or breaks only at it (Reaching).
use native.Mathlib.Omega.{arith}
use Rattle.files.proofs.Reaching.{stopped_element, halted_element, broken_element}
use Rattle.files.proofs.element.Goals as goal

pub judge_list-requires : goal.judge_list-requires
judge_list-requires c = omega arith

pub returns-in-Stopped : goal.returns-in-Stopped
returns-in-Stopped c = stopped_element (rw c.in-Stopped.is at c.judge_list.ensures)

pub returns-in-Halted : goal.returns-in-Halted
returns-in-Halted c = halted_element (rw c.in-Halted.is at c.judge_list.ensures)

pub returns-in-Broken : goal.returns-in-Broken
returns-in-Broken c = broken_element (rw c.in-Broken.is at c.judge_list.ensures)
