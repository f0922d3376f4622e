-- Each way out of judging the list at the top is a case of `reached_of`; where no head stands, what stands there decides
-- (Reaching).
use mathlib.Core.Path.{sym, ◌∙◌}
use native.Mathlib.Omega.{arith}
use Rattle.files.proofs.Reaching.{reach_stopped, reach_broken, reach_halted_done, reach_halted_lacking, reach_halted_more}
use Rattle.files.proofs.reach.Goals as goal

pub judge_list-requires : goal.judge_list-requires
judge_list-requires c = omega arith

pub overflow_sub-result : goal.overflow_sub-result
overflow_sub-result c = let x = rw c.in-Stopped.is at c.judge_list.ensures in omega (arith, x.counted)

pub returns-in-Stopped : goal.returns-in-Stopped
returns-in-Stopped c = reach_stopped (rw c.in-Stopped.is at c.judge_list.ensures)

pub returns-in-Broken : goal.returns-in-Broken
returns-in-Broken c = reach_broken (rw c.in-Broken.is at c.judge_list.ensures)

pub returns-in-Done : goal.returns-in-Done
returns-in-Done c =
    reach_halted_done (rw c.in-Halted.is at c.judge_list.ensures)
    (sym c.stop_at.ensures ∙ c.in-Done.is)

pub returns-in-Lacking : goal.returns-in-Lacking
returns-in-Lacking c =
    reach_halted_lacking (rw c.in-Halted.is at c.judge_list.ensures)
    (sym c.stop_at.ensures ∙ c.in-Lacking.is)

pub returns-in-More : goal.returns-in-More
returns-in-More c =
    reach_halted_more (rw c.in-Halted.is at c.judge_list.ensures)
    (sym c.stop_at.ensures ∙ c.in-More.is)
