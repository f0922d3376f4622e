-- judge_element and judge_list by one induction on twice the words to the end or the bound, and one more for a list: a header's
-- components start after it, and a list's headers end by its bound.
use Prim.Native.Nat.{◌+◌, ◌-◌, ◌*◌}
use Rattle.files.specs.Progress.{list_in, run_of}
use Rattle.files.proofs.Going.{Going}
use Rattle.files.proofs.+judging.Given as goal

abbrev pub decreases-judge_element : goal.decreases-judge_element
decreases-judge_element l = 2 * (l.end - l.at)

abbrev pub decreases-judge_list : goal.decreases-judge_list
decreases-judge_list l = 2 * (l.bound - l.at) + 1

abbrev pub invariant-judge_list-loop-number : goal.invariant-judge_list-loop-number
invariant-judge_list-loop-number l =
    Going (run_of (list_in l.dim l.depth l.under l.s l.at l.last) l.until l.each) l.here l.below l.deepest l.direct

abbrev pub decreases-judge_list-loop-number : goal.decreases-judge_list-loop-number
decreases-judge_list-loop-number l = l.last - l.here
