-- The list is judged until its own bound, which is what `closed` asks for to answer for the whole list.
use Rattle.files.proofs.judge_all.Goals as goal

pub judge_list-progress-requires : goal.judge_list-progress-requires
judge_list-progress-requires c = c.requires

pub returns : goal.returns
returns c = c.closed.ensures _ _ _ (c.judge_list-progress.ensures)
