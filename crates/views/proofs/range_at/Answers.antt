-- With fewer than 14 words there is no range; else it is read of a part of the file that begins with the element (`six_rest`, `six_front`).
use Prim.Native.Nat.{◌+◌, ◌-◌, ◌*◌, ◌/◌, ◌≤◌, ◌<◌}
use mathlib.Core.Path.{◌∙◌}
use native.Mathlib.Omega.{arith}
use lib.ListN.{length}
use borrow.Author.Tests.{lt-leb}
use Rattle.words.specs.Words.{words}
use Rattle.headers.specs.Header.{size_at}
use Rattle.views.specs.Views.{range_of}
use Rattle.views.proofs.Known.{size_inside, six_rest, six_front, range_six}
use Rattle.views.proofs.range_at.Goals as goal
use Rattle.views.proofs.range_at.Goals.{Else-size_at-lt14}

-- the element has the words, and its size stands in the file
has : (c : Else-size_at-lt14) → 14 ≤ size_at (words c.args.file.now) c.args.at
has c = rw c.size_at.ensures at c.if-size_at-lt14.false

inside : (c : Else-size_at-lt14) → c.args.at + 1 < length c.args.file.now / 2
inside c = let h = has c in size_inside c.args.file.now c.args.at (omega arith)

pub returns-then-size_at-lt14 : goal.returns-then-size_at-lt14
unfolding range_of
returns-then-size_at-lt14 c = rw (lt-leb 14 _ (rw c.size_at.ensures at c.if-size_at-lt14.true))

pub overflow_mul-start : goal.overflow_mul-start
overflow_mul-start c = omega (arith, inside (goal.at.overflow_mul-start c).Else-size_at-lt14)

pub overflow_sub-file : goal.overflow_sub-file
overflow_sub-file c = omega (arith, inside (goal.at.overflow_sub-file c).Else-size_at-lt14)

pub slice_bounds-range_in-count : goal.slice_bounds-range_in-count
slice_bounds-range_in-count c = omega (arith, inside (goal.at.slice_bounds-range_in-count c).Else-size_at-lt14)

pub slice_bounds-range_in-start : goal.slice_bounds-range_in-start
slice_bounds-range_in-start c = omega (arith, inside (goal.at.slice_bounds-range_in-start c).Else-size_at-lt14)

pub returns-then-file-start-lt28 : goal.returns-then-file-start-lt28
returns-then-file-start-lt28 c =
    let a = c.args in
    range_six a.file.now a.at (has (goal.at.returns-then-file-start-lt28 c).Else-size_at-lt14) (c.range_in.ensures ∙ six_rest a.file.now a.at)

pub returns : goal.returns
returns c =
    let a = c.args in
    range_six a.file.now a.at (has (goal.at.returns c).Else-size_at-lt14) (c.range_in-2.ensures ∙ six_front a.file.now a.at (2 * a.at + 28 - 2 * a.at) (omega arith))
