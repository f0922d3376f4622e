-- The extent lies in the used file (`remove_inside`), which bounds every sum. A journal without room for the extent's words is
-- 16, else they go into the record and out of the file (Ways).
use Prim.Native.Nat.{◌*◌, ◌≤◌, ◌<◌}
use mathlib.Core.Path.{refl}
use native.Mathlib.Omega.{arith}
use lib.ListN.{length}
use Rattle.words.specs.Words.{Below}
use Rattle.words.proofs.Laws.{lent_below}
use Rattle.opening.proofs.OpenSession.{used_within, jused_within, used_most}
use Rattle.moving.proofs.Ways.{remove_inside, remove_full, remove_done}
use Rattle.moving.proofs.remove_found.Goals as goal
use Rattle.moving.proofs.remove_found.Goals.{After-slice_known-1}

-- the file's bytes
below : (c : After-slice_known-1) → Below 256 c.args.file.now
below c = lent_below c.args.file.now c.type_inv.file

-- the extent is in the used file, which is in its buffer and not too long
bounds : (c : After-slice_known-1) → ((c.args.place < c.args.end) × (2 * c.args.end ≤ c.args.used)) × ((c.args.used ≤ length c.args.file.now) × (c.args.used ≤ 1048576))
bounds c = (remove_inside _ _ _ _ _ _ _ c.requires.opened (below c) _ _ _ refl, (used_within c.requires.opened, used_most c.requires.opened))

pub overflow_sub-n : goal.overflow_sub-n
overflow_sub-n c = omega (arith, bounds (goal.at.overflow_sub-n c).After-slice_known-1)

pub overflow_mul-n : goal.overflow_mul-n
overflow_mul-n c = omega (arith, bounds (goal.at.overflow_mul-n c).After-slice_known-1)

pub overflow_sub-journal : goal.overflow_sub-journal
overflow_sub-journal c = jused_within c.requires.opened

pub overflow_add-n : goal.overflow_add-n
overflow_add-n c = omega (arith, bounds (goal.at.overflow_add-n c).After-slice_known-1)

pub returns-then-journal-jused : goal.returns-then-journal-jused
returns-then-journal-jused c =
    rw c.refused.ensures
    (remove_full _ _ _ _ _ _ _ c.requires.opened (below (goal.at.returns-then-journal-jused c).After-slice_known-1) _ _ _ refl c.if-journal-jused.true)

pub overflow_mul-place : goal.overflow_mul-place
overflow_mul-place c = omega (arith, bounds (goal.at.overflow_mul-place c).After-slice_known-1)

pub overflow_mul-end : goal.overflow_mul-end
overflow_mul-end c = omega (arith, bounds (goal.at.overflow_mul-end c).After-slice_known-1)

pub slice_bounds-push-count : goal.slice_bounds-push-count
slice_bounds-push-count c = omega (arith, bounds (goal.at.slice_bounds-push-count c).After-slice_known-1)

pub slice_bounds-push-start : goal.slice_bounds-push-start
slice_bounds-push-start c = omega (arith, bounds (goal.at.slice_bounds-push-start c).After-slice_known-1)

pub slice_bounds-push-end : goal.slice_bounds-push-end
slice_bounds-push-end c = omega (arith, bounds (goal.at.slice_bounds-push-end c).After-slice_known-1)

pub overflow_sub-end : goal.overflow_sub-end
overflow_sub-end c =
    omega (arith, bounds (goal.at.overflow_sub-end c).After-slice_known-1)

pub overflow_sub-result : goal.overflow_sub-result
overflow_sub-result c =
    omega (arith, bounds (goal.at.overflow_sub-result c).After-slice_known-1)

pub returns : goal.returns
returns c =
    remove_done _ _ _ _ _ _ _ c.requires.opened (below (goal.at.returns c).After-slice_known-1) _ _ _ refl c.if-journal-jused.false _ _ _
    c.remove_extent.ensures c.header_number.ensures c.push.ensures
