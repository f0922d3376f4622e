-- Of no element nothing is put; else the walk begins with the element that the hop found.
use Prim.Native.Nat.{◌<◌}
use native.Mathlib.Omega.{arith}
use Rattle.dgn_all_views.proofs.Puts.{nothing_put}
use Rattle.dgn_all_views.proofs.put_part.Goals as goal
use Rattle.dgn_all_views.proofs.put_part.Goals.{Else-n-eq0}

pub returns-then-n-eq0 : goal.returns-then-n-eq0
returns-then-n-eq0 c = nothing_put _ _ _ _ c.if-n-eq0.true

-- an element is to be put
some_left : (c : Else-n-eq0) → 0 < c.args.n
some_left c = omega (arith, c.if-n-eq0.false)

pub top_before-top-requires : goal.top_before-top-requires
top_before-top-requires c = omega (arith, (c.requires.1 (some_left (goal.at.top_before-top-requires c).Else-n-eq0)).0)

pub overflow_sub-k : goal.overflow_sub-k
overflow_sub-k c = omega (arith, c.top_before-top.ensures.upto)

pub put_views-requires : goal.put_views-requires
put_views-requires c =
    let pre = c.requires in
    let more = pre.1 (some_left (goal.at.put_views-requires c).Else-n-eq0) in
    (pre.0, (omega (arith, more.0), λ i h. more.1 c.top_before-top.result c.top_before-top.ensures i h))

pub returns : goal.returns
returns c =
    record { from = c.top_before-top.result; top = λ z. c.top_before-top.ensures; given = c.put_views.ensures }
