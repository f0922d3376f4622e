-- The loop's invariant: it is at the place of the element before number i, and what is kept is the last one up to there that is at the top.
use Prim.Native.Nat.{◌+◌, ◌-◌, ◌≤◌}
use mathlib.Core.Path.{◌≡◌}
use Rattle.words.specs.Words.{words}
use Rattle.order.specs.Order.{place_of}
use Rattle.dgn_all_views.specs.Tour.{TopBefore}
use Rattle.dgn_all_views.proofs.top_before.Given as goal

abbrev pub invariant-loop-i : goal.invariant-loop-i
invariant-loop-i l =
    (l.i ≤ l.k + 1) × (l.at ≡ place_of (words l.file) (l.i - 1)) × TopBefore (words l.file) (l.i - 1) (record { number = l.number; place = l.place })
