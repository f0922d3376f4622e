-- The loop's invariant: place, depth and what is kept are those of the i-th element of the walk, and the views of the elements before it
-- are put. Each turn puts one view, and goes on by one of the three steps (`tour_on`, `tour_in`, `tour_over`).
use Prim.Native.Nat.{◌-◌}
use mathlib.Core.Path.{◌≡◌}
use lib.ListN.{length, get_or}
use lib.Seq.{sets}
use Rattle.words.specs.Words.{words}
use Rattle.places.specs.Places.{above_of}
use Rattle.dgn_all_views.specs.Tour.{header_in, tour_of}
use Rattle.dgn_all_views.specs.Views.{views_from}
use Rattle.dgn_all_views.proofs.Alike.{tour}
use Rattle.dgn_all_views.proofs.put_views.Given as goal

abbrev pub invariant-loop-i : goal.invariant-loop-i
invariant-loop-i l =
    (length l.views ≡ length l.initial.views)
    × (tour l.place l.depth l.ends l.headers ≡ tour_of (words l.file) l.top l.i)
    × (l.views ≡ sets l.initial.views 0 (views_from (l.i - l.k) (words l.file) l.top l.k))
    × (l.end ≡ get_or l.ends l.depth 0)
    × (l.above ≡ above_of (header_in l.headers l.depth))
    × (length l.ends ≡ 9) × (length l.headers ≡ 9)
