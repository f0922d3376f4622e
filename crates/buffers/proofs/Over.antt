-- A move within a buffer writes the moved part over what stood at its new place.
use Prim.Native.Nat.{ℕ, ◌≤◌}
use mathlib.Core.Path.{◌≡◌, refl}
use mathlib.Core.List.{List, append_assoc}
use lib.ListN.{length}
use lib.Seq.{slice, length-slice}
use Rattle.std.specs.List.{copy_within}
use Rattle.std.proofs.lemmas.Slice.{between_is}
use Rattle.words.specs.Words.{over}

pub moved_over : (s : List ℕ) (i j a : ℕ) → j ≤ length s → copy_within s i j a ≡ over s a (slice i j s)
unfolding over
moved_over s i j a h = rw (length-slice i j s h, ← between_is s i j, append_assoc) refl
