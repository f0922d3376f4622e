-- The part that is written holds the bytes (`part_put`).
use mathlib.Core.Path.{refl}
use native.Mathlib.Omega.{arith}
use Rattle.listing.proofs.Laws.{part_put}
use Rattle.listing.proofs.put_bytes.Goals as goal

pub returns : goal.returns
returns c = record { bytes = part_put _ _ _ _ _ c.copy_from_slice.ensures.after (omega arith) (omega arith); next = refl }
