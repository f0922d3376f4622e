-- The invariant: the characters so far are put (`escaped_more`).
use Prim.Native.Nat.{◌+◌, ◌*◌, ◌≤◌}
use lib.ListN.{take}
use Rattle.listing.specs.Texts.{escaped}
use Rattle.listing.specs.Puts.{Puts}
use Rattle.listing.proofs.put_characters.Given as goal

abbrev pub invariant-loop-c : goal.invariant-loop-c
invariant-loop-c l = record { room : l.next ≤ l.at + 4 * l.c-index; put : Puts l.initial.buf l.at (escaped (take l.c-index l.characters)) l.buf l.next }
