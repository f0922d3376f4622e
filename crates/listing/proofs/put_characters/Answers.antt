-- The invariant: the characters so far are put (`escaped_more`).
use mathlib.Core.Path.{refl}
use native.Mathlib.Omega.{arith}
use native.Mathlib.Numerals.{add-one}
use lib.Seq.{take_all}
use Rattle.listing.proofs.Laws.{puts_then}
use Rattle.listing.proofs.Escapes.{escaped_more}
use Rattle.listing.proofs.put_characters.Goals as goal

pub loop-c-init : goal.loop-c-init
loop-c-init c = record { room = omega arith; put = record { bytes = refl; next = omega arith } }

pub loop-c-preserved : goal.loop-c-preserved
loop-c-preserved c =
    record {
      room = omega arith;
      put = rw (add-one, escaped_more c.args.characters.now _ c.loop-c-test.true) (puts_then c.loop-c.invariant.put c.put_character-next.ensures.puts);
    }

pub returns : goal.returns
returns c =
    record { puts = rw (take_all _ c.args.characters.now c.loop-c-test.false) at c.loop-c.invariant.put; upper_bound = omega arith }
