-- The invariant `Restores`: the flags of the payload's words from i on, put from `here` on, are all of them put.
use Rattle.words.specs.Words.{words}
use Rattle.flags.proofs.Sixteens.{Restores}
use Rattle.flags.proofs.restore.Given as goal

abbrev pub invariant-loop-i : goal.invariant-loop-i
invariant-loop-i l = Restores l.initial.used (words l.payload) l.at l.end l.used l.here l.i
