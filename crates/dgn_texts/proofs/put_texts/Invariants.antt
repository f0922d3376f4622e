-- The loop's invariant: the walk stands at element number i, and what was put so far stands before what the rest of the room takes.
use Prim.Native.Nat.{◌-◌}
use lib.ListN.{length}
use Rattle.words.specs.Words.{words}
use Rattle.order.specs.Fitting.{in_numbers, part_of}
use Rattle.order.proofs.Fitting.{lays_numbers, Going}
use Rattle.dgn_texts.specs.Texts.{texts_from}
use Rattle.dgn_texts.proofs.Walks.{Walking}
use Rattle.dgn_texts.proofs.Places.{numbers_of}
use Rattle.dgn_texts.proofs.put_texts.Given as goal

abbrev pub invariant-loop-i : goal.invariant-loop-i
invariant-loop-i l =
    Walking (words l.file) l.i l.place l.depth l.ends l.end
    × Going in_numbers lays_numbers (part_of (length l.initial.numbers) l.k (texts_from (l.elements - l.k) l.dim (words l.file) l.k)) l.initial.numbers (numbers_of l.dim l.file l.k) l.elements l.i l.used l.numbers
